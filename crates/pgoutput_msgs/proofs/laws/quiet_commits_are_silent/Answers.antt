use Rattle.pgoutput_msgs.proofs.SilentLemmas.{quiet_are_silent}
use Rattle.pgoutput_msgs.proofs.laws.quiet_commits_are_silent.Goals as goal

pub returns : goal.returns
returns c = quiet_are_silent
