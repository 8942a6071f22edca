use Rattle.std.proofs.Common.{[]}
use Rattle.publisher_desk.proofs.KeptLemmas.{opens}
use Rattle.publisher_desk.proofs.SlotsKept as slots
use Rattle.publisher_desk.proofs.opening.Opening.new.Goals as goal

pub of_words-requires : goal.of_words-requires
of_words-requires c = opens []

pub of_words-requires-2 : goal.of_words-requires-2
of_words-requires-2 c = slots.opens []
