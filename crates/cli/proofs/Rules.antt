-- What the proofs of functions use, under one name for each.
use Rattle.cli.proofs.LineLemmas.{line_begins, line_goes_on, line_ends, line_waits, line_is_last, line_is_lost}

pub ruleset line_turns = (line_begins, line_goes_on, line_ends, line_waits, line_is_last, line_is_lost)
