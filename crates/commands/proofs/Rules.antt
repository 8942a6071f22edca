-- What the proofs of functions use, under one name for each.
use Rattle.commands.proofs.FindingLines.{none_written, one_written, all_written}
use Rattle.commands.proofs.Pieces.{read_nothing, read_more, read_again, read_all, read_too_much, read_too_often}

pub ruleset writing_tables = (none_written, one_written, all_written)

pub ruleset reading_pieces = (read_nothing, read_more, read_again, read_all, read_too_much, read_too_often)
