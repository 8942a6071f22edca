-- The names with which the rules of the grammar are written: keywords `k`, tokens `i`, what is wrong `w`, and how rules
-- are read.
pub use Rattle.sql_reader.specs.declared.word.Keyword.TheVariants as k
pub use Rattle.sql_reader.specs.declared.item.Item.TheVariants as i
pub use Rattle.sql_reader.specs.ErrorKinds as w
pub use Rattle.sql_reader.specs.declared.item.Item.{Item}
pub use Rattle.sql_reader.specs.declared.name.PlacedName.{PlacedName}
pub use Rattle.sql_reader.specs.Reading.{Rule, ◌>>=◌, ◌>>◌, pure, refuse, refuse_as, advance, look, expect, is_ahead, item_ahead, written_ahead, rest_of, Verdict, fault, check, eat, here, more_ahead, next_is, Outcome}
pub use Rattle.sql_reader.specs.Repetitions.{link, repeat, each}
pub use Rattle.sql_reader.specs.Names.{name_ahead, name}
