-- The names of the kinds of error, without what they carry.
use Rattle.std.specs.Prelude.{ℕ, List, codes}
use Rattle.sql_reader.specs.declared.error.ErrorKind.{ErrorKind}
use Rattle.sql_reader.specs.declared.error.ErrorKind.TheVariants as e

abbrev pub kind_name : ErrorKind → List ℕ
kind_name e.BadToken = codes "BadToken"
kind_name (e.Expected what) = codes "Expected"
kind_name e.NameTooLong = codes "NameTooLong"
kind_name e.UnknownName = codes "UnknownName"
kind_name e.NameTwice = codes "NameTwice"
kind_name e.ColumnList = codes "ColumnList"
kind_name (e.LeftOut form) = codes "LeftOut"
kind_name e.TypeClash = codes "TypeClash"
kind_name e.NumberTooLarge = codes "NumberTooLarge"
kind_name e.ZeroDivisor = codes "ZeroDivisor"
kind_name e.TooDeep = codes "TooDeep"
kind_name (e.TooMany limit) = codes "TooMany"
kind_name e.NoKey = codes "NoKey"
kind_name e.TableTwice = codes "TableTwice"
kind_name e.OutOfMemory = codes "OutOfMemory"
kind_name e.NullableIndex = codes "NullableIndex"
