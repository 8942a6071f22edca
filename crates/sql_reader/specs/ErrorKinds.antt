-- What may be wrong with a text, without the words that say what was expected there.
use Rattle.std.specs.Prelude.{Option, Some, None}
use Rattle.sql_tokens.specs.declared.kinds.FaultKind.{FaultKind}
use Rattle.sql_tokens.specs.declared.kinds.FaultKind.TheVariants as f
use Rattle.sql_reader.specs.declared.error.ErrorKind.{ErrorKind}
use Rattle.sql_reader.specs.declared.error.ErrorKind.TheVariants as e
use Rattle.sql_reader.specs.declared.error.Omitted.{Omitted}
use Rattle.sql_reader.specs.declared.error.Omitted.TheVariants.{Number, StringForm, Operator}
use Rattle.sql_reader.specs.declared.error.Limit.{Limit}
use Rattle.sql_reader.specs.declared.error.Limit.TheVariants.{LiteralBytes}

pub data ErrorKindOf : Type 0 where
  BadToken : ErrorKindOf
  Expected : ErrorKindOf
  NameTooLong : ErrorKindOf
  UnknownName : ErrorKindOf
  NameTwice : ErrorKindOf
  ColumnList : ErrorKindOf
  LeftOut : Omitted → ErrorKindOf
  TypeClash : ErrorKindOf
  NumberTooLarge : ErrorKindOf
  ZeroDivisor : ErrorKindOf
  TooDeep : ErrorKindOf
  TooMany : Limit → ErrorKindOf
  NoKey : ErrorKindOf
  TableTwice : ErrorKindOf
  NullableIndex : ErrorKindOf

-- what is wrong according to an error; out of memory says nothing about the text
abbrev pub wrong_of : ErrorKind → Option ErrorKindOf
wrong_of e.BadToken = Some BadToken
wrong_of (e.Expected what) = Some Expected
wrong_of e.NameTooLong = Some NameTooLong
wrong_of e.UnknownName = Some UnknownName
wrong_of e.NameTwice = Some NameTwice
wrong_of e.ColumnList = Some ColumnList
wrong_of (e.LeftOut form) = Some (LeftOut form)
wrong_of e.TypeClash = Some TypeClash
wrong_of e.NumberTooLarge = Some NumberTooLarge
wrong_of e.ZeroDivisor = Some ZeroDivisor
wrong_of e.TooDeep = Some TooDeep
wrong_of (e.TooMany limit) = Some (TooMany limit)
wrong_of e.NoKey = Some NoKey
wrong_of e.TableTwice = Some TableTwice
wrong_of e.OutOfMemory = None
wrong_of e.NullableIndex = Some NullableIndex

-- what is wrong if a token is faulty
abbrev pub wrong_token : FaultKind → ErrorKindOf
wrong_token f.BadToken = BadToken
wrong_token f.NameTooLong = NameTooLong
wrong_token f.NumberTooLarge = NumberTooLarge
wrong_token f.LiteralBytes = TooMany LiteralBytes
wrong_token f.Number = LeftOut Number
wrong_token f.StringForm = LeftOut StringForm
wrong_token f.Operator = LeftOut Operator
