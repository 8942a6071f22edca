-- The values of rows and the constants of filters of the program as plain data, whichever memory they are in.
use Rattle.filter_tree.specs.Datum.{Constant, Number, Truth, Bytes, Datum, Missing, Known}
use Rattle.filter_tree.specs.declared.value.Value.{Value}
use Rattle.filter_tree.specs.declared.value.Value.TheVariants.{Null, Int, Bool, Text}
use Rattle.filter_tree.specs.declared.value.Literal.{Literal}
use Rattle.filter_tree.specs.declared.value.Literal.TheVariants.{Int as IntLiteral, Bool as BoolLiteral, Text as TextLiteral}

abbrev pub datum_view : {A : _} → Value A → Datum
datum_view Null = Missing
datum_view (Int number) = Known (Number number)
datum_view (Bool truth) = Known (Truth truth)
datum_view (Text bytes) = Known (Bytes bytes)

abbrev pub constant_view : {A : _} → Literal A → Constant
constant_view (IntLiteral number) = Number number
constant_view (BoolLiteral truth) = Truth truth
constant_view (TextLiteral bytes) = Bytes bytes
