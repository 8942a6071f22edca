-- The parameters of a publication: PostgreSQL 15, SQL Commands, CREATE PUBLICATION, WITH.
use Rattle.std.specs.Prelude.{ℕ, Bool, true, false, ◌||◌, ◌==◌, if◌then◌else◌, List, Option, Some, None, Ok, codes}
use Rattle.std.specs.Option.{is_some}
use Rattle.std.specs.Str.{str_eq_ignore_ascii_case}
use Rattle.sql_tokens.specs.declared.kinds.Operator.TheVariants.{Equal}
use Rattle.pub_reader.specs.Grammar.k
use Rattle.pub_reader.specs.Grammar.i
use Rattle.pub_reader.specs.Grammar.w
use Rattle.pub_reader.specs.Grammar.{Item, Rule, ◌>>=◌, ◌>>◌, pure, refuse, refuse_as, advance, look, expect, is_ahead, item_ahead, written_ahead, rest_of, link, repeat, name_ahead}
use Rattle.pub_catalog.specs.declared.catalog.Operations.{Operations}
use Rattle.pub_reader.specs.declared.parameter.Parameter.{Parameter}
use Rattle.pub_reader.specs.declared.parameter.Parameter.TheVariants as p
use Rattle.pub_reader.specs.declared.parameter.Given.{Given}
use Rattle.pub_reader.specs.Operations.{operations}

-- ---- publish

abbrev pub operations_taken : Option Operations → Rule Operations
operations_taken (Some listed) = λ ts. Ok (listed, rest_of ts)
operations_taken None = refuse_as w.UnknownName

-- The value is a string or a word. No operation has a quote in its name, so a doubled quote need not be undone.
abbrev pub operations_by : Option Item → List ℕ → Rule Operations
operations_by (Some i.Text) written = operations_taken (operations written)
operations_by (Some i.Word) written = operations_taken (operations written)
operations_by (Some (i.Keyword keyword)) written = operations_taken (operations written)
operations_by _ written = refuse

unfoldable pub operations_value : Rule Operations
operations_value ts = operations_by (item_ahead ts) (written_ahead ts) ts

unfoldable pub publish : Given → Rule Given
publish given = do
  advance
  expect (i.Operator Equal)
  listed ← operations_value
  pure (record given { publishes = Some listed })

-- ---- publish_via_partition_root

abbrev pub is_boolean : List ℕ → Bool
is_boolean word =
    str_eq_ignore_ascii_case word (codes "true")
    || (str_eq_ignore_ascii_case word (codes "false")
    || (str_eq_ignore_ascii_case word (codes "on") || str_eq_ignore_ascii_case word (codes "off")))

abbrev pub boolean_taken : Bool → Rule (Unit {0})
boolean_taken true = advance
boolean_taken false = refuse_as w.TypeClash

abbrev pub boolean_by : Option Item → List ℕ → Rule (Unit {0})
boolean_by (Some (i.Number number)) written = boolean_taken (number == 0 || number == 1)
boolean_by (Some i.Text) written = boolean_taken (is_boolean written)
boolean_by (Some i.Word) written = boolean_taken (is_boolean written)
boolean_by (Some (i.Keyword keyword)) written = boolean_taken (is_boolean written)
boolean_by _ written = refuse

unfoldable pub boolean_value : Rule (Unit {0})
boolean_value ts = boolean_by (item_ahead ts) (written_ahead ts) ts

unfoldable pub given_boolean : Rule (Unit {0})
given_boolean = expect (i.Operator Equal) >> boolean_value

-- without a value it is true; it has no effect, since no table has partitions
unfoldable pub boolean_or_none : Rule (Unit {0})
boolean_or_none = look >> (λ ts. if is_ahead (i.Operator Equal) ts then given_boolean ts else pure tt ts)

unfoldable pub partition_root : Given → Rule Given
partition_root given = do
  advance
  boolean_or_none
  pure (record given { partition_root = true })

-- ---- parameters, each at most once

abbrev pub parameter_named : List ℕ → Option Parameter
parameter_named word =
    if str_eq_ignore_ascii_case word (codes "publish") then Some p.Publish else
    if str_eq_ignore_ascii_case word (codes "publish_via_partition_root") then Some p.PartitionRoot else
    None

-- a quoted name names none of them
abbrev pub parameter_by : Option Item → List ℕ → Option Parameter
parameter_by (Some i.QuotedName) written = None
parameter_by _ written = parameter_named written

abbrev pub parameter_given : Option Parameter → Given → Rule Given
parameter_given (Some p.Publish) given = if is_some given.publishes then refuse_as w.NameTwice else publish given
parameter_given (Some p.PartitionRoot) given = if given.partition_root then
    refuse_as w.NameTwice else partition_root given
parameter_given None given = refuse_as w.UnknownName

unfoldable pub one_parameter : Given → Rule Given
one_parameter given ts =
    if name_ahead ts then parameter_given (parameter_by (item_ahead ts) (written_ahead ts)) given ts
    else refuse ts

abbrev pub none_given : Given
none_given = record { publishes = None; partition_root = false }

unfoldable pub parameters : Rule Given
parameters = one_parameter none_given >>= repeat (link i.Comma one_parameter)

unfoldable pub parameter_list : Rule Given
parameter_list = do
  expect (i.Keyword k.With)
  expect i.Open
  given ← parameters
  expect i.Close
  pure given

abbrev pub parameters_by : Option Item → Rule Given
parameters_by (Some (i.Keyword k.With)) = parameter_list
parameters_by _ = pure none_given

unfoldable pub parameters_clause : Rule Given
parameters_clause ts = parameters_by (item_ahead ts) ts
