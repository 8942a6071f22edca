-- What a Relation message says of the rows of its table: the types of the columns, and the columns of the replica
-- identity: PostgreSQL 15, 55.9. Logical Replication Message Formats (Relation), and 53.64. pg_type.
use Rattle.std.specs.Prelude.{ℕ, ◌+◌, ◌==◌, Bool, true, false, if◌then◌else◌, List, [], ◌∷◌, Option, Some, None}
use Rattle.std.specs.Option.{option_map}
use Rattle.filter_tree.specs.declared.table.ColType.{ColType}
use Rattle.filter_tree.specs.declared.table.ColType.TheVariants as k
use Rattle.pgoutput_msgs.specs.declared.relation.Relation.{Relation}
use Rattle.pgoutput_msgs.specs.declared.relation.RelationColumn.{RelationColumn}
use Rattle.test_subscriber.specs.declared.shape.TableShape.{TableShape}

-- the type with this OID
abbrev pub kind_with : ℕ → Option ColType
kind_with oid =
    if oid == 16 then Some k.Boolean
    else (if oid == 20 then Some k.BigInt
    else (if oid == 21 then Some k.SmallInt
    else (if oid == 23 then Some k.Integer
    else (if oid == 25 then Some k.Text else None))))

-- a type, and those of the other columns
abbrev pub with_kind : Option ColType → Option (List ColType) → Option (List ColType)
with_kind None others = None
with_kind (Some kind) None = None
with_kind (Some kind) (Some others) = Some (kind ∷ others)

-- the types of the columns, if each has one that is known
abbrev pub kinds_of : List RelationColumn → Option (List ColType)
kinds_of [] = Some []
kinds_of (column ∷ columns) = with_kind (kind_with column.type_oid) (kinds_of columns)

abbrev pub if_flagged : Bool → ℕ → List ℕ → List ℕ
if_flagged true number others = number ∷ others
if_flagged false number others = others

-- the numbers of the columns that are flagged, the first of which has this number
abbrev pub flagged_from : ℕ → List RelationColumn → List ℕ
flagged_from number [] = []
flagged_from number (column ∷ columns) = if_flagged column.is_key number (flagged_from (number + 1) columns)

abbrev pub shaped : Relation → List ColType → TableShape
shaped relation kinds = record { relation = relation; kinds = kinds; key = flagged_from 0 relation.columns }

-- what is kept of a Relation, if the types of all columns are known
abbrev pub shape_of : Relation → Option TableShape
shape_of relation = option_map (λ kinds. shaped relation kinds) (kinds_of relation.columns)
