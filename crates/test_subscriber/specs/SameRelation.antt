-- Whether two Relation messages are equal, field by field: PostgreSQL 15, 55.9. Logical Replication Message Formats
-- (Relation).
use Rattle.std.specs.Prelude.{Bool, true, false, ◌&&◌, nat_eq, List, [], ◌∷◌}
use Rattle.std.specs.Bool.{beq}
use Rattle.std.specs.Ordering.{int_eq}
use Rattle.std.specs.Str.{bytes_eq}
use Rattle.pgoutput_msgs.specs.declared.relation.Relation.{Relation}
use Rattle.pgoutput_msgs.specs.declared.relation.RelationColumn.{RelationColumn}
use Rattle.pgoutput_msgs.specs.declared.relation.ReplicaIdentity.{ReplicaIdentity}
use Rattle.pgoutput_msgs.specs.declared.relation.ReplicaIdentity.TheVariants.{Default, Nothing, Full, Index}

abbrev pub same_identity : ReplicaIdentity → ReplicaIdentity → Bool
same_identity Default Default = true
same_identity Nothing Nothing = true
same_identity Full Full = true
same_identity Index Index = true
same_identity _ _ = false

abbrev pub same_column : RelationColumn → RelationColumn → Bool
same_column one other =
    beq one.is_key other.is_key
    && (bytes_eq one.name other.name
    && (nat_eq one.type_oid other.type_oid && int_eq one.type_modifier other.type_modifier))

abbrev pub same_columns : List RelationColumn → List RelationColumn → Bool
same_columns [] [] = true
same_columns (column ∷ columns) (other ∷ others) = same_column column other && same_columns columns others
same_columns _ _ = false

abbrev pub same_relation : Relation → Relation → Bool
same_relation one other =
    nat_eq one.oid other.oid
    && (bytes_eq one.namespace other.namespace
    && (bytes_eq one.name other.name
    && (same_identity one.identity other.identity && same_columns one.columns other.columns)))
