-- The statements that create a table, with its indexes and its identity, tell the table.
use Rattle.std.proofs.Common.{◌≡◌, ℕ, ◌<◌, List, ◌++◌, All, length, map, refl, sym, ap, subst, ◌∙◌}
use Rattle.std.specs.Prelude.{codes}
use Rattle.std.specs.List.{IsDistinct, flat_map}
use Rattle.std.specs.Str.{bytes_eq}
use Rattle.std.proofs.lemmas.List.{append_cancel_left}
use Rattle.filter_tree.specs.declared.table.Column.{Column}
use Rattle.filter_tree.specs.declared.table.Identity.{Identity}
use Rattle.filter_tree.specs.declared.table.Table.{Table}
use Rattle.filter_tree.specs.declared.table.UniqueIndex.{UniqueIndex}
use Rattle.catalog_text.specs.FilterText.{name_text}
use Rattle.catalog_text.specs.CatalogText.{column_text, columns_text, table_sql, create_text, index_text, identity_text, alter_text, table_text}
use Rattle.catalog_laws.proofs.UniqueTexts.{Tells, Any, Starts, has_byte, differ, grouped, word_off, list_tells}
use Rattle.catalog_laws.proofs.NamedPlaces.{name_tells, relation_text, relation_tells}
use Rattle.catalog_laws.proofs.StatementWords.{column_tells, columns_tell, IsOneOf, identity_tells}

abbrev pub Relation : Type 0
Relation = List ℕ × List ℕ

abbrev pub relation : Table → Relation
relation table = (table.schema, table.name)

abbrev HasColumns : List Column → UniqueIndex → Type 0
HasColumns columns index = All (λ number. number < length columns) index.columns

-- names differ, and numbers are of columns and indexes: such a table is determined by its text
pub record IsClear (table : Table) : Type 0 where
  pub named : IsDistinct bytes_eq (map (λ column. column.name) table.columns)
  pub keyed : All (λ number. number < length table.columns) table.key
  pub indexed : All (HasColumns table.columns) table.indexes
  pub apart : IsDistinct bytes_eq (map (λ index. index.name) table.indexes)
  pub identified : IsOneOf table.indexes table.identity

-- ---- the statements, by what they write of the table

abbrev key_line : List Column → List ℕ → List ℕ
key_line columns key = codes "PRIMARY KEY" ++ (columns_text columns key ++ codes ");\n")

abbrev create_line : Relation → List Column → List ℕ → List ℕ
create_line named columns key =
    codes "CREATE TABLE " ++ (relation_text named ++ (codes " (" ++ (flat_map column_text columns
    ++ key_line columns key)))

abbrev index_end : Relation → List Column → List ℕ → List ℕ
index_end named columns numbers =
    codes " ON " ++ (relation_text named ++ (columns_text columns numbers ++ codes ";\n"))

abbrev index_line : Relation → List Column → UniqueIndex → List ℕ
index_line named columns index =
    codes "CREATE UNIQUE INDEX " ++ (name_text index.name ++ index_end named columns index.columns)

abbrev alter_line : Relation → List UniqueIndex → Identity → List ℕ
alter_line named indexes identity =
    codes "ALTER TABLE " ++ (relation_text named ++ (codes " REPLICA IDENTITY "
    ++ (identity_text indexes identity ++ codes ";\n")))

abbrev rest_lines : Relation → List Column → List UniqueIndex → Identity → List ℕ
rest_lines named columns indexes identity =
    flat_map (index_line named columns) indexes ++ alter_line named indexes identity

lines_of : (table : Table)
    → table_text table ≡ create_line (relation table) table.columns table.key
    ++ rest_lines (relation table) table.columns table.indexes table.identity
unfolding table_text create_text index_text alter_text table_sql
lines_of table = refl

-- ---- CREATE UNIQUE INDEX

same_index : (one other : UniqueIndex) → one.name ≡ other.name → one.columns ≡ other.columns → one ≡ other
same_index one other e f = λ i. record { name = e i; columns = f i }

index_tells : (named : Relation) (columns : List Column) → IsDistinct bytes_eq (map (λ column. column.name) columns)
    → Tells (HasColumns columns) (index_line named columns) Any
index_tells named columns own one other x y p q f g e =
    let ends : UniqueIndex → List ℕ = λ index. index_end named columns index.columns in
    let list : UniqueIndex → List ℕ = λ index. columns_text columns index.columns ++ codes ";\n" in
    let name = name_tells one.name other.name (ends one ++ x) (ends other ++ y) tt tt refl refl
    (grouped (name_text one.name) (ends one) x (name_text other.name) (ends other) y
    (word_off (codes "CREATE UNIQUE INDEX ") (name_text one.name ++ ends one) x (name_text other.name ++ ends other) y
    e)) in
    let numbers = columns_tell columns own one.columns other.columns (codes ";\n" ++ x) (codes ";\n" ++ y) p q tt tt
    (grouped (columns_text columns one.columns) (codes ";\n") x (columns_text columns other.columns) (codes ";\n") y
    (word_off (relation_text named) (list one) x (list other) y
    (word_off (codes " ON ") (relation_text named ++ list one) x (relation_text named ++ list other) y name.1))) in
    (same_index one other name.0 numbers.0, append_cancel_left (codes ";\n") x y numbers.1)

indexes_tell : (named : Relation) (columns : List Column) → IsDistinct bytes_eq (map (λ column. column.name) columns)
    → Tells (All (HasColumns columns)) (flat_map (index_line named columns)) (Starts (codes "ALTER TABLE "))
indexes_tell named columns own =
    list_tells (HasColumns columns) (index_line named columns) Any (Starts (codes "ALTER TABLE "))
    (index_tells named columns own) (λ a x. tt) (λ x f. tt)
    (λ a x y p f e. differ 0 67 (index_line named columns a ++ x) y refl (ap (has_byte 0 67) f.1) e)

-- ---- ALTER TABLE

alter_tells : (named : Relation) (indexes : List UniqueIndex) → IsDistinct bytes_eq (map (λ index. index.name) indexes)
    → Tells (IsOneOf indexes) (alter_line named indexes) Any
alter_tells named indexes own one other x y p q f g e =
    let list : Identity → List ℕ = λ identity. identity_text indexes identity ++ codes ";\n" in
    let identity = identity_tells indexes own one other (codes ";\n" ++ x) (codes ";\n" ++ y) p q
    (codes "\n" ++ x, refl) (codes "\n" ++ y, refl)
    (grouped (identity_text indexes one) (codes ";\n") x (identity_text indexes other) (codes ";\n") y
    (word_off (codes " REPLICA IDENTITY ") (list one) x (list other) y
    (word_off (relation_text named) (codes " REPLICA IDENTITY " ++ list one) x
    (codes " REPLICA IDENTITY " ++ list other) y
    (word_off (codes "ALTER TABLE ") (relation_text named ++ (codes " REPLICA IDENTITY " ++ list one)) x
    (relation_text named ++ (codes " REPLICA IDENTITY " ++ list other)) y e)))) in
    (identity.0, append_cancel_left (codes ";\n") x y identity.1)

rest_tells : (named : Relation) (columns : List Column) (ones others : List UniqueIndex) (one other : Identity)
    (x y : List ℕ) → IsDistinct bytes_eq (map (λ column. column.name) columns)
    → IsDistinct bytes_eq (map (λ index. index.name) ones) → All (HasColumns columns) ones
    → All (HasColumns columns) others → IsOneOf ones one → IsOneOf others other
    → rest_lines named columns ones one ++ x ≡ rest_lines named columns others other ++ y
    → (ones ≡ others) × (one ≡ other) × (x ≡ y)
rest_tells named columns ones others one other x y own apart p q a b e =
    let after : List UniqueIndex → Identity → List ℕ → List ℕ =
    λ indexes identity z. (relation_text named ++ (codes " REPLICA IDENTITY "
    ++ (identity_text indexes identity ++ codes ";\n"))) ++ z in
    let indexes = indexes_tell named columns own ones others (alter_line named ones one ++ x)
    (alter_line named others other ++ y) p q (after ones one x, refl) (after others other y, refl)
    (grouped (flat_map (index_line named columns) ones) (alter_line named ones one) x
    (flat_map (index_line named columns) others) (alter_line named others other) y e) in
    let back = sym indexes.0 in
    let identity = alter_tells named ones apart one other x y a (subst (λ list. IsOneOf list other) back b) tt tt
    (subst (λ list. alter_line named ones one ++ x ≡ alter_line named list other ++ y) back indexes.1) in
    (indexes.0, identity.0, identity.1)

-- ---- CREATE TABLE

-- what is determined by a table's first statement, and the rest of what is written
abbrev Created : Table → Table → List ℕ → List ℕ → Type 0
Created one other x y =
    (one.schema ≡ other.schema) × (one.name ≡ other.name) × (one.columns ≡ other.columns) × (one.key ≡ other.key)
    × (x ≡ y)

all_columns_tell : Tells (All (Any {A = Column})) (flat_map column_text) (Starts (codes "PRIMARY KEY"))
unfolding column_text
all_columns_tell =
    list_tells Any column_text Any (Starts (codes "PRIMARY KEY")) column_tells (λ a x. tt) (λ x f. tt)
    (λ a x y p f e. differ 0 34 (column_text a ++ x) y refl (ap (has_byte 0 34) f.1) e)

create_tells : (one other : Table) (x y : List ℕ) → IsClear one → IsClear other
    → create_line (relation one) one.columns one.key ++ x ≡ create_line (relation other) other.columns other.key ++ y
    → Created one other x y
create_tells one other x y p q e =
    let after : Table → List ℕ = λ table. codes " (" ++ (flat_map column_text table.columns
    ++ key_line table.columns table.key) in
    let named = relation_tells (relation one) (relation other) (after one ++ x) (after other ++ y) tt tt refl refl
    (grouped (relation_text (relation one)) (after one) x (relation_text (relation other)) (after other) y
    (word_off (codes "CREATE TABLE ") (relation_text (relation one) ++ after one) x
    (relation_text (relation other) ++ after other) y e)) in
    let key : Table → List ℕ = λ table. columns_text table.columns table.key ++ codes ");\n" in
    let columns = all_columns_tell one.columns other.columns (key_line one.columns one.key ++ x)
    (key_line other.columns other.key ++ y) (λ n d low. tt) (λ n d low. tt) (key one ++ x, refl) (key other ++ y, refl)
    (grouped (flat_map column_text one.columns) (key_line one.columns one.key) x (flat_map column_text other.columns)
    (key_line other.columns other.key) y
    (word_off (codes " (") (flat_map column_text one.columns ++ key_line one.columns one.key) x
    (flat_map column_text other.columns ++ key_line other.columns other.key) y named.1)) in
    let back = sym columns.0 in
    let keys = columns_tell one.columns p.named one.key other.key (codes ");\n" ++ x) (codes ");\n" ++ y) p.keyed
    (subst (λ list. All (λ number. number < length list) other.key) back q.keyed) tt tt
    (subst (λ list. columns_text one.columns one.key ++ (codes ");\n" ++ x)
    ≡ columns_text list other.key ++ (codes ");\n" ++ y)) back
    (grouped (columns_text one.columns one.key) (codes ");\n") x (columns_text other.columns other.key) (codes ");\n") y
    (word_off (codes "PRIMARY KEY") (key one) x (key other) y columns.1))) in (
      ap (λ (r : Relation). r.0) named.0,
      ap (λ (r : Relation). r.1) named.0,
      columns.0,
      keys.0,
      append_cancel_left (codes ");\n") x y keys.1,
    )

-- ---- a table

same_table : (one other : Table) → one.schema ≡ other.schema → one.name ≡ other.name → one.columns ≡ other.columns
    → one.key ≡ other.key → one.indexes ≡ other.indexes → one.identity ≡ other.identity → one ≡ other
same_table one other a b c d e f =
    λ i. record { schema = a i; name = b i; columns = c i; key = d i; indexes = e i; identity = f i }

abbrev rest_of_table : Table → List ℕ
rest_of_table table = rest_lines (relation table) table.columns table.indexes table.identity

abbrev first_of_table : Table → List ℕ
first_of_table table = create_line (relation table) table.columns table.key

pub table_tells : Tells IsClear table_text Any
table_tells one other x y p q f g e =
    let created = create_tells one other (rest_of_table one ++ x) (rest_of_table other ++ y) p q
    (grouped (first_of_table one) (rest_of_table one) x (first_of_table other) (rest_of_table other) y
    (ap (λ (t : List ℕ). t ++ x) (sym (lines_of one)) ∙ e ∙ ap (λ (t : List ℕ). t ++ y) (lines_of other))) in
    let back = sym created.2 in
    let same_relation : relation other ≡ relation one = sym (λ i. (created.0 i, created.1 i)) in
    let rest = rest_tells (relation one) one.columns one.indexes other.indexes one.identity other.identity x y p.named
    p.apart p.indexed (subst (λ columns. All (HasColumns columns) other.indexes) back q.indexed) p.identified
    q.identified
    (subst (λ named. rest_of_table one ++ x ≡ rest_lines named one.columns other.indexes other.identity ++ y)
    same_relation
    (subst (λ columns. rest_of_table one ++ x ≡ rest_lines (relation other) columns other.indexes other.identity ++ y)
    back created.4)) in
    (same_table one other created.0 created.1 created.2 created.3 rest.0 rest.1, rest.2)
