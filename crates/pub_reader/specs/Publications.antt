-- CREATE PUBLICATION: PostgreSQL 15, SQL Commands, CREATE PUBLICATION.
use Rattle.std.specs.Prelude.{true, nat_le, [], ◌∷◌, ◌++◌, length, Option, Some, None}
use Rattle.pub_reader.specs.Grammar.k
use Rattle.pub_reader.specs.Grammar.i
use Rattle.pub_reader.specs.Grammar.{Item, PlacedName, Rule, Verdict, ◌>>=◌, ◌>>◌, pure, check, advance, expect, item_ahead, name}
use Rattle.sql_reader.specs.declared.error.Limit.TheVariants.{Publications}
use Rattle.sql_reader.specs.Expressions.{Forms}
use Rattle.pub_catalog.specs.declared.catalog.Operations.{Operations}
use Rattle.pub_reader.specs.declared.parameter.Given.{Given}
use Rattle.pub_catalog.specs.Catalogs.{every_operation}
use Rattle.pub_reader.specs.Drafts.{CoverageOf, DraftOf, nothing_covered, find_publication}
use Rattle.pub_reader.specs.Objects.{objects}
use Rattle.pub_reader.specs.Publishing.{parameters_clause}
use Rattle.pub_reader.specs.Schemas.{fresh}

-- a new publication has a new name, and there are at most 64 publications
unfoldable pub check_new_publication : {S : Type 0} → DraftOf S → PlacedName → Verdict (Unit {0})
check_new_publication draft called =
    fresh called (find_publication called.text draft.publications) (nat_le 64 (length draft.publications))
    Publications

unfoldable pub new_publication_name : {S : Type 0} → DraftOf S → Rule PlacedName
new_publication_name draft = do
  called ← name
  check (check_new_publication draft called)
  pure called

-- every table, including those that are created later
unfoldable pub all_tables : {S : Type 0} → Rule (CoverageOf S)
all_tables = do
  expect (i.Keyword k.All)
  expect (i.Keyword k.Tables)
  pure (record nothing_covered { everything = true })

abbrev pub published : Option Operations → Operations
published None = every_operation
published (Some listed) = listed

-- the draft with one more publication
abbrev pub with_publication : {S : Type 0} → DraftOf S → PlacedName → CoverageOf S → Given → DraftOf S
with_publication draft called coverage given =
    record draft {
      publications =
          draft.publications
          ++ record { name = called.text; publishes = published given.publishes; coverage = coverage } ∷ [];
    }

module _ {S : Type 0} (forms : Forms S) where
  unfoldable pub listed_objects : DraftOf S → Rule (CoverageOf S)
  listed_objects draft = objects forms draft >>= (λ read. pure read.coverage)

  -- after FOR
  abbrev pub scope_by : Option Item → DraftOf S → Rule (CoverageOf S)
  scope_by (Some (i.Keyword k.All)) draft = all_tables
  scope_by _ draft = listed_objects draft

  unfoldable pub scope : DraftOf S → Rule (CoverageOf S)
  scope draft ts = scope_by (item_ahead ts) draft ts

  -- a publication without FOR has no tables
  abbrev pub for_by : Option Item → DraftOf S → Rule (CoverageOf S)
  for_by (Some (i.Keyword k.For)) draft = advance >> scope draft
  for_by _ draft = pure nothing_covered

  unfoldable pub for_clause : DraftOf S → Rule (CoverageOf S)
  for_clause draft ts = for_by (item_ahead ts) draft ts

  unfoldable pub create_publication : DraftOf S → Rule (DraftOf S)
  create_publication draft = do
    called ← new_publication_name draft
    coverage ← for_clause draft
    given ← parameters_clause
    pure (with_publication draft called coverage given)
