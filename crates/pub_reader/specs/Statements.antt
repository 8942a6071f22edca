-- The statements of a catalog: PostgreSQL 15, "SQL Commands".
use Rattle.std.specs.Prelude.{ℕ, List, Option, Some, Ok, Err}
use Rattle.pub_reader.specs.Grammar.k
use Rattle.pub_reader.specs.Grammar.i
use Rattle.pub_reader.specs.Grammar.{Item, Outcome, Rule, Verdict, ◌>>=◌, ◌>>◌, pure, refuse, advance, expect, item_ahead, more_ahead, each, repeat}
use Rattle.sql_reader.specs.Expressions.{Forms}
use Rattle.sql_reader.specs.Items.{items_of}
use Rattle.pub_catalog.specs.Catalogs.{CatalogOf}
use Rattle.pub_reader.specs.Drafts.{DraftOf, no_draft, resolved}
use Rattle.pub_reader.specs.Identities.{alter_table}
use Rattle.pub_reader.specs.Indexes.{create_index}
use Rattle.pub_reader.specs.Publications.{create_publication}
use Rattle.pub_reader.specs.Schemas.{create_schema}
use Rattle.pub_reader.specs.Subscriptions.{create_subscription}
use Rattle.pub_reader.specs.Tables.{create_table}

module _ {S : Type 0} (forms : Forms S) where
  abbrev pub created_by : Option Item → DraftOf S → Rule (DraftOf S)
  created_by (Some (i.Keyword k.Table)) draft = advance >> create_table draft
  created_by (Some (i.Keyword k.Publication)) draft = advance >> create_publication forms draft
  created_by (Some (i.Keyword k.Schema)) draft = advance >> create_schema draft
  created_by (Some (i.Keyword k.Subscription)) draft = advance >> create_subscription draft
  created_by (Some (i.Keyword k.Unique)) draft = advance >> create_index draft
  created_by _ draft = refuse

  unfoldable pub created : DraftOf S → Rule (DraftOf S)
  created draft ts = created_by (item_ahead ts) draft ts

  unfoldable pub create : DraftOf S → Rule (DraftOf S)
  create draft = expect (i.Keyword k.Create) >> created draft

  -- a statement, which may be empty
  abbrev pub statement_by : Option Item → DraftOf S → Rule (DraftOf S)
  statement_by (Some (i.Keyword k.Create)) draft = create draft
  statement_by (Some (i.Keyword k.Alter)) draft = alter_table draft
  statement_by (Some i.Semicolon) draft = pure draft
  statement_by _ draft = refuse

  unfoldable pub statement : DraftOf S → Rule (DraftOf S)
  statement draft ts = statement_by (item_ahead ts) draft ts

  unfoldable pub ended_statement : DraftOf S → Rule (DraftOf S)
  ended_statement draft = do
    made ← statement draft
    expect i.Semicolon
    pure made

-- statements to the end of a text
unfoldable pub statements : {S : Type 0} → Forms S → DraftOf S → Rule (DraftOf S)
statements forms = repeat (each more_ahead (ended_statement forms))

abbrev pub finished : {S : Type 0} → Outcome (DraftOf S) → Verdict (CatalogOf S)
finished (Ok read) = Ok (resolved read.0)
finished (Err fault) = Err fault

-- the catalog that a text spells, or the first fault of the text
unfoldable pub catalog_by : {S : Type 0} → Forms S → List ℕ → Verdict (CatalogOf S)
catalog_by forms text = finished (statements forms no_draft (items_of text))
