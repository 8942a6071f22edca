-- What `make` answers: its input is a catalog, and a line is written for each of its tables, in order: a certificate of
-- the table, a row that shows that it is not sharded correctly, or that neither was found.
use Rattle.std.specs.Prelude.{◌≡◌, ◌≢◌, ◌⊎◌, ℕ, ◌+◌, Bool, true, false, ◌&&◌, if◌then◌else◌, List, [], ◌∷◌, ◌++◌, length, Option, None, is_none, Result, Ok, codes}
use Rattle.std.specs.Io.KnownBytes.{Appends}
use Rattle.std.specs.List.{join_by}
use Rattle.cert_maker.specs.Answers.{IsAcceptedCert, IsCounter}
use Rattle.filter_tree.specs.Datum.{Datum}
use Rattle.filter_tree.specs.Expr.{Expr}
use Rattle.pub_catalog.specs.Catalogs.{CatalogOf}
use Rattle.pub_reader.specs.Statements.{catalog_by}
use Rattle.pub_catalog.specs.declared.catalog.Subscription.{Subscription}
use Rattle.replica_identity.specs.Plans.{plan_of}
use Rattle.split_cert.specs.Text.{cert_text}
use Rattle.split_cert.specs.Tree.{Tree}
use Rattle.sql_reader.specs.Reading.{Tells, read_fault}
use Rattle.sql_reader.specs.Written.{as_filter}
use Rattle.sql_reader.specs.WrittenRows.{row_text}
use Rattle.commands.specs.Parts.{cut_of}
use Rattle.commands.specs.Names.{spaced, subscriber_name, plain_table}
use Rattle.commands.specs.Output.{Ends, StopsText, Writes, ended}
use Rattle.commands.specs.declared.failure.Failure.{Failure}
use Rattle.commands.specs.declared.failure.InputFault.{InputFault}
use Rattle.commands.specs.declared.failure.InputFault.TheVariants as i
use Rattle.commands.specs.declared.failure.Status.{Status}
use Rattle.commands.specs.declared.failure.Status.TheVariants.{Done, Refused}
use Rattle.cert_maker.specs.declared.made.Made.{Made}
use Rattle.cert_maker.specs.declared.made.Made.TheVariants as m
use Rattle.split_cert.specs.Where.{tree_view}

-- ---- what is found of a table

-- a certificate; a row and the subscribers that get it; neither; or no certificate within the limits, and no row
pub data Finding : Type 0 where
  Cert : Tree → Finding
  Counter : List Datum → List ℕ → Finding
  Unknown : Finding
  TooLarge : Finding

-- what the maker's answer says of a table; nothing if memory ran out
abbrev pub finding_view : Made → Finding
finding_view (m.Cert cert) = Cert (tree_view cert)
finding_view (m.Counter row owners) = Counter row owners.items
finding_view m.Unknown = Unknown
finding_view m.TooLarge = TooLarge
finding_view m.OutOfMemory = Unknown

-- The check accepts the certificate with the catalog's own plan; the row fits the table and passes to exactly these
-- subscribers, which are none or several. The others say nothing of the table.
abbrev pub IsTrueOf : CatalogOf Expr → ℕ → Finding → Type 0
IsTrueOf catalog number (Cert tree) = IsAcceptedCert catalog (plan_of catalog) number tree
IsTrueOf catalog number (Counter row owners) = IsCounter catalog (plan_of catalog) number row owners
IsTrueOf catalog number Unknown = Unit {0}
IsTrueOf catalog number TooLarge = Unit {0}

abbrev pub is_certificate : Finding → Bool
is_certificate (Cert tree) = true
is_certificate _ = false

-- ---- its line

-- the names of subscribers, separated by commas, or `none`
abbrev pub owners_text : List Subscription → List ℕ → List ℕ
owners_text subscriptions [] = codes "none"
owners_text subscriptions (owner ∷ owners) = join_by (subscriber_name subscriptions) (codes ",") (owner ∷ owners)

abbrev pub counter_words : CatalogOf Expr → ℕ → List Datum → List ℕ → List (List ℕ)
counter_words catalog number row owners =
    plain_table catalog.tables number ∷ row_text row ∷ codes "owners" ∷ owners_text catalog.subscriptions owners ∷ []

abbrev pub line_for : CatalogOf Expr → ℕ → Finding → List ℕ
line_for catalog number (Cert tree) = cert_text tree
line_for catalog number (Counter row owners) = codes "counter" ++ spaced (counter_words catalog number row owners)
line_for catalog number Unknown = codes "unknown" ++ spaced (plain_table catalog.tables number ∷ [])
line_for catalog number TooLarge = codes "too large" ++ spaced (plain_table catalog.tables number ∷ [])

-- ---- what is answered

module _ (catalog : CatalogOf Expr) where
  -- a line for each of the first `n` tables, and whether each of the lines is a certificate
  pub data AreTableLines : ℕ → Bool → List (List ℕ) → Type 0 where
    NoTable : AreTableLines 0 true []
    OneMore : (number : ℕ) (all : Bool) (lines : List (List ℕ)) (finding : Finding) → AreTableLines number all lines
        → IsTrueOf catalog number finding
        → AreTableLines (number + 1) (all && is_certificate finding) (lines ++ line_for catalog number finding ∷ [])

abbrev pub status_for : Bool → Status
status_for all = if all then Done else Refused

-- the lines are those of the first tables of the catalog, which determine the status, and this many tables are left
pub record AreFirstTableLines (catalog : CatalogOf Expr) (left : ℕ) (lines : List (List ℕ)) (status : Status) :
    Type 0 where
  pub number : ℕ
  pub all : Bool
  pub split : length catalog.tables ≡ number + left
  pub are : AreTableLines catalog number all lines
  pub goes_by : status ≡ status_for all

-- some table is left
pub record AreSomeTableLines (catalog : CatalogOf Expr) (lines : List (List ℕ)) : Type 0 where
  pub later : ℕ
  pub status : Status
  pub first : AreFirstTableLines catalog (later + 1) lines status

-- the whole input is a catalog, and the lines are those of its first tables
pub record IsMaking (input : List ℕ) (left : ℕ) (lines : List (List ℕ)) (status : Status) : Type 0 where
  pub catalog : CatalogOf Expr
  pub whole : cut_of input ≡ None
  pub reads : catalog_by as_filter input ≡ Ok catalog
  pub tables : AreFirstTableLines catalog left lines status

-- some table is left
pub record IsBegunMaking (input : List ℕ) (lines : List (List ℕ)) : Type 0 where
  pub later : ℕ
  pub status : Status
  pub first : IsMaking input (later + 1) lines status

-- ---- why there is no answer

abbrev pub IsMakeFault : List ℕ → InputFault → Type 0
IsMakeFault input i.Unread = ⊥
IsMakeFault input i.Parts = cut_of input ≢ None
IsMakeFault input (i.Catalog error) = (cut_of input ≡ None) × Tells error (catalog_by as_filter input)
    × (is_none (read_fault error) ≡ false)
IsMakeFault input (i.Table name) = ⊥
IsMakeFault input (i.Certificate number error) = ⊥
IsMakeFault input (i.Script error) = ⊥

-- ---- what is written

-- the tables are answered, as far as memory and the writer go, or the input has a fault and nothing is written
abbrev pub EndsMaking : List ℕ → Option (List ℕ) → Option (List ℕ) → Result Status Failure → Type 0
EndsMaking input old new result =
    Ends (IsMaking input 0) (λ lines. (lines ≡ []) ⊎ IsBegunMaking input lines) (IsMakeFault input) old new result

-- ---- the line of a table

-- what is found of the table is so, and the writer's bytes grow by its line
pub record WritesTable (catalog : CatalogOf Expr) (number : ℕ) (old new : Option (List ℕ)) (certified : Bool) : Type 0
  where
    pub finding : Finding
    pub true_of : IsTrueOf catalog number finding
    pub is : certified ≡ is_certificate finding
    pub appends : Appends old new (ended (line_for catalog number finding))

-- or by a prefix of the line, if writing it stops
pub record StopsTable (catalog : CatalogOf Expr) (number : ℕ) (old new : Option (List ℕ)) (failure : Failure) : Type 0
  where
    pub finding : Finding
    pub true_of : IsTrueOf catalog number finding
    pub stops : StopsText (ended (line_for catalog number finding)) old new failure

-- a line for each table is written, as far as memory and the writer go
abbrev pub WritesTables : CatalogOf Expr → Option (List ℕ) → Option (List ℕ) → Result Status Failure → Type 0
WritesTables catalog old new result = Writes (AreFirstTableLines catalog 0) (AreSomeTableLines catalog) old new result
