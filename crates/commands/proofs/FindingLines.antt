-- The lines of tables are written one after the other.
use Rattle.std.proofs.Common.{◌≡◌, ℕ, zero, suc, ◌+◌, ◌-◌, ◌<◌, inl, inr, ◌⊎◌, Bool, true, ◌&&◌, List, [], ◌∷◌, ◌++◌, length, Option, arith, refl, sym, subst}
use Rattle.std.specs.Io.KnownBytes.{Appends}
use Rattle.std.specs.Prelude.{Err, IsErrAnd, Ok, Result, None}
use Rattle.pub_reader.specs.Statements.{catalog_by}
use Rattle.sql_reader.specs.Written.{as_filter}
use Rattle.commands.proofs.Writing.{ends_as}
use Rattle.commands.specs.Make.Making.{EndsMaking, IsBegunMaking, IsMakeFault, IsMaking, finding_view, IsTrueOf, is_certificate, line_for, status_for, AreTableLines, NoTable, OneMore, AreFirstTableLines, AreSomeTableLines, WritesTable, StopsTable, WritesTables}
use Rattle.commands.specs.Parts.{cut_of}
use Rattle.cert_maker.specs.Answers.{IfCert, IfCounter, IsAcceptedCert, IsCounter}
use Rattle.cert_maker.specs.declared.made.Made.{Made}
use Rattle.cert_maker.specs.declared.made.Made.TheVariants.{Cert, Counter, Unknown, TooLarge, OutOfMemory}
use Rattle.filter_tree.specs.Expr.{Expr}
use Rattle.pub_catalog.specs.Catalogs.{CatalogOf}
use Rattle.replica_identity.specs.Plans.{PlanOf, plan_of}
use Rattle.split_cert.specs.Where.{tree_view}
use Rattle.std.proofs.KnownBytes.{Appends-nil, Appends-trans}
use Rattle.commands.proofs.Writing.{first_after, text_of-more}
use Rattle.commands.specs.Output.{StopsText, WritesFirst, ended, text_of}
use Rattle.commands.specs.declared.failure.Failure.{Failure}
use Rattle.commands.specs.declared.failure.Failure.TheVariants as f
use Rattle.commands.specs.declared.failure.Status.{Status}

-- ---- one table

-- what the maker answers is so
finding_is_true : (catalog : CatalogOf Expr) (plan : PlanOf) (number : ℕ) (made : Made) → plan ≡ plan_of catalog
    → IfCert made (IsAcceptedCert catalog plan number) → IfCounter made (IsCounter catalog plan number)
    → IsTrueOf catalog number (finding_view made)
finding_is_true catalog plan number (Cert cert) own accepted counter =
    subst (λ (p : PlanOf). IsAcceptedCert catalog p number (tree_view cert)) own accepted
finding_is_true catalog plan number (Counter row owners) own accepted counter =
    subst (λ (p : PlanOf). IsCounter catalog p number row owners.items) own counter
finding_is_true catalog plan number Unknown own accepted counter = tt
finding_is_true catalog plan number TooLarge own accepted counter = tt
finding_is_true catalog plan number OutOfMemory own accepted counter = tt

pub table_written : (catalog : CatalogOf Expr) (plan : PlanOf) (number : ℕ) (made : Made) (certified : Bool)
    (old new : Option (List ℕ)) → plan ≡ plan_of catalog
    → IfCert made (IsAcceptedCert catalog plan number) → IfCounter made (IsCounter catalog plan number)
    → certified ≡ is_certificate (finding_view made)
    → Appends old new (ended (line_for catalog number (finding_view made)))
    → WritesTable catalog number old new certified
table_written catalog plan number made certified old new own accepted counter is appends = record {
  finding = finding_view made;
  true_of = finding_is_true catalog plan number made own accepted counter;
  is = is;
  appends = appends;
}

pub table_stopped : (catalog : CatalogOf Expr) (plan : PlanOf) (number : ℕ) (made : Made) (old new : Option (List ℕ))
    (failure : Failure) → plan ≡ plan_of catalog
    → IfCert made (IsAcceptedCert catalog plan number) → IfCounter made (IsCounter catalog plan number)
    → StopsText (ended (line_for catalog number (finding_view made))) old new failure
    → StopsTable catalog number old new failure
table_stopped catalog plan number made old new failure own accepted counter stops = record {
  finding = finding_view made;
  true_of = finding_is_true catalog plan number made own accepted counter;
  stops = stops;
}

-- ---- all tables

module _ (catalog : CatalogOf Expr) where
  -- the lines of this many tables are written
  pub record IsSoFar (number : ℕ) (all : Bool) (old new : Option (List ℕ)) : Type 0 where
    pub lines : List (List ℕ)
    pub are : AreTableLines catalog number all lines
    pub appends : Appends old new (text_of lines)

  pub none_written : (known : Option (List ℕ)) → IsSoFar 0 true known known
  none_written known = record { lines = []; are = NoTable; appends = Appends-nil known }

  pub one_written : (number : ℕ) (all certified : Bool) (old new newer : Option (List ℕ))
      → IsSoFar number all old new → WritesTable catalog number new newer certified
      → IsSoFar (number + 1) (all && certified) old newer
  one_written number all certified old new newer before here =
      let line : List ℕ = line_for catalog number here.finding in
      let lines : List (List ℕ) = before.lines ++ line ∷ [] in
      record {
        lines = lines;
        are = subst (λ (b : Bool). AreTableLines catalog (number + 1) (all && b) lines) (sym here.is)
            (OneMore number all before.lines here.finding before.are here.true_of);
        appends = subst (λ (text : List ℕ). Appends old newer text) (sym (text_of-more before.lines line))
            (Appends-trans old new newer (text_of before.lines) (ended line) before.appends here.appends);
      }

  first_at : (number left : ℕ) (all : Bool) (lines : List (List ℕ)) → length catalog.tables ≡ number + left
      → AreTableLines catalog number all lines → AreFirstTableLines catalog left lines (status_for all)
  first_at number left all lines split are =
      record { number = number; all = all; split = split; are = are; goes_by = refl }

  some_at : (number : ℕ) (all : Bool) (lines : List (List ℕ)) → number < length catalog.tables
      → AreTableLines catalog number all lines → AreSomeTableLines catalog lines
  some_at number all lines within are =
      let later : ℕ = length catalog.tables - suc number in
      let split : length catalog.tables ≡ number + (later + 1) = omega arith in
      record { later = later; status = status_for all; first = first_at number (later + 1) all lines split are }

  some_or_whole : (number left : ℕ) (all : Bool) (lines : List (List ℕ)) → length catalog.tables ≡ number + left
      → AreTableLines catalog number all lines
      → AreSomeTableLines catalog lines ⊎ ((status : Status) × AreFirstTableLines catalog 0 lines status)
  some_or_whole number zero all lines split are = inr (status_for all, first_at number 0 all lines split are)
  some_or_whole number (suc left) all lines split are = inl (some_at number all lines (omega arith) are)

  -- the writing of the next line stops
  pub tables_stopped : (number : ℕ) (all : Bool) (old new newer : Option (List ℕ)) (failure : Failure)
      → number < length catalog.tables
      → IsSoFar number all old new → StopsTable catalog number new newer failure
      → WritesTables catalog old newer (Err failure)
  tables_stopped number all old new newer (f.CommandLine why) within before here = absurd here.stops
  tables_stopped number all old new newer (f.Input fault) within before here = absurd here.stops
  tables_stopped number all old new newer f.OutOfMemory within before here = record {
    lines = before.lines;
    begun = some_at number all before.lines within before.are;
    appends = subst (λ (n : Option (List ℕ)). Appends old n (text_of before.lines)) (sym here.stops) before.appends;
  }
  tables_stopped number all old new newer f.Output within before here =
      let line : List ℕ = line_for catalog number here.finding in
      let lines : List (List ℕ) = before.lines ++ line ∷ [] in
      let left : ℕ = length catalog.tables - suc number in
      let split : length catalog.tables ≡ (number + 1) + left = omega arith in
      record {
        lines = lines;
        part = some_or_whole (number + 1) left (all && is_certificate here.finding) lines split
            (OneMore number all before.lines here.finding before.are here.true_of);
        first = subst (λ (text : List ℕ). WritesFirst text old newer) (sym (text_of-more before.lines line))
            (first_after (text_of before.lines) (ended line) old new newer before.appends here.stops);
      }

  -- the same of what a `?` gives
  pub stop_returned : (number : ℕ) (all : Bool) (old new newer : Option (List ℕ)) (failure : Failure)
      (result : Result Status Failure) → number < length catalog.tables
      → IsSoFar number all old new → StopsTable catalog number new newer failure
      → IsErrAnd result (λ failed. failed ≡ failure) → WritesTables catalog old newer result
  stop_returned number all old new newer failure (Ok given) within before here is = absurd is
  stop_returned number all old new newer failure (Err failed) within before here is =
      subst (λ (why : Failure). WritesTables catalog old newer (Err why)) (sym is)
      (tables_stopped number all old new newer failure within before here)

  pub all_written : (number : ℕ) (all : Bool) (status : Status) (old new : Option (List ℕ))
      → number ≡ length catalog.tables → status ≡ status_for all
      → IsSoFar number all old new → WritesTables catalog old new (Ok status)
  all_written number all status old new is status_is before = record {
    lines = before.lines;
    whole = record { number = number; all = all; split = omega (arith, is); are = before.are; goes_by = status_is };
    appends = before.appends;
  }

-- ---- an input

pub made : (input : List ℕ) (old new : Option (List ℕ)) (catalog : CatalogOf Expr) → cut_of input ≡ None
    → catalog_by as_filter input ≡ Ok catalog
    → (result : Result Status Failure) → WritesTables catalog old new result → EndsMaking input old new result
made input old new catalog whole reads result writes =
    let of_tables : (left : ℕ) (lines : List (List ℕ)) (status : Status) → AreFirstTableLines catalog left lines status
    → IsMaking input left lines status =
    λ left lines status first. record { catalog = catalog; whole = whole; reads = reads; tables = first } in
    ends_as (AreFirstTableLines catalog 0) (IsMaking input 0) (AreSomeTableLines catalog)
    (λ lines. (lines ≡ []) ⊎ IsBegunMaking input lines) (IsMakeFault input)
    (of_tables 0)
    (λ lines some. inr (record {
      later = some.later;
      status = some.status;
      first =
          of_tables (some.later + 1) lines some.status some.first;
    }))
    old new result writes
