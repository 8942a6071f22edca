-- What `simulate` answers, from what its parts gave.
use Rattle.std.proofs.Common.{◌≡◌, ℕ, inl, inr, ◌⊎◌, List, [], ◌∷◌, Bool, true, false, if◌then◌else◌, Option, Some, None, map, refl, sym, subst}
use Rattle.std.specs.Prelude.{IfErr, IfOk, IsErrAnd, OnOk, Result, Ok, Err, is_none}
use Rattle.std.specs.Io.KnownBytes.{Appends}
use Rattle.filter_tree.specs.Expr.{Expr}
use Rattle.pub_catalog.specs.Catalogs.{CatalogOf}
use Rattle.pub_reader.specs.Scripts.{LineOf, script_by}
use Rattle.pub_reader.specs.ScriptView.{line_view}
use Rattle.pub_reader.specs.Statements.{catalog_by}
use Rattle.pub_reader.specs.declared.script.Line.{Line}
use Rattle.replica_identity.specs.Plans.{plan_of}
use Rattle.shard_checker.specs.CatalogTruth.{ShardingIsWrong}
use Rattle.shard_checker.specs.CheckedView.{CheckedOf, checked_view}
use Rattle.shard_checker.specs.Sound.{IsSound}
use Rattle.shard_checker.specs.Texts.{text_fault, trees_in}
use Rattle.shard_checker.specs.declared.checked.Checked.{Checked}
use Rattle.shard_checker.specs.declared.error.CheckError.{CheckError}
use Rattle.sql_reader.specs.Reading.{Tells, read_fault}
use Rattle.sql_reader.specs.Written.{as_filter}
use Rattle.sql_reader.specs.declared.error.ReadError.{ReadError}
use Rattle.commands.proofs.Writing.{ends_as, line_ends, memory_ends}
use Rattle.commands.specs.Certificates.{IsOfLines}
use Rattle.commands.specs.Failures.{failure_of_read}
use Rattle.commands.specs.Refusals.{refused_line}
use Rattle.commands.specs.Output.{StopsText, ended}
use Rattle.commands.specs.Parts.{CutTwice, lines_of, three_parts}
use Rattle.commands.specs.Verdicts.{IsFirstRefusal, checked_by}
use Rattle.commands.specs.Simulate.Givings.{Gives, HasVerdict, IsOfInput, IsOfParts}
use Rattle.commands.specs.Simulate.Simulation.{EndsSimulation, IsBegunSimulation, IsSimulateFault, IsOfScript, IsResult, IsSimulation}
use Rattle.commands.specs.Simulate.Steps.{AreFirstSteps}
use Rattle.commands.specs.Simulate.WorldSteps.{AreAllLines, AreBegunLines, WritesSteps}
use Rattle.commands.specs.declared.failure.Failure.{Failure}
use Rattle.commands.specs.declared.failure.Failure.TheVariants as f
use Rattle.commands.specs.declared.failure.InputFault.TheVariants as i
use Rattle.commands.specs.declared.failure.Status.{Status}
use Rattle.commands.specs.declared.failure.Status.TheVariants.{Done, Refused}

-- ---- the verdict by the lines of a text

pub verdict_has : (catalog : CatalogOf Expr) (text : List ℕ) (texts : List (List ℕ))
    (verdict : Result Checked CheckError) → texts ≡ lines_of text → text_fault 1 texts ≡ None
    → OnOk verdict (IsSound catalog) → IfOk verdict (λ checked. checked_view checked ≡ checked_by catalog)
    → OnOk verdict (IsFirstRefusal catalog (trees_in texts) None)
    → IfErr verdict (λ error. IsFirstRefusal catalog (trees_in texts) (Some error))
    → IfErr verdict (ShardingIsWrong catalog (plan_of catalog) (trees_in texts))
    → HasVerdict catalog text verdict
verdict_has catalog text texts (Ok checked) same read sound kept unrefused refused wrong = record {
  certificates = subst (λ (lines : List (List ℕ)). text_fault 1 lines ≡ None) same read;
  is = record {
    sound = sound;
    unrefused = subst (λ (lines : List (List ℕ)). IsFirstRefusal catalog (trees_in lines) None) same unrefused;
    kept = kept;
  };
}
verdict_has catalog text texts (Err error) same read sound kept unrefused refused wrong = record {
  certificates = subst (λ (lines : List (List ℕ)). text_fault 1 lines ≡ None) same read;
  is = record {
    refusal = subst (λ (lines : List (List ℕ)). IsFirstRefusal catalog (trees_in lines) (Some error)) same refused;
    wrong = subst (λ (lines : List (List ℕ)). ShardingIsWrong catalog (plan_of catalog) (trees_in lines) error) same
        wrong;
  };
}

-- ---- why the parts give nothing

-- the first part is no catalog
module _ (cut : CutTwice) (error : ReadError) (tells : Tells error (catalog_by as_filter cut.first)) where
  catalog_reported : (is_memory : Bool) → is_none (read_fault error) ≡ is_memory
      → IsOfParts cut (if is_memory then f.OutOfMemory else f.Input (i.Catalog error))
  catalog_reported true e = λ input parts. tt
  catalog_reported false e = λ input parts. record { cut = cut; parts = parts; tells = tells; known = e }

  -- the same of what a `?` gives
  pub catalog_stops : {T : Type 0} (result : Result T Failure)
      → IsErrAnd result (λ failed. failed ≡ failure_of_read error) → IfErr result (IsOfParts cut)
  catalog_stops (Ok given) is = tt
  catalog_stops (Err failed) is =
      subst (λ (failure : Failure). IsOfParts cut failure) (sym is) (catalog_reported (is_none (read_fault error)) refl)

module _ (cut : CutTwice) (catalog : CatalogOf Expr) (reads : catalog_by as_filter cut.first ≡ Ok catalog) where
  certificate_reported : (failure : Failure) → IsOfLines (lines_of cut.second) failure → IsOfParts cut failure
  certificate_reported (f.Input (i.Certificate number error)) is =
      λ input parts. record { cut = cut; catalog = catalog; parts = parts; reads = reads; first = is }
  certificate_reported f.OutOfMemory is = λ input parts. tt
  certificate_reported (f.CommandLine why) is = absurd is
  certificate_reported f.Output is = absurd is
  certificate_reported (f.Input i.Unread) is = absurd is
  certificate_reported (f.Input i.Parts) is = absurd is
  certificate_reported (f.Input (i.Catalog error)) is = absurd is
  certificate_reported (f.Input (i.Table name)) is = absurd is
  certificate_reported (f.Input (i.Script error)) is = absurd is

  -- the same of what a `?` gives
  pub certificate_stops : {T : Type 0} (failure : Failure) (result : Result T Failure)
      → IsOfLines (lines_of cut.second) failure → IsErrAnd result (λ failed. failed ≡ failure)
      → IfErr result (IsOfParts cut)
  certificate_stops failure (Ok given) is same = tt
  certificate_stops failure (Err failed) is same =
      subst (λ (why : Failure). IsOfParts cut why) (sym same) (certificate_reported failure is)

  module _ (certificates : text_fault 1 (lines_of cut.second) ≡ None) where
    script_reported : (failure : Failure) → IsOfScript (script_by catalog.tables cut.third) failure
        → IsOfParts cut failure
    script_reported (f.Input (i.Script error)) is = λ input parts. record {
      cut = cut;
      catalog = catalog;
      parts = parts;
      reads = reads;
      certificates = certificates;
      script = is;
    }
    script_reported f.OutOfMemory is = λ input parts. tt
    script_reported (f.CommandLine why) is = absurd is
    script_reported f.Output is = absurd is
    script_reported (f.Input i.Unread) is = absurd is
    script_reported (f.Input i.Parts) is = absurd is
    script_reported (f.Input (i.Catalog error)) is = absurd is
    script_reported (f.Input (i.Table name)) is = absurd is
    script_reported (f.Input (i.Certificate number error)) is = absurd is

    -- the same of what a `?` gives
    pub script_stops : {T : Type 0} (failure : Failure) (result : Result T Failure)
        → IsOfScript (script_by catalog.tables cut.third) failure → IsErrAnd result (λ failed. failed ≡ failure)
        → IfErr result (IsOfParts cut)
    script_stops failure (Ok given) is same = tt
    script_stops failure (Err failed) is same =
        subst (λ (why : Failure). IsOfParts cut why) (sym same) (script_reported failure is)

-- ---- there is no answer

module _ (limit : ℕ) (input : List ℕ) (old : Option (List ℕ)) where
  none_reported : (failure : Failure) → IsOfInput input failure → EndsSimulation limit input old old (Err failure)
  none_reported (f.Input fault) is = (is, refl)
  none_reported f.OutOfMemory is =
      memory_ends (IsSimulation limit input []) (λ lines. (lines ≡ []) ⊎ IsBegunSimulation limit input lines)
      (IsSimulateFault input) (inl refl) old old refl
  none_reported (f.CommandLine why) is = absurd is
  none_reported f.Output is = absurd is

  -- the same of what a `?` gives
  pub none_returned : (failure : Failure) (result : Result Status Failure) → IsOfInput input failure
      → IsErrAnd result (λ failed. failed ≡ failure) → EndsSimulation limit input old old result
  none_returned failure (Ok given) is same = absurd same
  none_returned failure (Err failed) is same =
      subst (λ (why : Failure). EndsSimulation limit input old old (Err why)) (sym same)
      (none_reported failure is)

-- ---- what is answered

module _ (limit : ℕ) (input : List ℕ) (cut : CutTwice) (parts : three_parts input ≡ Some cut) where
  answered : (verdict : Result Checked CheckError) (lines : List Line) (given : Gives cut verdict lines)
      (left : List LineOf) (written : List (List ℕ)) (status : Status)
      → IsResult limit given.catalog (trees_in (lines_of cut.second)) (map line_view lines) left written status
      → IsSimulation limit input left written status
  answered verdict lines given left written status result = record {
    cut = cut;
    catalog = given.catalog;
    steps = map line_view lines;
    parts = parts;
    reads = given.reads;
    certificates = given.has.certificates;
    script = given.script;
    result = result;
  }

  -- the steps are made, as far as memory and the writer go
  pub steps_made : (checked : Checked) (lines : List Line) (old new : Option (List ℕ)) (result : Result Status Failure)
      → Gives cut (Ok checked) lines
      → WritesSteps (checked_view checked) limit (map line_view lines) old new result
      → EndsSimulation limit input old new result
  steps_made checked lines old new result given writes =
      let steps = map line_view lines in
      let made : CheckedOf = checked_by given.catalog in
      let of_steps : (left : List LineOf) (written : List (List ℕ)) → AreFirstSteps made limit steps left written
      → IsSimulation limit input left written Done =
      λ left written first. answered (Ok checked) lines given left written Done
      (record { sound = given.has.is.sound; unrefused = given.has.is.unrefused; first = first }) in
      ends_as (AreAllLines made limit steps) (IsSimulation limit input []) (AreBegunLines made limit steps)
      (λ written. (written ≡ []) ⊎ IsBegunSimulation limit input written) (IsSimulateFault input)
      (λ written status all. subst (λ (s : Status). IsSimulation limit input [] written s) (sym all.0)
      (of_steps [] written all.1))
      (λ written begun. elim begun [
        | inl none ↦ inl none
        | inr some ↦ inr (record
            { step = some.step; later = some.later; first = of_steps (some.step ∷ some.later) written some.first })
      ])
      old new result
      (subst (λ (c : CheckedOf). WritesSteps c limit steps old new result) given.has.is.kept writes)

  -- the sharding is refused
  pub sharding_refused : (error : CheckError) (lines : List Line) (again : CatalogOf Expr) (old new : Option (List ℕ))
      (result : Result Status Failure) → (given : Gives cut (Err error) lines) → again ≡ given.catalog
      → IfOk result (λ s. s ≡ Refused)
      → OnOk result (Appends old new (ended (refused_line again error)))
      → IfErr result (StopsText (ended (refused_line again error)) old new)
      → EndsSimulation limit input old new result
  sharding_refused error lines again old new result given same status appends stops =
      line_ends (IsSimulation limit input []) (λ written. (written ≡ []) ⊎ IsBegunSimulation limit input written)
      (IsSimulateFault input) (inl refl) (refused_line given.catalog error) Refused old new result
      (answered (Err error) lines given [] (refused_line given.catalog error ∷ []) Refused
      (record { error = error; refusal = given.has.is.refusal; wrong = given.has.is.wrong; are = refl }))
      status
      (subst (λ (c : CatalogOf Expr). OnOk result (Appends old new (ended (refused_line c error)))) same appends)
      (subst (λ (c : CatalogOf Expr). IfErr result (StopsText (ended (refused_line c error)) old new)) same stops)
