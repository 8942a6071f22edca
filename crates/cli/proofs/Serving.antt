-- What `serve` answers, from what its parts gave.
use Rattle.std.proofs.Common.{◌≡◌, ℕ, inl, inr, Bool, true, false, if◌then◌else◌, List, [], ◌∷◌, Option, Some, None, refl, sym, subst}
use Rattle.std.specs.Prelude.{IfErr, IfOk, IsErrAnd, OnOk, Result, Ok, Err, is_none}
use Rattle.std.specs.Io.KnownBytes.{Appends}
use Rattle.filter_tree.specs.Expr.{Expr}
use Rattle.pub_catalog.specs.Catalogs.{CatalogOf}
use Rattle.pub_reader.specs.Statements.{catalog_by}
use Rattle.replica_identity.specs.Plans.{plan_of}
use Rattle.shard_checker.specs.CatalogTruth.{ShardingIsWrong}
use Rattle.shard_checker.specs.Sound.{IsSound}
use Rattle.shard_checker.specs.Texts.{text_fault, trees_in}
use Rattle.shard_checker.specs.declared.error.CheckError.{CheckError}
use Rattle.sql_reader.specs.Reading.{Tells as TellsFault, read_fault}
use Rattle.sql_reader.specs.Written.{as_filter}
use Rattle.sql_reader.specs.declared.error.ReadError.{ReadError}
use Rattle.table_changes.specs.Commands.{Command}
use Rattle.commands.proofs.Writing.{ends_as, text_of-one, unwritten}
use Rattle.commands.specs.Certificates.{IsOfLines}
use Rattle.commands.specs.Verdicts.{IsFirstRefusal, checked_by}
use Rattle.commands.specs.Refusals.{refused_line}
use Rattle.commands.specs.Failures.{failure_of_read}
use Rattle.commands.specs.Output.{StopsText, WritesFirst, ended}
use Rattle.commands.specs.Parts.{CutTwice, lines_of, three_parts}
use Rattle.commands.specs.declared.failure.Failure.{Failure}
use Rattle.commands.specs.declared.failure.Failure.TheVariants as f
use Rattle.commands.specs.declared.failure.InputFault.TheVariants as i
use Rattle.commands.specs.declared.failure.Status.{Status}
use Rattle.commands.specs.declared.failure.Status.TheVariants.{Refused}
use Rattle.cli.specs.Scripts.{OnlyCommits, IsOfScript}
use Rattle.cli.specs.Serving.{EndsService, IsBegunServing, IsServeFault, IsServing}
use Rattle.cli.specs.Telling.{IsBegun as MayListen, AreServeLines, WritesServeLines, service_of}
use Rattle.cli.specs.declared.requests.Service.{Service}

pub out_of_memory : (service : Service) (input : List ℕ) (old new : Option (List ℕ)) → new ≡ old
    → EndsService service input old new (Err f.OutOfMemory)
out_of_memory service input old new e = record { lines = []; begun = inl refl; appends = unwritten old new e }

-- the same of what a `?` gives
pub memory_returned : (service : Service) (input : List ℕ) (old : Option (List ℕ)) (result : Result Status Failure)
    → IsErrAnd result (λ failed. failed ≡ f.OutOfMemory) → EndsService service input old old result
memory_returned service input old (Ok told) is = absurd is
memory_returned service input old (Err failed) is =
    subst (λ (told : Failure). EndsService service input old old (Err told)) (sym is)
    (out_of_memory service input old old refl)

-- the first part is no catalog
module _ (service : Service) (input : List ℕ) (cut : CutTwice) (parts : three_parts input ≡ Some cut)
    (old : Option (List ℕ)) (error : ReadError) (tells : TellsFault error (catalog_by as_filter cut.first)) where
  catalog_reported : (is_memory : Bool) → is_none (read_fault error) ≡ is_memory
      → EndsService service input old old (Err (if is_memory then f.OutOfMemory else f.Input (i.Catalog error)))
  catalog_reported true e = out_of_memory service input old old refl
  catalog_reported false e = (inl (record { cut = cut; parts = parts; tells = tells; known = e }), refl)

  -- the same of what a `?` gives
  pub catalog_returned : (result : Result Status Failure) → IsErrAnd result (λ failed. failed ≡ failure_of_read error)
      → EndsService service input old old result
  catalog_returned (Ok status) is = absurd is
  catalog_returned (Err failed) is =
      subst (λ (failure : Failure). EndsService service input old old (Err failure)) (sym is)
      (catalog_reported (is_none (read_fault error)) refl)

module _ (service : Service) (input : List ℕ) (cut : CutTwice) (catalog : CatalogOf Expr)
    (parts : three_parts input ≡ Some cut) (reads : catalog_by as_filter cut.first ≡ Ok catalog) where
  -- ---- there is no answer

  certificate_reported : (old new : Option (List ℕ)) (failure : Failure) → IsOfLines (lines_of cut.second) failure
      → new ≡ old → EndsService service input old new (Err failure)
  certificate_reported old new (f.Input (i.Certificate number error)) is same =
      (inl (record { cut = cut; catalog = catalog; parts = parts; reads = reads; first = is }), same)
  certificate_reported old new f.OutOfMemory is same = out_of_memory service input old new same
  certificate_reported old new (f.CommandLine why) is same = absurd is
  certificate_reported old new f.Output is same = absurd is
  certificate_reported old new (f.Input i.Unread) is same = absurd is
  certificate_reported old new (f.Input i.Parts) is same = absurd is
  certificate_reported old new (f.Input (i.Catalog error)) is same = absurd is
  certificate_reported old new (f.Input (i.Table name)) is same = absurd is
  certificate_reported old new (f.Input (i.Script error)) is same = absurd is

  pub certificate_returned : (old : Option (List ℕ)) (failure : Failure) (result : Result Status Failure)
      → IsOfLines (lines_of cut.second) failure → IsErrAnd result (λ failed. failed ≡ failure)
      → EndsService service input old old result
  certificate_returned old failure (Ok told) is same = absurd same
  certificate_returned old failure (Err failed) is same =
      subst (λ (told : Failure). EndsService service input old old (Err told)) (sym same)
      (certificate_reported old old failure is refl)

  module _ (certificates : text_fault 1 (lines_of cut.second) ≡ None) where
    script_reported : (old new : Option (List ℕ)) (failure : Failure) → IsOfScript catalog.tables cut.third failure
        → new ≡ old → EndsService service input old new (Err failure)
    script_reported old new (f.Input (i.Script error)) (inl is) same = (
      inl (record {
        cut = cut;
        catalog = catalog;
        parts = parts;
        reads = reads;
        certificates =
            certificates;
        script = is;
      }),
      same,
    )
    script_reported old new (f.Input (i.Script error)) (inr is) same = (
      inr (record {
        cut = cut;
        catalog = catalog;
        parts = parts;
        reads = reads;
        certificates =
            certificates;
        script = is;
      }),
      same,
    )
    script_reported old new f.OutOfMemory is same = out_of_memory service input old new same
    script_reported old new (f.CommandLine why) is same = absurd is
    script_reported old new f.Output is same = absurd is
    script_reported old new (f.Input i.Unread) is same = absurd is
    script_reported old new (f.Input i.Parts) is same = absurd is
    script_reported old new (f.Input (i.Catalog error)) is same = absurd is
    script_reported old new (f.Input (i.Table name)) is same = absurd is
    script_reported old new (f.Input (i.Certificate number error)) is same = absurd is

    pub script_returned : (old : Option (List ℕ)) (failure : Failure) (result : Result Status Failure)
        → IsOfScript catalog.tables cut.third failure
        → IsErrAnd result (λ failed. failed ≡ failure) → EndsService service input old old result
    script_returned old failure (Ok told) is same = absurd same
    script_returned old failure (Err failed) is same =
        subst (λ (told : Failure). EndsService service input old old (Err told)) (sym same)
        (script_reported old old failure is refl)

    -- ---- what is answered

    module _ (lists : List (List Command)) (script : OnlyCommits catalog.tables cut.third lists) where
      -- the subscribers are served, as far as memory, sockets and the writer go
      pub served : (old new : Option (List ℕ)) (result : Result Status Failure) → IsSound catalog
          → IsFirstRefusal catalog (trees_in (lines_of cut.second)) None
          → WritesServeLines (service_of service (checked_by catalog) lists) old new result
          → EndsService service input old new result
      served old new result sound unrefused tells =
          ends_as (AreServeLines (service_of service (checked_by catalog) lists)) (IsServing service input)
          (MayListen service.port) (IsBegunServing service input)
          (IsServeFault input)
          (λ lines status told. record {
            cut = cut;
            catalog = catalog;
            parts = parts;
            reads = reads;
            certificates = certificates;
            lists = lists;
            script = script;
            result = inl (record { sound = sound; unrefused = unrefused; written = told });
          })
          (λ lines begun. elim begun [
            | inl none ↦ inl none
            | inr first ↦ inr (record {
              accepted = record {
                cut = cut;
                catalog = catalog;
                parts = parts;
                reads = reads;
                certificates = certificates;
                lists = lists;
                script = script;
                sound = sound;
                unrefused = unrefused;
              };
              are = first;
            })
          ])
          old new result tells

      refusal_line : (error : CheckError) → IsFirstRefusal catalog (trees_in (lines_of cut.second)) (Some error)
          → ShardingIsWrong catalog (plan_of catalog) (trees_in (lines_of cut.second)) error
          → (status : Status) → status ≡ Refused → IsServing service input (refused_line catalog error ∷ []) status
      refusal_line error refusal wrong status is = record {
        cut = cut;
        catalog = catalog;
        parts = parts;
        reads = reads;
        certificates = certificates;
        lists = lists;
        script = script;
        result = inr (record {
          refused = record { error = error; refusal = refusal; wrong = wrong; are = refl };
          is =
              is;
        });
      }

      -- the sharding is refused
      pub sharding_refused : (error : CheckError) (old new : Option (List ℕ)) (result : Result Status Failure)
          → IsFirstRefusal catalog (trees_in (lines_of cut.second)) (Some error)
          → ShardingIsWrong catalog (plan_of catalog) (trees_in (lines_of cut.second)) error
          → IfOk result (λ s. s ≡ Refused)
          → OnOk result (Appends old new (ended (refused_line catalog error)))
          → IfErr result (StopsText (ended (refused_line catalog error)) old new)
          → EndsService service input old new result
      sharding_refused error old new (Ok told) refusal wrong same appends stops = record {
        lines = refused_line catalog error ∷ [];
        whole = refusal_line error refusal wrong told same;
        appends = subst (λ (t : List ℕ). Appends old new t) (sym (text_of-one (refused_line catalog error))) appends;
      }
      sharding_refused error old new (Err f.OutOfMemory) refusal wrong same appends stops =
          out_of_memory service input old new stops
      sharding_refused error old new (Err f.Output) refusal wrong same appends stops = record {
        lines = refused_line catalog error ∷ [];
        part = inr (Refused, refusal_line error refusal wrong Refused refl);
        first = subst (λ (t : List ℕ). WritesFirst t old new) (sym (text_of-one (refused_line catalog error))) stops;
      }
      sharding_refused error old new (Err (f.CommandLine why)) refusal wrong same appends stops = absurd stops
      sharding_refused error old new (Err (f.Input fault)) refusal wrong same appends stops = absurd stops
