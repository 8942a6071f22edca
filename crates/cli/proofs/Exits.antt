-- What is written, from an answer or a failure to the exit status.
use Rattle.std.proofs.Common.{◌≡◌, ℕ, inl, inr, ◌⊎◌, Bool, true, arith, List, [], ◌∷◌, ◌++◌, Option, refl, sym, ap, subst, ◌∙◌, append-nil, codes}
use Rattle.std.specs.Prelude.{IsErrAnd, Result, Ok, Err}
use Rattle.std.specs.Io.KnownBytes.{Appends, Keeps}
use denote.Enum.Declared.{tag_of}
use Rattle.std.proofs.KnownBytes.{Appends-kept, Appends-trans}
use Rattle.commands.proofs.Reports.{number_is}
use Rattle.commands.proofs.Writing.{first_after, first_kept, first_of_longer, first_whole, text_of-more, unwritten}
use Rattle.commands.specs.Failures.{failure_lines, exit_status}
use Rattle.cli.specs.Outcomes.{Asked, NumberSaysFault, IsReason, IsOutput, Answered, Shown, Misworded, Rejected, CutShort, WritesOutput, WritesFirstOutput, IsOutcome, IsRun, WritesCutShort, IsEnding}
use Rattle.commands.specs.Output.{Ends, SaysFault, StopsText, WritesFirst, ended, text_of}
use Rattle.commands.specs.Reporting.{IsReport}
use Rattle.commands.specs.contracts.failure.Status.{the_type}
use Rattle.commands.specs.declared.failure.Failure.{Failure}
use Rattle.commands.specs.declared.failure.Failure.TheVariants as f
use Rattle.commands.specs.declared.failure.InputFault.{InputFault}
use Rattle.commands.specs.declared.failure.InputFault.TheVariants as i
use Rattle.commands.specs.declared.failure.Status.{Status}
use Rattle.commands.specs.declared.failure.Status.TheVariants.{Done, Refused, CommandLine, Input, Output, OutOfMemory}

abbrev memory_line : List ℕ
memory_line = codes "out of memory"

module _ (asked : Asked) where
  -- ---- what was asked is answered, or not

  -- whole answers, the beginnings of answers and faults of an input are those of what is asked
  module _ (IsWhole : List (List ℕ) → Status → Type 0) (IsBegun : List (List ℕ) → Type 0)
      (IsThere : InputFault → Type 0)
      (answers : (lines : List (List ℕ)) (status : Status) → IsWhole lines status → asked.Answers lines status)
      (begins : (lines : List (List ℕ)) → IsBegun lines → asked.Begins lines)
      (has_fault : (fault : InputFault) → IsThere fault → asked.IsInputFault fault)
      (is_read : IsThere i.Unread → ⊥) where
    reason : (fault : InputFault) → IsThere fault → IsReason asked fault
    reason i.Unread there = absurd (is_read there)
    reason i.Parts there = has_fault i.Parts there
    reason (i.Catalog error) there = has_fault (i.Catalog error) there
    reason (i.Table name) there = has_fault (i.Table name) there
    reason (i.Certificate line error) there = has_fault (i.Certificate line error) there
    reason (i.Script error) there = has_fault (i.Script error) there

    -- the first bytes of lines that are no whole answer are those of one that memory cuts short
    part_written : (lines : List (List ℕ)) (old new : Option (List ℕ))
        → IsBegun lines ⊎ ((status : Status) × IsWhole lines status)
        → WritesFirst (text_of lines) old new → WritesFirstOutput asked old new
    part_written lines old new (inl begun) first = record {
      status = OutOfMemory;
      text = text_of (lines ++ memory_line ∷ []);
      is = CutShort lines (inr (begins lines begun));
      first = subst (λ (text : List ℕ). WritesFirst text old new) (sym (text_of-more lines memory_line))
          (first_of_longer (text_of lines) (ended memory_line) old new first);
    }
    part_written lines old new (inr whole) first = record {
      status = whole.0;
      text = text_of lines;
      is = Answered lines whole.0 (answers lines whole.0 whole.1);
      first = first;
    }

    pub answered : (old new : Option (List ℕ)) (result : Result Status Failure)
        → Ends IsWhole IsBegun IsThere old new result → IsEnding asked old new result
    answered old new (Ok status) ends = record {
      text = text_of ends.lines;
      is = Answered ends.lines status (answers ends.lines status ends.whole);
      appends = ends.appends;
    }
    answered old new (Err (f.CommandLine why)) ends = absurd ends
    answered old new (Err (f.Input fault)) ends =
        (reason fault ends.0, ends.1)
    answered old new (Err f.Output) ends = part_written ends.lines old new ends.part ends.first
    answered old new (Err f.OutOfMemory) ends = record {
      lines = ends.lines;
      begun = inr (begins ends.lines ends.begun);
      appends = ends.appends;
    }

  -- nothing is written yet
  pub out_of_memory : (old new : Option (List ℕ)) → new ≡ old → IsEnding asked old new (Err f.OutOfMemory)
  out_of_memory old new e = record { lines = []; begun = inl refl; appends = unwritten old new e }

  pub help_written : (text : List ℕ) (old new : Option (List ℕ)) → asked.AsksHelp → Appends old new (ended text)
      → IsEnding asked old new (Ok Done)
  help_written text old new asks appends = record { text = ended text; is = Shown (ended text) asks; appends = appends }

  pub help_stopped : (text : List ℕ) (old new : Option (List ℕ)) (failure : Failure) → asked.AsksHelp
      → StopsText (ended text) old new failure → IsEnding asked old new (Err failure)
  help_stopped text old new (f.CommandLine why) asks stops = absurd stops
  help_stopped text old new (f.Input fault) asks stops = absurd stops
  help_stopped text old new f.Output asks stops =
      record { status = Done; text = ended text; is = Shown (ended text) asks; first = stops }
  help_stopped text old new f.OutOfMemory asks stops = out_of_memory old new stops

  -- the same of what a `?` gives
  pub help_returned : (text : List ℕ) (old new : Option (List ℕ)) (failure : Failure) (result : Result Status Failure)
      → asked.AsksHelp → StopsText (ended text) old new failure → IsErrAnd result (λ failed. failed ≡ failure)
      → IsEnding asked old new result
  help_returned text old new failure (Ok told) asks stops is = absurd is
  help_returned text old new failure (Err failed) asks stops is =
      subst (λ (told : Failure). IsEnding asked old new (Err told)) (sym is)
      (help_stopped text old new failure asks stops)

  -- ---- a failure is reported

  pub whole_outcome : (old new : Option (List ℕ)) (status : Status) → WritesOutput asked old new status
      → IsOutcome asked old new status
  whole_outcome old new Done now = now
  whole_outcome old new Refused now = now
  whole_outcome old new CommandLine now = now
  whole_outcome old new Input now = now
  whole_outcome old new Output now =
      record { status = Output; text = now.text; is = now.is; first = first_whole now.text old new now.appends }
  whole_outcome old new OutOfMemory now = now

  -- after the text that is there the text of a report makes an output
  told : (old mid new : Option (List ℕ)) (before after : List ℕ) (status end : Status)
      → IsOutput asked status (before ++ after) → Appends old mid before
      → ((end ≡ status) × Appends mid new after) ⊎ ((end ≡ Output) × WritesFirst after mid new)
      → IsOutcome asked old new end
  told old mid new before after status end is appends (inl whole) =
      subst (λ (s : Status). IsOutcome asked old new s) (sym whole.0)
      (whole_outcome old new status
      (record {
        text = before ++ after;
        is = is;
        appends =
            Appends-trans old mid new before after appends whole.1;
      }))
  told old mid new before after status end is appends (inr part) =
      subst (λ (s : Status). IsOutcome asked old new s) (sym part.0)
      (record {
        status = status;
        text = before ++ after;
        is = is;
        first =
            first_after before after old mid new appends part.1;
      })

  memory_reported : (old mid new : Option (List ℕ)) (end : Status) → WritesCutShort asked old mid
      → ((end ≡ OutOfMemory) × Appends mid new (text_of (memory_line ∷ []))) ⊎
      ((end ≡ Output) × WritesFirst (text_of (memory_line ∷ [])) mid new) → IsOutcome asked old new end
  memory_reported old mid new end now writes =
      let text : text_of (now.lines ++ memory_line ∷ []) ≡ text_of now.lines ++ text_of (memory_line ∷ []) =
      text_of-more now.lines memory_line ∙ ap (λ t. text_of now.lines ++ t) (sym (append-nil (ended memory_line))) in
      told old mid new (text_of now.lines) (text_of (memory_line ∷ [])) OutOfMemory end
      (subst (λ (t : List ℕ). IsOutput asked OutOfMemory t) text (CutShort now.lines now.begun)) now.appends
      writes

  reported_instead : (old mid new : Option (List ℕ)) (end : Status) → mid ≡ old
      → ((end ≡ OutOfMemory) × Appends mid new (text_of (memory_line ∷ []))) ⊎
      ((end ≡ Output) × WritesFirst (text_of (memory_line ∷ [])) mid new) → IsOutcome asked old new end
  reported_instead old mid new end e writes =
      memory_reported old mid new end (record { lines = []; begun = inl refl; appends = unwritten old mid e }) writes

  pub reported : (old mid new : Option (List ℕ)) (failure : Failure) (end : Status)
      → IsEnding asked old mid (Err failure) → IsReport failure mid new end → IsOutcome asked old new end
  reported old mid new (f.CommandLine why) end now (inl report) =
      told old mid new [] (text_of (failure_lines (f.CommandLine why))) CommandLine end (Misworded _ now.0)
      (unwritten old mid now.1) report
  reported old mid new (f.CommandLine why) end now (inr report) = reported_instead old mid new end now.1 report
  reported old mid new (f.Input fault) end now (inl report) =
      told old mid new [] (text_of (failure_lines (f.Input fault))) Input end (Rejected fault now.0)
      (unwritten old mid now.1) report
  reported old mid new (f.Input fault) end now (inr report) = reported_instead old mid new end now.1 report
  reported old mid new f.OutOfMemory end now report = memory_reported old mid new end now report
  reported old mid new f.Output end now report =
      subst (λ (s : Status). IsOutcome asked old new s) (sym report.0)
      (subst (λ (n : Option (List ℕ)). WritesFirstOutput asked old n) (sym report.1) now)

  -- ---- the output is flushed

  whole_kept : (old new newer : Option (List ℕ)) (status : Status) → WritesOutput asked old new status
      → Keeps new newer → WritesOutput asked old newer status
  whole_kept old new newer status now keeps =
      record { text = now.text; is = now.is; appends = Appends-kept old new newer now.text now.appends keeps }

  pub flushed : (old new newer : Option (List ℕ)) (status : Status) → IsOutcome asked old new status
      → Keeps new newer → IsOutcome asked old newer status
  flushed old new newer Done now keeps = whole_kept old new newer Done now keeps
  flushed old new newer Refused now keeps = whole_kept old new newer Refused now keeps
  flushed old new newer CommandLine now keeps = whole_kept old new newer CommandLine now keeps
  flushed old new newer Input now keeps = whole_kept old new newer Input now keeps
  flushed old new newer Output now keeps =
      record {
        status = now.status;
        text = now.text;
        is = now.is;
        first =
            first_kept now.text old new newer now.first keeps;
      }
  flushed old new newer OutOfMemory now keeps = whole_kept old new newer OutOfMemory now keeps

  first_of_whole : (old new : Option (List ℕ)) (status : Status) → WritesOutput asked old new status
      → WritesFirstOutput asked old new
  first_of_whole old new status now =
      record { status = status; text = now.text; is = now.is; first = first_whole now.text old new now.appends }

  unflushed : (old new : Option (List ℕ)) (status : Status) → IsOutcome asked old new status
      → WritesFirstOutput asked old new
  unflushed old new Done now = first_of_whole old new Done now
  unflushed old new Refused now = first_of_whole old new Refused now
  unflushed old new CommandLine now = first_of_whole old new CommandLine now
  unflushed old new Input now = first_of_whole old new Input now
  unflushed old new Output now = now
  unflushed old new OutOfMemory now = first_of_whole old new OutOfMemory now

  pub ran : (old new newer : Option (List ℕ)) (status : Status) (number : ℕ) → IsOutcome asked old new status
      → Keeps new newer → number ≡ tag_of the_type status → IsRun asked old newer number
  ran old new newer status number now keeps e =
      record { status = status; numbered = e ∙ number_is status; outcome = flushed old new newer status now keeps }

  pub ran_at_once : (old new : Option (List ℕ)) (status : Status) (number : ℕ) → IsOutcome asked old new status
      → number ≡ tag_of the_type status → IsRun asked old new number
  ran_at_once old new status number now e = record { status = status; numbered = e ∙ number_is status; outcome = now }

  pub ran_unflushed : (old new newer : Option (List ℕ)) (status : Status) (number : ℕ)
      → IsOutcome asked old new status → Keeps new newer → number ≡ 4 → IsRun asked old newer number
  ran_unflushed old new newer status number now keeps e =
      record {
        status = Output;
        numbered = e;
        outcome =
            unflushed old newer status (flushed old new newer status now keeps);
      }

-- ---- whether the writer fails

-- the number of a status says it as the status does
number_says : (status : Status) (number : ℕ) (old new : Bool) → number ≡ exit_status status → SaysFault old new status
    → NumberSaysFault old new number
number_says Done number old new is says = (λ four. absurd (omega (arith, is, four)), λ other. says)
number_says Refused number old new is says = (λ four. absurd (omega (arith, is, four)), λ other. says)
number_says CommandLine number old new is says = (λ four. absurd (omega (arith, is, four)), λ other. says)
number_says Input number old new is says = (λ four. absurd (omega (arith, is, four)), λ other. says)
number_says Output number old new is says = (λ four. says, λ other. absurd (other is))
number_says OutOfMemory number old new is says = (λ four. absurd (omega (arith, is, four)), λ other. says)

pub tag_says : (status : Status) (number : ℕ) (old mid new : Bool) → number ≡ tag_of the_type status → new ≡ mid
    → SaysFault old mid status → NumberSaysFault old new number
tag_says status number old mid new is same says =
    number_says status number old new (is ∙ number_is status)
    (subst (λ (after : Bool). SaysFault old after status) (sym same) says)

pub four_says : (number : ℕ) (old new : Bool) → number ≡ 4 → new ≡ true → NumberSaysFault old new number
four_says number old new is fails = (λ four. fails, λ other. absurd (other is))
