-- A commit of which the subscriber gets nothing is taken as one that is skipped.
use Rattle.std.proofs.Common.{◌≡◌, ℕ, ◌+◌, ◌++◌, ◌||◌, Bool, List, [], ◌∷◌, map, refl, sym, ap, subst, ◌∙◌}
use Rattle.std.specs.Prelude.{false, All, Ok, Option, Some}
use Rattle.std.specs.List.{flat_map}
use Rattle.std.proofs.lemmas.List.{append-nil}
use Rattle.std.proofs.lemmas.List.Elements.{All-nil}
use Rattle.replica_identity.specs.Plans.{PlanOf}
use Rattle.row_owners.specs.Owners.{OwnedWhere, concerns, is_for}
use Rattle.row_owners.specs.declared.owner_set.OwnerSet.{OwnerSet}
use Rattle.shard_checker.specs.CheckedView.{CheckedOf}
use Rattle.tables_log.specs.Commits.{CommitOf}
use Rattle.tables_log.specs.Logs.{entry_at}
use Rattle.tables_log.specs.Lsn.{end_lsn_of}
use Rattle.table_changes.specs.Records.{ChangeOf}
use Rattle.tables_log.specs.Routes.{IsRouted, commit_in, gets_some}
use Rattle.tables_log.specs.declared.routed.Routed.{Routed}
use Rattle.pgoutput_msgs.specs.Sent.{IsSent}
use Rattle.pgoutput_msgs.specs.Silent.{IsSilent}
use Rattle.pgoutput_msgs.specs.Telling.{messages_for}
use Rattle.pgoutput_msgs.specs.declared.message.Msg.{Msg}
use Rattle.pgoutput_msgs.proofs.SilentLemmas.{quiet_are_silent}
use Rattle.copy_both.specs.Spared.{IsSpared, RouteAlike}
use Rattle.copy_both.specs.Streams.{StreamStateOf, Carries, head_of, state_after, spelled, take_bytes}
use Rattle.copy_both.specs.Tellings.{telling_of}
use Rattle.copy_both.specs.Voices as voices
use Rattle.copy_both.specs.Voices.{EntryIsReadBack, IsQuietFor, Sends, StageOf, entry_answer, entry_bytes, entry_stage, state_past, taken_of, voice_checked, voice_output, voice_stage}
use Rattle.copy_both.specs.declared.taken.Taken.TheVariants.{Skipped}
use Rattle.copy_both.specs.declared.voice.Voice.{Voice}

abbrev past_with : StreamStateOf → ℕ → List Bool → StreamStateOf
past_with state number sent =
    record { slot = state.slot; done = state.done + 1; relation_sent = sent; sent = end_lsn_of number }

module _ (checked : CheckedOf) (state : StreamStateOf) (commit : CommitOf)
    (quiet : concerns checked.plan commit.changes state.slot ≡ false) where
  silent : IsSilent checked state.slot state.relation_sent commit
  silent = quiet_are_silent checked state.slot state.relation_sent commit quiet

  says_nothing : (clock : ℕ) → take_bytes (telling_of checked) state commit clock ≡ []
  says_nothing clock =
      ap (λ (messages : List Msg). flat_map spelled (map (Carries (head_of commit.number clock)) messages))
      silent.messages

  is_past : state_after (telling_of checked) state commit ≡ state_past state commit.number
  is_past = ap (past_with state commit.number) silent.after

-- if nothing is sent and the stream is past the commit
pub skips : (old new : Voice) (state : StreamStateOf) (commit : CommitOf) (clock : ℕ)
    → voice_stage old ≡ voices.Started state
    → concerns (voice_checked old).plan commit.changes state.slot ≡ false
    → voice_checked new ≡ voice_checked old → voice_output new ≡ voice_output old
    → voice_stage new ≡ voices.Started (state_past state commit.number)
    → Sends old new (entry_bytes (voice_checked old) (voice_stage old) commit clock)
    (entry_stage (voice_checked old) (voice_stage old) commit)
skips old new state commit clock runs quiet checked output stage = record {
  checked = checked;
  stage_is = stage ∙ ap voices.Started (sym (is_past (voice_checked old) state commit quiet))
      ∙ ap (λ (s : StageOf). entry_stage (voice_checked old) s commit) (sym runs);
  output = output ∙ sym (append-nil (voice_output old))
      ∙ ap (λ (bytes : List ℕ). voice_output old ++ bytes) (sym
      (says_nothing (voice_checked old) state commit quiet clock))
      ∙ ap (λ (s : StageOf). voice_output old ++ entry_bytes (voice_checked old) s commit clock) (sym runs);
}

-- ---- a commit whose set lacks the subscriber

module _ (checked : CheckedOf) (commit : CommitOf) (owners : OwnerSet)
    (found : OwnedWhere owners (concerns checked.plan commit.changes)) where
  quiet_at : (stage : StageOf) → IsSpared owners stage → IsQuietFor checked stage commit
  quiet_at voices.NotStarted spared = absurd spared
  quiet_at (voices.Started state) spared = sym (found state.slot spared.0) ∙ spared.1
  quiet_at voices.Closed spared = absurd spared

  nothing_at : (state : StreamStateOf) → IsSpared owners (voices.Started state)
      → messages_for checked state.slot state.relation_sent commit ≡ []
  nothing_at state spared =
      (quiet_are_silent checked state.slot state.relation_sent commit
      (quiet_at (voices.Started state) spared)).messages

  answer_at : (stage : StageOf) → IsSpared owners stage
      → entry_answer checked stage commit ≡ Ok (Skipped commit.number)
  answer_at voices.NotStarted spared = absurd spared
  answer_at (voices.Started state) spared =
      ap (λ (messages : List Msg). Ok (taken_of commit.number messages)) (nothing_at state spared)
  answer_at voices.Closed spared = absurd spared

  read_back_at : (stage : StageOf) → IsSpared owners stage → EntryIsReadBack checked stage commit
  read_back_at voices.NotStarted spared = absurd spared
  read_back_at (voices.Started state) spared = subst (All IsSent) (sym (nothing_at state spared)) (All-nil IsSent)
  read_back_at voices.Closed spared = absurd spared

-- ---- by the sets of a plan by which the same subscribers get something from each change

module _ (one other : PlanOf) (alike : RouteAlike one other) where
  concerns_alike : (changes : List ChangeOf) (subscriber : ℕ)
      → concerns one changes subscriber ≡ concerns other changes subscriber
  concerns_alike [] subscriber = refl
  concerns_alike (change ∷ changes) subscriber =
      ap (λ (first : Bool). first || concerns one changes subscriber) (alike subscriber change)
      ∙ ap (λ (rest : Bool). is_for other subscriber change || rest) (concerns_alike changes subscriber)

  pub routed_alike : (entry : Routed) → IsRouted one entry → IsRouted other entry
  routed_alike entry routed = record {
    all = λ subscriber within.
        routed.all subscriber within ∙ concerns_alike (commit_in entry).changes subscriber;
    each = λ sets some. record {
      each = λ place change set at there subscriber within.
          (routed.each sets some).each place change set at there subscriber within ∙ alike subscriber change;
    };
  }

-- by the set that a book keeps with the commit
module _ (checked its : CheckedOf) (log : List CommitOf) (commit : CommitOf) (number : ℕ) (owners : OwnerSet)
    (found : OwnedWhere owners (gets_some its.plan (entry_at log number))) (alike : RouteAlike its.plan checked.plan)
    (held : entry_at log commit.number ≡ Some commit) (is : number ≡ commit.number) (stage : StageOf)
    (spared : IsSpared owners stage) where
  found_there : OwnedWhere owners (concerns checked.plan commit.changes)
  found_there subscriber within =
      found subscriber within
      ∙ ap (λ (entry : Option CommitOf). gets_some its.plan entry subscriber) (ap (entry_at log) is ∙ held)
      ∙ concerns_alike its.plan checked.plan alike commit.changes subscriber

  pub spared_is_quiet : IsQuietFor checked stage commit
  spared_is_quiet = quiet_at checked commit owners found_there stage spared

  pub spared_answer : entry_answer checked stage commit ≡ Ok (Skipped commit.number)
  spared_answer = answer_at checked commit owners found_there stage spared

  pub spared_is_read_back : EntryIsReadBack checked stage commit
  spared_is_read_back = read_back_at checked commit owners found_there stage spared
