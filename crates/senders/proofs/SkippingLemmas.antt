-- Commits that are passed over are taken up, and nothing is said of them.
use Rattle.std.proofs.Common.{◌≡◌, ℕ, suc, ◌+◌, ◌-◌, ◌<◌, ◌≤◌, List, [], ◌∷◌, ◌++◌, length, map, take, drop, get_or, sym, ◌∙◌, ap, subst, append_assoc, append-nil, arith}
use Rattle.std.specs.Prelude.{Option, Some, IfSome}
use Rattle.std.proofs.lemmas.List.{drop_more, take_more, take_all, map-append}
use lib.Seq.{drop-append_seam}
use Rattle.shard_checker.specs.CheckedView.{CheckedOf}
use Rattle.tables_log.specs.Commits.{CommitOf}
use Rattle.tables_log.specs.Routes.{ArePassed, IsRouted}
use Rattle.tables_log.specs.declared.routed.Routed.{Routed}
use Rattle.copy_both.specs.StreamLaws.{Start}
use Rattle.copy_both.specs.Voices as voices
use Rattle.copy_both.specs.Voices.{IsQuietFor, Sends, StageOf, entry_bytes, entry_stage, next_of, voice_checked, voice_stage}
use Rattle.copy_both.specs.declared.voice.Voice.{Voice}
use Rattle.senders.specs.Sending.{AreQuietFor, TakesUp, TellsOn, started_telling}
use Rattle.senders.proofs.SendingLemmas.{takes_up}

-- ---- a commit that is skipped is taken up

abbrev pub Skips : Voice → Voice → CommitOf → Type 0
Skips old new commit = (clock : ℕ)
    → Sends old new (entry_bytes (voice_checked old) (voice_stage old) commit clock)
    (entry_stage (voice_checked old) (voice_stage old) commit)

skips_one : (old new : Voice) (commit : CommitOf) → IfSome (next_of (voice_stage old)) (λ next. commit.number ≡ next)
    → Skips old new commit → TakesUp (commit ∷ []) old new
skips_one old new commit next skips before after taken told on =
    let tells = on.tells in
    let runs : next_of (voice_stage old) ≡ Some (tells.state.done + 1) = ap next_of tells.stage_is in
    let numbered : commit.number ≡ tells.state.done + 1 =
    subst (λ (number : Option ℕ). IfSome number (λ next. commit.number ≡ next)) runs next in
    takes_up before after told taken old new commit (tells.state.done + 1) 0 (omega arith) on runs numbered (skips 0)

pub takes_none : (voice : Voice) → TakesUp [] voice voice
takes_none voice before after taken told on =
    subst (λ (commits : List CommitOf). TellsOn before after commits voice told) (sym (append-nil taken)) on

takes_more : (first more : List CommitOf) (old between new : Voice) → TakesUp first old between
    → TakesUp more between new → TakesUp (first ++ more) old new
takes_more first more old between new one other before after taken told on =
    subst (λ (commits : List CommitOf). TellsOn before after commits new told) (append_assoc taken first more)
    (other before after (taken ++ first) told (one before after taken told on))

-- ---- the next of commits that are passed over

pub quiet_next : (checked : CheckedOf) (stage : StageOf) (commit : CommitOf) (commits : List CommitOf)
    → AreQuietFor checked stage (commit ∷ commits) → IfSome (next_of stage) (λ next. commit.number ≡ next)
quiet_next checked voices.NotStarted commit commits are = tt
quiet_next checked (voices.Started place) commit commits are = let number = are.0.0 in omega (arith, number)
quiet_next checked voices.Closed commit commits are = tt

pub quiet_first : (checked : CheckedOf) (stage : StageOf) (commit : CommitOf) (commits : List CommitOf)
    → AreQuietFor checked stage (commit ∷ commits) → IsQuietFor checked stage commit
quiet_first checked voices.NotStarted commit commits are = tt
quiet_first checked (voices.Started place) commit commits are = are.0.1
quiet_first checked voices.Closed commit commits are = tt

later : (checked : CheckedOf) (stage : StageOf) (commit : CommitOf) (commits : List CommitOf)
    → AreQuietFor checked stage (commit ∷ commits) → AreQuietFor checked (entry_stage checked stage commit) commits
later checked voices.NotStarted commit commits are = tt
later checked (voices.Started place) commit commits are =
    let done : suc place.done ≡ place.done + 1 = omega arith in
    subst (λ (count : ℕ). ArePassed checked.plan place.slot count commits) done are.1
later checked voices.Closed commit commits are = tt

quiet_rest : (old new : Voice) (commit : CommitOf) (commits : List CommitOf)
    → AreQuietFor (voice_checked old) (voice_stage old) (commit ∷ commits) → Skips old new commit
    → AreQuietFor (voice_checked new) (voice_stage new) commits
quiet_rest old new commit commits are skips =
    let says = skips 0 in
    subst (λ (checked : CheckedOf). AreQuietFor checked (voice_stage new) commits) (sym says.checked)
    (subst (λ (stage : StageOf). AreQuietFor (voice_checked old) stage commits) (sym says.stage_is)
    (later (voice_checked old) (voice_stage old) commit commits are))

-- ---- commits are skipped, one by one

-- this number of them were skipped, and the others are to be
pub record SkipsSome {X : Type 0} (view : X → CommitOf) (commits : List X) (count : ℕ) (old new : Voice) : Type 0 where
  pub taken : TakesUp (map view (take count commits)) old new
  pub left : AreQuietFor (voice_checked new) (voice_stage new) (map view (drop count commits))

module _ {X : Type 0} (view : X → CommitOf) (commits : List X) (old : Voice) where
  pub skips_first : AreQuietFor (voice_checked old) (voice_stage old) (map view commits)
      → SkipsSome view commits 0 old old
  skips_first are = record { taken = takes_none old; left = are }

  -- the next of them, as it is seen
  module _ (count : ℕ) (between : Voice) (one : X) (shown : CommitOf) (there : count < length commits)
      (found : one ≡ get_or commits count one) (viewed : shown ≡ view one)
      (some : SkipsSome view commits count old between) where
    ahead : AreQuietFor (voice_checked between) (voice_stage between)
        (shown ∷ map view (drop (count + 1) commits))
    ahead =
        subst (λ (first : CommitOf). AreQuietFor (voice_checked between) (voice_stage between)
        (first ∷ map view (drop (count + 1) commits))) (ap view (sym found) ∙ sym viewed)
        (subst (λ (rest : List X). AreQuietFor (voice_checked between) (voice_stage between) (map view rest))
        (drop_more commits count one there) some.left)

    pub is_next : IfSome (next_of (voice_stage between)) (λ next. shown.number ≡ next)
    is_next =
        quiet_next (voice_checked between) (voice_stage between) shown (map view (drop (count + 1) commits)) ahead

    pub is_quiet : IsQuietFor (voice_checked between) (voice_stage between) shown
    is_quiet =
        quiet_first (voice_checked between) (voice_stage between) shown (map view (drop (count + 1) commits)) ahead

    more : map view (take (count + 1) commits) ≡ map view (take count commits) ++ shown ∷ []
    more =
        ap (map view) (take_more commits count one there)
        ∙ map-append view (take count commits) (get_or commits count one ∷ [])
        ∙ ap (λ (last : CommitOf). map view (take count commits) ++ last ∷ []) (ap view (sym found) ∙ sym viewed)

    pub skips_next : (new : Voice) → Skips between new shown → SkipsSome view commits (count + 1) old new
    skips_next new skips = record {
      taken = subst (λ (list : List CommitOf). TakesUp list old new) (sym more)
          (takes_more (map view (take count commits)) (shown ∷ []) old between new some.taken
          (skips_one between new shown is_next skips));
      left = quiet_rest between new shown (map view (drop (count + 1) commits)) ahead skips;
    }

  -- all of them
  pub skips_all : (count : ℕ) (new : Voice) → length commits ≤ count → SkipsSome view commits count old new
      → TakesUp (map view commits) old new
  skips_all count new whole some =
      subst (λ (list : List X). TakesUp (map view list) old new) (take_all count commits whole) some.taken

-- ---- what the publisher says comes next

-- Commits from the number on that the voice takes next, of which the subscriber gets nothing, are quiet for it.
pub next_are_quiet : (before after : Option (List ℕ)) (taken commits : List CommitOf) (voice : Voice)
    (checked : CheckedOf) (slot start number : ℕ) (passed : List ℕ)
    → TellsOn before after taken voice (started_telling checked slot start passed)
    → next_of (voice_stage voice) ≡ Some number → ArePassed checked.plan slot (number - 1) commits
    → AreQuietFor (voice_checked voice) (voice_stage voice) commits
next_are_quiet before after taken commits voice checked slot start number passed on next are =
    let tells = on.tells in
    let counted : Some (tells.state.done + 1) ≡ Some number = sym (ap next_of tells.stage_is) ∙ next in
    let count : tells.state.done + 1 ≡ number = cc in
    let done : number - 1 ≡ tells.state.done = omega (arith, count) in
    let slot_is : tells.state.slot ≡ slot = tells.slot ∙ ap (λ (start : Start). start.slot) on.follows.start_is in
    subst (λ (one : CheckedOf). AreQuietFor one (voice_stage voice) commits)
    (sym (tells.checked_is ∙ on.follows.checked_is))
    (subst (λ (stage : StageOf). AreQuietFor checked stage commits) (sym tells.stage_is)
    (subst (λ (place : ℕ). ArePassed checked.plan place tells.state.done commits) (sym slot_is)
    (subst (λ (count : ℕ). ArePassed checked.plan slot count commits) done are)))

-- An entry that is routed by the publisher's plan is routed by that of the voice.
pub next_is_routed : (before after : Option (List ℕ)) (taken : List CommitOf) (voice : Voice) (checked : CheckedOf)
    (slot start : ℕ) (passed : List ℕ) (entry : Routed)
    → TellsOn before after taken voice (started_telling checked slot start passed) → IsRouted checked.plan entry
    → IsRouted (voice_checked voice).plan entry
next_is_routed before after taken voice checked slot start passed entry on =
    subst (λ (one : CheckedOf). IsRouted one.plan entry) (sym (on.tells.checked_is ∙ on.follows.checked_is))

-- ---- commits that were appended to those that were taken

pub appended : {X : Type 0} (before commits all passed : List X) (count : ℕ) → all ≡ before ++ commits
    → count ≡ length before → passed ≡ drop count all → passed ≡ commits
appended before commits all passed count all_is count_is is =
    is ∙ ap (λ (n : ℕ). drop n all) count_is ∙ ap (drop (length before)) all_is ∙ drop-append_seam before commits

module _ {X : Type 0} (view : X → CommitOf) (commits passed : List X) where
  pub subst_quiet : (voice : Voice) → passed ≡ commits
      → AreQuietFor (voice_checked voice) (voice_stage voice) (map view commits)
      → AreQuietFor (voice_checked voice) (voice_stage voice) (map view passed)
  subst_quiet voice same =
      subst (λ (list : List X). AreQuietFor (voice_checked voice) (voice_stage voice) (map view list)) (sym same)

  pub subst_taken : (old new : Voice) → passed ≡ commits → TakesUp (map view passed) old new
      → TakesUp (map view commits) old new
  subst_taken old new same = subst (λ (list : List X). TakesUp (map view list) old new) same
