-- Messages that are taken one after another.
use Rattle.std.proofs.Common.{◌≡◌, ℕ, ◌+◌, ◌<◌, ◌≤◌, Bool, true, false, Option, Some, None, List, [], ◌∷◌, ◌++◌, length, get_or, drop, map, refl, sym, ap, subst, ◌∙◌, append_assoc, append-nil}
use Rattle.std.specs.Prelude.{slice_get, slice_index_or}
use Rattle.filter_tree.specs.declared.table.Table.{Table}
use Rattle.replica_identity.specs.ChangeView.{change_view}
use Rattle.replica_identity.specs.declared.change.Change.{Change}
use Rattle.shard_checker.specs.CheckedView.{CheckedOf, setting_in}
use Rattle.table_changes.specs.Outs.{got}
use Rattle.table_changes.specs.Records as r
use Rattle.pgoutput_msgs.specs.Sinks.{TakesEach}
use Rattle.pgoutput_msgs.specs.Telling.{introduced, a_relation, relation_once, relations_of, mark_one, mark_all, message_of, named_in, said, mark_by, said_each, mark_each}
use Rattle.pgoutput_msgs.proofs.TellingLemmas.{Introduces, introduces_on, all_introduced, all_marked, Says, says_on, all_said, each_marked}
use Rattle.pgoutput_msgs.specs.declared.message.Msg.{Msg}

module _ {S : Type 0} (takes_one : S → S → Msg → Type 0) where
  pub takes_message : (old new : S) (message : Msg) → takes_one old new message → TakesEach takes_one old new (message ∷ [])
  takes_message old new message took = (new, took, refl)

  pub takes_both : (old between new : S) (first second : List Msg) → TakesEach takes_one old between first
      → TakesEach takes_one between new second → TakesEach takes_one old new (first ++ second)
  takes_both old between new [] second one other = subst (λ (s : S). TakesEach takes_one s new second) one other
  takes_both old between new (message ∷ first) second one other =
      (one.0, one.1, takes_both one.0 between new first second one.2 other)

  -- what is sent for a change that the subscriber gets: the Relations that were not sent before, and the message
  pub takes_said : (old between new : S) (tables : List Table) (sent : List Bool) (change : r.ChangeOf)
      → TakesEach takes_one old between (relations_of tables sent (named_in change))
      → TakesEach takes_one between new (message_of change)
      → TakesEach takes_one old new (said tables sent (Some change))
  unfolding said
  takes_said old between new tables sent change relations message =
      takes_both old between new (relations_of tables sent (named_in change)) (message_of change) relations message

-- messages that were taken so far, of which this holds
pub record Taken {S : Type 0} (takes_one : S → S → Msg → Type 0) (old now : S) (holds : List Msg → Type 0) : Type 0
  where
    pub messages : List Msg
    pub taken : TakesEach takes_one old now messages
    pub so_far : holds messages

abbrev pub Introduced : {S : Type 0} → (S → S → Msg → Type 0) → List Table → List Bool → List Bool → S → S → List ℕ
    → List ℕ → Type 0
Introduced takes_one tables sent sent_now old now all left =
    Taken takes_one old now (λ (messages : List Msg). Introduces tables sent sent_now [] messages all left)

abbrev pub Said : {S : Type 0} → (S → S → Msg → Type 0) → CheckedOf → ℕ → List Bool → List Bool → S → S → List Change
    → List Change → Type 0
Said takes_one checked subscriber sent sent_now old now all left =
    Taken takes_one old now (λ (messages : List Msg). Says checked subscriber sent sent_now [] messages all left)

module _ {S : Type 0} (takes_one : S → S → Msg → Type 0) where
  -- ---- the Relation of a table

  pub was_announced : (sink : S) (tables : List Table) (sent : List Bool) (number : ℕ)
      → true ≡ slice_index_or sent number false → TakesEach takes_one sink sink (relation_once tables sent number)
  unfolding relation_once
  was_announced sink tables sent number is =
      subst (λ (b : Bool). TakesEach takes_one sink sink (introduced tables b number)) is refl

  pub was_not_announced : (old new : S) (tables : List Table) (sent : List Bool) (number : ℕ)
      → false ≡ slice_index_or sent number false
      → TakesEach takes_one old new (a_relation number (slice_get tables number))
      → TakesEach takes_one old new (relation_once tables sent number)
  unfolding relation_once
  was_not_announced old new tables sent number is took =
      subst (λ (b : Bool). TakesEach takes_one old new (introduced tables b number)) is took

  -- ---- Relations

  pub none_introduced : (sink : S) (tables : List Table) (sent : List Bool) (all : List ℕ)
      → Introduced takes_one tables sent sent sink sink all (drop 0 all)
  none_introduced sink tables sent all =
      record { messages = []; taken = refl; so_far = record { text = refl; flags = refl } }

  pub more_introduced : (old now new : S) (tables : List Table) (sent sent_now later : List Bool) (all : List ℕ)
      (i n : ℕ) → n ≡ get_or all i 0 → i < length all
      → TakesEach takes_one now new (relation_once tables sent_now n) → later ≡ mark_one sent_now n
      → Introduced takes_one tables sent sent_now old now all (drop i all)
      → Introduced takes_one tables sent later old new all (drop (i + 1) all)
  more_introduced old now new tables sent sent_now later all i n is within took marked before =
      let first = before.messages in
      let second = relation_once tables sent_now n in
      record {
        messages = first ++ second;
        taken = takes_both takes_one old now new first second before.taken took;
        so_far = introduces_on tables sent sent_now later [] first (first ++ second) all i n is within refl marked
            before.so_far;
      }

  pub all_taken : (old now : S) (tables : List Table) (sent sent_now : List Bool) (all : List ℕ) (i : ℕ)
      → length all ≤ i
      → Introduced takes_one tables sent sent_now old now all (drop i all)
      → TakesEach takes_one old now (relations_of tables sent all)
  all_taken old now tables sent sent_now all i over so =
      subst (TakesEach takes_one old now) (all_introduced tables sent sent_now [] so.messages all i over so.so_far) so.taken

  pub all_flags : (old now : S) (tables : List Table) (sent sent_now : List Bool) (all : List ℕ) (i : ℕ)
      → length all ≤ i
      → Introduced takes_one tables sent sent_now old now all (drop i all) → sent_now ≡ mark_all sent all
  all_flags old now tables sent sent_now all i over so =
      all_marked tables sent sent_now [] so.messages all i over so.so_far

  -- ---- changes

  pub none_said : (sink : S) (checked : CheckedOf) (subscriber : ℕ) (sent : List Bool) (all : List Change)
      → Said takes_one checked subscriber sent sent sink sink all (drop 0 all)
  none_said sink checked subscriber sent all =
      record { messages = []; taken = refl; so_far = record { text = refl; flags = refl } }

  pub more_said : (old now new : S) (checked : CheckedOf) (subscriber : ℕ) (sent sent_now later : List Bool)
      (all : List Change) (i : ℕ) (c : Change) → c ≡ get_or all i c → i < length all
      → TakesEach takes_one now new
      (said checked.catalog.tables sent_now (got (setting_in checked) subscriber (change_view c)))
      → later ≡ mark_by sent_now (got (setting_in checked) subscriber (change_view c))
      → Said takes_one checked subscriber sent sent_now old now all (drop i all)
      → Said takes_one checked subscriber sent later old new all (drop (i + 1) all)
  more_said old now new checked subscriber sent sent_now later all i c is within took marked before =
      let first = before.messages in
      let second = said checked.catalog.tables sent_now (got (setting_in checked) subscriber (change_view c)) in
      record {
        messages = first ++ second;
        taken = takes_both takes_one old now new first second before.taken took;
        so_far = says_on checked subscriber sent sent_now later [] first (first ++ second) all i c is within refl
            marked before.so_far;
      }

  pub all_changes_taken : (old now : S) (checked : CheckedOf) (subscriber : ℕ) (sent sent_now : List Bool)
      (all : List Change) (i : ℕ) → length all ≤ i
      → Said takes_one checked subscriber sent sent_now old now all (drop i all)
      → TakesEach takes_one old now (said_each checked subscriber sent (map change_view all))
  all_changes_taken old now checked subscriber sent sent_now all i over so =
      subst (TakesEach takes_one old now) (all_said checked subscriber sent sent_now [] so.messages all i over so.so_far)
      so.taken

  pub all_changes_marked : (old now : S) (checked : CheckedOf) (subscriber : ℕ) (sent sent_now : List Bool)
      (all : List Change) (i : ℕ) → length all ≤ i
      → Said takes_one checked subscriber sent sent_now old now all (drop i all)
      → sent_now ≡ mark_each checked subscriber sent (map change_view all)
  all_changes_marked old now checked subscriber sent sent_now all i over so =
      each_marked checked subscriber sent sent_now [] so.messages all i over so.so_far

  -- what is sent for what the subscriber gets of a change
  pub said_of : (old new : S) (tables all : List Table) (sent : List Bool) (one other : Option r.ChangeOf)
      → tables ≡ all → other ≡ one
      → TakesEach takes_one old new (said tables sent one) → TakesEach takes_one old new (said all sent other)
  said_of old new tables all sent one other same is took =
      subst (λ (change : Option r.ChangeOf). TakesEach takes_one old new (said all sent change)) (sym is)
      (subst (λ (ts : List Table). TakesEach takes_one old new (said ts sent one)) same took)

  -- if the subscriber gets nothing, nothing is taken
  pub nothing_taken : (sink : S) (tables : List Table) (sent : List Bool)
      → TakesEach takes_one sink sink (said tables sent None)
  unfolding said
  nothing_taken sink tables sent = refl

  pub nothing_deleted : (sink : S) (tables : List Table) (sent : List Bool) (table : ℕ) (part : Option r.PartOf)
      → part ≡ None
      → TakesEach takes_one sink sink (said tables sent (Some (r.Delete table part)))
  unfolding said relations_of
  nothing_deleted sink tables sent table None is = refl
  nothing_deleted sink tables sent table (Some part) is = absurd cc

  -- if the change names this table alone
  pub takes_named : (old between new : S) (tables : List Table) (sent : List Bool) (table : ℕ) (change : r.ChangeOf)
      → named_in change ≡ table ∷ []
      → TakesEach takes_one old between (relations_of tables sent (table ∷ []))
      → TakesEach takes_one between new (message_of change) → TakesEach takes_one old new (said tables sent (Some change))
  takes_named old between new tables sent table change named relations message =
      takes_said takes_one old between new tables sent change
      (subst (λ (ns : List ℕ). TakesEach takes_one old between (relations_of tables sent ns)) (sym named) relations)
      message

pub marked_named : (sent later : List Bool) (table : ℕ) (change : r.ChangeOf) → named_in change ≡ table ∷ []
    → later ≡ mark_all sent (table ∷ []) → later ≡ mark_by sent (Some change)
unfolding mark_by
marked_named sent later table change named is = is ∙ ap (mark_all sent) (sym named)

pub nothing_marked_deleted : (sent : List Bool) (table : ℕ) (part : Option r.PartOf) → part ≡ None
    → sent ≡ mark_by sent (Some (r.Delete table part))
unfolding mark_by mark_all
nothing_marked_deleted sent table None is = refl
nothing_marked_deleted sent table (Some part) is = absurd cc

-- ---- messages in a list

-- messages that are added to a list
abbrev pub is_added : List Msg → List Msg → Msg → Type 0
is_added old new message = new ≡ old ++ message ∷ []

pub all_added : (old new messages : List Msg) → TakesEach is_added old new messages → new ≡ old ++ messages
all_added old new [] is = is ∙ sym (append-nil old)
all_added old new (message ∷ messages) took =
    all_added took.0 new messages took.2 ∙ ap (λ (m : List Msg). m ++ messages) took.1
    ∙ append_assoc old (message ∷ []) messages

pub spoken_messages : (old new messages : List Msg) → old ≡ [] → TakesEach is_added old new messages → new ≡ messages
spoken_messages old new messages none took = all_added old new messages took ∙ ap (λ (m : List Msg). m ++ messages) none
