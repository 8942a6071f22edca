-- The messages of a commit are those of what is seen of its transaction.
use Rattle.std.proofs.Common.{◌≡◌, ◌≢◌, ℕ, zero, suc, ◌<◌, ◌≤◌, ◌⊎◌, inl, inr, Bool, true, false, ◌||◌, Option, Some, None, List, [], ◌∷◌, ◌++◌, length, map, refl, sym, ap, subst, ◌∙◌, arith, rules, append_assoc, length-append}
use Rattle.std.specs.Prelude.{filter_map, nat_eq, if◌then◌else◌, slice_get, slice_index_or}
use Rattle.std.specs.Cmp.{unsigned_Decides}
use Rattle.std.specs.List.{flat_map, cons_option}
use Rattle.std.proofs.lemmas.List.{get_or-set_same, get_or-set_other, length-set}
use Rattle.std.proofs.lemmas.List.Concat.{flat_map-cons}
use Rattle.std.proofs.lemmas.List.Folds.{list_any-append}
use Rattle.std.proofs.lemmas.Option.{slice_get_past}
use Rattle.filter_tree.specs.Datum.{Datum}
use Rattle.filter_tree.specs.declared.table.Table.{Table}
use Rattle.shard_checker.specs.CheckedView.{CheckedOf, setting_in}
use Rattle.table_changes.specs.Outs.{got, as_recorded}
use Rattle.table_changes.specs.Records as r
use Rattle.table_changes.specs.Records.{part_by, part_of}
use Rattle.table_changes.specs.Seen as s
use Rattle.table_changes.specs.Seen.{Seen, seen}
use Rattle.table_changes.specs.Setting.{Setting, Recorded, Columns, Whole, Nowhere}
use Rattle.table_changes.specs.Standing.{Covered}
use Rattle.table_changes.proofs.ShowingLemmas.{record_shows_all}
use Rattle.tables_log.specs.Commits.{CommitOf}
use Rattle.pgoutput_msgs.specs.SeenMessages.{seen_message}
use Rattle.pgoutput_msgs.proofs.SeenMessageLemmas.{one_seen, as_message}
use Rattle.pgoutput_msgs.specs.Telling.{a_relation, introduced, relation_once, relations_of, mark_one, mark_all, named_in, message_of, said, mark_by, said_each, mark_each, begin_msg, commit_msg, enclosed}
use Rattle.pgoutput_msgs.specs.Transactions.{tables_of, is_among, first_relation, first_relations, change_messages, changes_messages, transaction_messages, AreNamed, CommitsTellTransactions}
use Rattle.pgoutput_msgs.specs.declared.message.Msg.{Msg}
use Rattle.filter_tree.proofs.Tests.{or_true, or_false}

abbrev is_announced : List Bool → ℕ → Bool
is_announced sent number = slice_index_or sent number false

-- ---- numbers

same_or_other : (n number : ℕ) → (n ≡ number) ⊎ (n ≢ number)
same_or_other zero zero = inl refl
same_or_other zero (suc number) = inr (λ e. omega (arith, e))
same_or_other (suc n) zero = inr (λ e. omega (arith, e))
same_or_other (suc n) (suc number) =
    elim (same_or_other n number) [ inl e ↦ inl (ap suc e) | inr differs ↦ inr (λ e. differs (omega (arith, e))) ]

below_or_not : (n most : ℕ) → (n < most) ⊎ (most ≤ n)
below_or_not n zero = inr (omega arith)
below_or_not zero (suc most) = inl (omega arith)
below_or_not (suc n) (suc most) =
    elim (below_or_not n most) [ inl h ↦ inl (omega (arith, h)) | inr h ↦ inr (omega (arith, h)) ]

eq_itself : (n : ℕ) → nat_eq n n ≡ true
eq_itself n = search rules

is_other : (n number : ℕ) → n ≢ number → (b : Bool) → nat_eq n number ≡ b → b ≡ false
is_other n number differs true e = absurd (differs ((unsigned_Decides n number).0 e))
is_other n number differs false e = refl

-- one more number in a list
among_itself : (number : ℕ) (named : List ℕ) → is_among number (named ++ number ∷ []) ≡ true
among_itself number named =
    list_any-append (nat_eq number) named (number ∷ [])
    ∙ ap (λ (b : Bool). is_among number named || (b || false)) (eq_itself number)
    ∙ or_true (is_among number named)

among_others : (n number : ℕ) (named : List ℕ) → n ≢ number → is_among n (named ++ number ∷ []) ≡ is_among n named
among_others n number named differs =
    list_any-append (nat_eq n) named (number ∷ [])
    ∙ ap (λ (b : Bool). is_among n named || (b || false)) (is_other n number differs (nat_eq n number) refl)
    ∙ or_false (is_among n named)

-- ---- flags and names

module _ (tables : List Table) where
  named_one : (sent : List Bool) (named : List ℕ) (number : ℕ) → AreNamed tables sent named
      → AreNamed tables (mark_one sent number) (named ++ number ∷ [])
  named_one sent named number is = record {
    long = length-set sent number true ∙ is.long;
    each = λ n within. elim (same_or_other n number) [
      | inl e ↦ subst (λ k. is_announced (mark_one sent number) k ≡ is_among k (named ++ number ∷ [])) (sym e)
          (get_or-set_same sent number true false (let long = is.long in omega arith) ∙ sym (among_itself number named))
      | inr differs ↦ get_or-set_other sent number n true false differs ∙ is.each n within
          ∙ sym (among_others n number named differs)
    ];
  }

  named_all : (sent : List Bool) (named numbers : List ℕ) → AreNamed tables sent named
      → AreNamed tables (mark_all sent numbers) (named ++ numbers)
  unfolding mark_all
  named_all sent named [] is = subst (AreNamed tables sent) (search rules) is
  named_all sent named (number ∷ numbers) is =
      subst (AreNamed tables (mark_all (mark_one sent number) numbers)) (append_assoc named (number ∷ []) numbers)
      (named_all (mark_one sent number) (named ++ number ∷ []) numbers (named_one sent named number is))

  introduced_by : (b : Bool) (number : ℕ)
      → introduced tables b number ≡ (if b then [] else a_relation number (slice_get tables number))
  introduced_by true number = refl
  introduced_by false number = refl

  -- nothing is sent for a table that does not exist
  none_there : (b : Bool) (number : ℕ) → slice_get tables number ≡ None
      → (if b then [] else a_relation number (slice_get tables number)) ≡ []
  none_there true number none = refl
  none_there false number none = ap (a_relation number) none

  once_first : (sent : List Bool) (named : List ℕ) (number : ℕ) → AreNamed tables sent named
      → relation_once tables sent number ≡ first_relation tables named number
  unfolding relation_once
  once_first sent named number is = elim (below_or_not number (length tables)) [
    | inl within ↦ introduced_by (is_announced sent number) number
        ∙ ap (λ (b : Bool). if b then [] else a_relation number (slice_get tables number)) (is.each number within)
    | inr beyond ↦
        let none : slice_get tables number ≡ None = slice_get_past tables number beyond in
        introduced_by (is_announced sent number) number ∙ none_there (is_announced sent number) number none
        ∙ sym (none_there (is_among number named) number none)
  ]

  relations_first : (sent : List Bool) (named numbers : List ℕ) → AreNamed tables sent named
      → relations_of tables sent numbers ≡ first_relations tables named numbers
  unfolding relations_of
  relations_first sent named [] is = refl
  relations_first sent named (number ∷ numbers) is =
      ap (λ (x : List Msg). x ++ relations_of tables (mark_one sent number) numbers) (once_first sent named number is)
      ∙ ap (λ (x : List Msg). first_relation tables named number ++ x)
      (relations_first (mark_one sent number) (named ++ number ∷ []) numbers (named_one sent named number is))

-- ---- changes that a subscriber gets

-- what is sent for them, and the tables that were announced after them
all_said : List Table → List Bool → List r.ChangeOf → List Msg
all_said tables sent [] = []
all_said tables sent (change ∷ changes) =
    said tables sent (Some change) ++ all_said tables (mark_by sent (Some change)) changes

marked_by_all : List Bool → List r.ChangeOf → List Bool
marked_by_all sent [] = sent
marked_by_all sent (change ∷ changes) = marked_by_all (mark_by sent (Some change)) changes

module _ (checked : CheckedOf) (subscriber : ℕ) where
  abbrev tables : List Table
  tables = checked.catalog.tables

  abbrev mine : r.ChangeOf → Option r.ChangeOf
  mine = got (setting_in checked) subscriber

  said_one : (sent : List Bool) (one : Option r.ChangeOf) (others : List r.ChangeOf)
      → said tables sent one ++ all_said tables (mark_by sent one) others
      ≡ all_said tables sent (cons_option one others)
  unfolding said mark_by all_said
  said_one sent None others = refl
  said_one sent (Some change) others = refl

  marked_first : (sent : List Bool) (one : Option r.ChangeOf) (others : List r.ChangeOf)
      → marked_by_all (mark_by sent one) others ≡ marked_by_all sent (cons_option one others)
  unfolding mark_by marked_by_all
  marked_first sent None others = refl
  marked_first sent (Some change) others = refl

  said_mine : (sent : List Bool) (changes : List r.ChangeOf)
      → said_each checked subscriber sent changes ≡ all_said tables sent (filter_map mine changes)
  unfolding said_each all_said
  said_mine sent [] = refl
  said_mine sent (change ∷ changes) =
      ap (λ (x : List Msg). said tables sent (mine change) ++ x) (said_mine (mark_by sent (mine change)) changes)
      ∙ said_one sent (mine change) (filter_map mine changes)

  marked_mine : (sent : List Bool) (changes : List r.ChangeOf)
      → mark_each checked subscriber sent changes ≡ marked_by_all sent (filter_map mine changes)
  unfolding mark_each marked_by_all
  marked_mine sent [] = refl
  marked_mine sent (change ∷ changes) = marked_mine (mark_by sent (mine change)) changes
      ∙ marked_first sent (mine change) (filter_map mine changes)

-- ---- what is seen, as it is recorded

-- something is recorded of an old row that is removed
part_there : (setting : Setting) → Covered setting → (table : ℕ) (old : List Datum) (as_it : Recorded)
    → setting.recorded table ≡ as_it
    → (part : Option r.PartOf) → part ≡ part_by as_it (setting.identity table) (setting.blanked table) old None
    → part ≢ None
part_there setting covered table old Columns h part is none = absurd cc
part_there setting covered table old Whole h part is none = absurd cc
part_there setting covered table old Nowhere h part is none = absurd (covered.recorded table h)

named_by_part : (table : ℕ) (part : Option r.PartOf) → part ≢ None → named_in (r.Delete table part) ≡ table ∷ []
named_by_part table None there = absurd (there refl)
named_by_part table (Some part) there = refl

names_as : (setting : Setting) → Covered setting → (one : Seen) → named_in (as_recorded setting one) ≡ tables_of one
names_as setting covered (s.Insert table new) = refl
names_as setting covered (s.Update table old new) = refl
names_as setting covered (s.Delete table old) =
    named_by_part table (part_of setting table old None)
    (part_there setting covered table old (setting.recorded table) refl (part_of setting table old None) refl)
names_as setting covered (s.Truncate numbers) = refl

-- ---- the messages of what is seen

longer : (one other : List Msg) → 1 ≤ length one → length (one ++ other) ≢ 0
longer [] other h e = omega (arith, h)
longer (message ∷ one) other h e = omega (arith, e)

module _ (checked : CheckedOf) (covered : Covered (setting_in checked)) where
  abbrev all_tables : List Table
  all_tables = checked.catalog.tables

  abbrev recorded : Seen → r.ChangeOf
  recorded = as_recorded (setting_in checked)

  said_as : (sent : List Bool) (named : List ℕ) (one : Seen) → AreNamed all_tables sent named
      → said all_tables sent (Some (recorded one)) ≡ change_messages checked named one
  unfolding said
  said_as sent named one is =
      ap (λ (numbers : List ℕ). relations_of all_tables sent numbers ++ message_of (recorded one))
      (names_as (setting_in checked) covered one)
      ∙ ap (λ (messages : List Msg). relations_of all_tables sent (tables_of one) ++ messages)
      (as_message (setting_in checked) one)
      ∙ ap (λ (relations : List Msg). relations ++ seen_message (setting_in checked) one)
      (relations_first all_tables sent named (tables_of one) is)

  marked_one_more : (sent : List Bool) (named : List ℕ) (one : Seen) → AreNamed all_tables sent named
      → AreNamed all_tables (mark_by sent (Some (recorded one))) (named ++ tables_of one)
  unfolding mark_by
  marked_one_more sent named one is =
      subst (λ numbers. AreNamed all_tables (mark_all sent numbers) (named ++ tables_of one))
      (sym (names_as (setting_in checked) covered one))
      (named_all all_tables sent named (tables_of one) is)

  changes_as : (sent : List Bool) (named : List ℕ) (all : List Seen) → AreNamed all_tables sent named
      → all_said all_tables sent (map recorded all) ≡ changes_messages checked named all
  unfolding all_said
  changes_as sent named [] is = refl
  changes_as sent named (one ∷ all) is =
      ap (λ (messages : List Msg). messages
      ++ all_said all_tables (mark_by sent (Some (recorded one))) (map recorded all)) (said_as sent named one is)
      ∙ ap (λ (messages : List Msg). change_messages checked named one ++ messages)
      (changes_as (mark_by sent (Some (recorded one))) (named ++ tables_of one) all (marked_one_more sent named one is))

  marked_as : (sent : List Bool) (named : List ℕ) (all : List Seen) → AreNamed all_tables sent named
      → AreNamed all_tables (marked_by_all sent (map recorded all)) (named ++ flat_map tables_of all)
  unfolding marked_by_all
  marked_as sent named [] is = subst (AreNamed all_tables sent) (search rules) is
  marked_as sent named (one ∷ all) is =
      subst (AreNamed all_tables (marked_by_all (mark_by sent (Some (recorded one))) (map recorded all)))
      (append_assoc named (tables_of one) (flat_map tables_of all)
      ∙ ap (λ (numbers : List ℕ). named ++ numbers) (sym (flat_map-cons tables_of one all)))
      (marked_as (mark_by sent (Some (recorded one))) (named ++ tables_of one) all (marked_one_more sent named one is))

  -- each change has a message
  something_said : (named : List ℕ) (one : Seen) (all : List Seen) → changes_messages checked named (one ∷ all) ≢ []
  something_said named one all none =
      longer (change_messages checked named one) (changes_messages checked (named ++ tables_of one) all)
      (let one_message = one_seen (setting_in checked) covered one in
      simp length-append (omega (arith, one_message)))
      (ap length none)

within : (commit : CommitOf) (messages : List Msg) → messages ≢ []
    → enclosed commit messages ≡ begin_msg commit ∷ messages ++ commit_msg commit ∷ []
within commit [] some = absurd (some refl)
within commit (first ∷ others) some = refl

enclosed_within : (checked : CheckedOf) → Covered (setting_in checked)
    → (named : List ℕ) (commit : CommitOf) (all : List Seen)
    → enclosed commit (changes_messages checked named all) ≡ transaction_messages checked named commit.number commit.time all
enclosed_within checked covered named commit [] = refl
enclosed_within checked covered named commit (one ∷ all) =
    within commit (changes_messages checked named (one ∷ all)) (something_said checked covered named one all)

-- ---- the law

pub commits_tell_transactions : CommitsTellTransactions
commits_tell_transactions checked covered subscriber sent named is commit tables number commands h as_recorded_there =
    let setting = setting_in checked in
    let all = seen setting subscriber tables commands in
    let gets : filter_map (got setting subscriber) commit.changes ≡ map (as_recorded setting) all =
    ap (filter_map (got setting subscriber)) as_recorded_there
    ∙ record_shows_all setting covered subscriber tables number commands h in
    record {
      messages = ap (enclosed commit)
          (said_mine checked subscriber sent commit.changes ∙ ap (all_said checked.catalog.tables sent) gets
          ∙ changes_as checked covered sent named all is)
          ∙ enclosed_within checked covered named commit all;
      named_after = subst (λ flags. AreNamed checked.catalog.tables flags (named ++ flat_map tables_of all))
          (sym (marked_mine checked subscriber sent commit.changes ∙ ap (marked_by_all sent) gets))
          (marked_as checked covered sent named all is);
    }
