-- A table's Relation comes once, and before the first change of the table.
use Rattle.std.proofs.Common.{◌≡◌, ◌≢◌, ℕ, zero, suc, ◌<◌, ◌≤◌, Bool, true, false, Option, Some, None, List, [], ◌∷◌, ◌++◌, length, set, map, refl, sym, ap, subst, ◌∙◌, arith}
use Rattle.std.specs.Prelude.{All, Contains, IfSome, fold, option_map, if◌then◌else◌, slice_get, slice_index_or}
use Rattle.std.specs.List.{list_any}
use Rattle.std.proofs.lemmas.List.{get_or-set_same, get_or-set_other, set-get_or, length-set}
use Rattle.std.proofs.lemmas.List.Elements.{All-nil, All-cons, All-head, All-tail, All-filter}
use Rattle.std.proofs.lemmas.List.Sums.{fold-append}
use Rattle.filter_tree.specs.Datum.{Datum}
use Rattle.filter_tree.specs.declared.table.Table.{Table}
use Rattle.shard_checker.specs.CheckedView.{CheckedOf, setting_in}
use Rattle.table_changes.specs.Outs as o
use Rattle.table_changes.specs.Outs.{got}
use Rattle.table_changes.specs.Records as r
use Rattle.tables_log.specs.Commits.{CommitOf}
use Rattle.pgoutput_msgs.specs.Introducing.{IsIntroduced, known_after, AreIntroduced, KnownAreAnnounced, IsChangeOf, IsOf, messages_in_turn, relation_sent_in_turn, Introduces, CommitsIntroduce, CommitsInTurnIntroduce}
use Rattle.pgoutput_msgs.specs.Telling.{oid_of, a_relation, introduced, relation_once, relation_of, relations_of, mark_one, mark_all, named_in, message_of, said, mark_by, said_each, mark_each, begin_msg, commit_msg, enclosed, messages_for, relation_sent_after}
use Rattle.pgoutput_msgs.specs.declared.message.Msg.{Msg}
use Rattle.pgoutput_msgs.specs.declared.message.Msg.TheVariants as m

abbrev is_announced : List Bool → ℕ → Bool
is_announced sent number = slice_index_or sent number false

-- ---- messages one after the other

introduced_both : (known : List ℕ) (one other : List Msg) → AreIntroduced known one
    → AreIntroduced (fold known_after known one) other → AreIntroduced known (one ++ other)
introduced_both known [] other h k = k
introduced_both known (message ∷ one) other h k = (h.0, introduced_both (known_after known message) one other h.1 k)

nothing : (sent : List Bool) → Introduces sent sent []
nothing sent = record { introduced = λ known h. tt; known = λ known h. h }

both : (sent between after : List Bool) (one other : List Msg) → Introduces sent between one
    → Introduces between after other → Introduces sent after (one ++ other)
both sent between after one other h k = record {
  introduced = λ known is. introduced_both known one other (h.introduced known is)
      (k.introduced (fold known_after known one) (h.known known is));
  known = λ known is. subst (KnownAreAnnounced after) (sym (fold-append known_after known one other))
      (k.known (fold known_after known one) (h.known known is));
}

-- ---- Relations

first_known : (oid : ℕ) (known : List ℕ) → Contains (oid ∷ known) oid
first_known oid known = (0, omega arith, refl)

still_known : (oid other : ℕ) (known : List ℕ) → Contains known other → Contains (oid ∷ known) other
still_known oid other known h = (suc h.0, omega (arith, h.1), h.2)

first_or_later : (oid other : ℕ) (known : List ℕ) (P : Type 0) → (oid ≡ other → P) → (Contains known other → P)
    → Contains (oid ∷ known) other → P
first_or_later oid other known P first later (zero, within, is) = first is
first_or_later oid other known P first later (suc k, within, is) = later (k, omega (arith, within), is)

announced_itself : (sent : List Bool) (number : ℕ) → number < length sent
    → is_announced (mark_one sent number) number ≡ true
announced_itself sent number within = get_or-set_same sent number true false within

is_same : (n number : ℕ) (P : Type 0) → (n ≡ number → P) → (n ≢ number → P) → P
is_same zero zero P same other = same refl
is_same zero (suc number) P same other = other (λ e. omega (arith, e))
is_same (suc n) zero P same other = other (λ e. omega (arith, e))
is_same (suc n) (suc number) P same other =
    is_same n number P (λ e. same (ap suc e)) (λ differs. other (λ e. differs (omega (arith, e))))

still_announced : (sent : List Bool) (number n : ℕ) → number < length sent → is_announced sent n ≡ true
    → is_announced (mark_one sent number) n ≡ true
still_announced sent number n within h =
    is_same n number (is_announced (mark_one sent number) n ≡ true)
    (λ e. subst (λ k. is_announced (mark_one sent number) k ≡ true) (sym e) (announced_itself sent number within))
    (λ differs. get_or-set_other sent number n true false differs ∙ h)

announced_before : (sent : List Bool) (number n : ℕ) → n ≢ number → is_announced (mark_one sent number) n ≡ true
    → is_announced sent n ≡ true
announced_before sent number n differs h = sym (get_or-set_other sent number n true false differs) ∙ h

-- the Relation of a table that exists and was not announced
new_relation : (sent : List Bool) (number : ℕ) (table : Table) → number < length sent → is_announced sent number ≡ false
    → Introduces sent (mark_one sent number) (m.Relation (relation_of number table) ∷ [])
new_relation sent number table within is_new = record {
  introduced = λ known is. (λ found. absurd (let known_too = is.only number found in cc), tt);
  known = λ known is. record {
    each = λ n h. is_same n number (Contains (oid_of number ∷ known) (oid_of n))
        (λ e. subst (λ k. Contains (oid_of number ∷ known) (oid_of k)) (sym e) (first_known (oid_of number) known))
        (λ differs. still_known (oid_of number) (oid_of n) known
        (is.each n (announced_before sent number n differs h)));
    only = λ n. first_or_later (oid_of number) (oid_of n) known (is_announced (mark_one sent number) n ≡ true)
        (λ e. let same : number ≡ n = omega (arith, e) in
        subst (λ k. is_announced (mark_one sent number) k ≡ true) same (announced_itself sent number within))
        (λ found. still_announced sent number n within (is.only n found));
  };
}

one_by : (tables : List Table) (sent : List Bool) (number : ℕ) (found : Option Table)
    → slice_get tables number ≡ found → number < length tables → number < length sent → is_announced sent number ≡ false
    → Introduces sent (mark_one sent number) (a_relation number found)
one_by tables sent number None e there within is_new = absurd (missing tables number there e)
  where
    missing : (xs : List Table) (i : ℕ) → i < length xs → slice_get xs i ≡ None → ⊥
    missing [] i low none = omega (arith, low)
    missing (x ∷ xs) zero low none = cc
    missing (x ∷ xs) (suc i) low none = missing xs i (omega (arith, low)) none
one_by tables sent number (Some table) e there within is_new = new_relation sent number table within is_new

once_by : (tables : List Table) (sent : List Bool) (number : ℕ) (b : Bool) → is_announced sent number ≡ b
    → number < length tables → number < length sent
    → Introduces sent (mark_one sent number) (introduced tables b number)
once_by tables sent number true e there within =
    let same : mark_one sent number ≡ sent = ap (set sent number) (sym e) ∙ set-get_or sent number false in
    subst (λ after. Introduces sent after []) (sym same) (nothing sent)
once_by tables sent number false e there within =
    one_by tables sent number (slice_get tables number) refl there within e

abbrev AreOf : List Table → List ℕ → Type 0
AreOf tables numbers = All (λ table. table < length tables) numbers

all_relations : (tables : List Table) (sent : List Bool) (numbers : List ℕ) → length tables ≤ length sent
    → AreOf tables numbers
    → Introduces sent (mark_all sent numbers) (relations_of tables sent numbers)
unfolding relations_of mark_all relation_once
all_relations tables sent [] long of = nothing sent
all_relations tables sent (number ∷ numbers) long of =
    let there = All-head (λ table. table < length tables) number numbers of in
    let longer : length tables ≤ length (mark_one sent number) = omega (arith, long, length-set sent number true) in
    both sent (mark_one sent number) (mark_all (mark_one sent number) numbers) (relation_once tables sent number)
    (relations_of tables (mark_one sent number) numbers)
    (once_by tables sent number (is_announced sent number) refl there (omega (arith, there, long)))
    (all_relations tables (mark_one sent number) numbers longer
    (All-tail (λ table. table < length tables) number numbers of))

length-mark_all : (sent : List Bool) (numbers : List ℕ) → length (mark_all sent numbers) ≡ length sent
unfolding mark_all
length-mark_all sent [] = refl
length-mark_all sent (number ∷ numbers) = length-mark_all (mark_one sent number) numbers ∙ length-set sent number true

-- ---- changes

stays_announced : (sent : List Bool) (numbers : List ℕ) (most : ℕ) → most ≤ length sent
    → All (λ table. table < most) numbers → (n : ℕ) → is_announced sent n ≡ true
    → is_announced (mark_all sent numbers) n ≡ true
unfolding mark_all
stays_announced sent [] most long of n h = h
stays_announced sent (number ∷ numbers) most long of n h =
    let there = All-head (λ table. table < most) number numbers of in
    stays_announced (mark_one sent number) numbers most (omega (arith, long, length-set sent number true))
    (All-tail (λ table. table < most) number numbers of) n
    (still_announced sent number n (omega (arith, there, long)) h)

each_announced : (sent : List Bool) (numbers : List ℕ) (most : ℕ) → most ≤ length sent
    → All (λ table. table < most) numbers → All (λ n. is_announced (mark_all sent numbers) n ≡ true) numbers
unfolding mark_all
each_announced sent [] most long of = All-nil (λ n. is_announced sent n ≡ true)
each_announced sent (number ∷ numbers) most long of =
    let there = All-head (λ table. table < most) number numbers of in
    let later = All-tail (λ table. table < most) number numbers of in
    let longer : most ≤ length (mark_one sent number) = omega (arith, long, length-set sent number true) in
    All-cons (λ n. is_announced (mark_all (mark_one sent number) numbers) n ≡ true) number numbers
    (stays_announced (mark_one sent number) numbers most longer later number
    (announced_itself sent number (omega (arith, there, long))))
    (each_announced (mark_one sent number) numbers most longer later)

all_known : (sent : List Bool) (known : List ℕ) → KnownAreAnnounced sent known → (numbers : List ℕ)
    → All (λ n. is_announced sent n ≡ true) numbers → All (Contains known) (map oid_of numbers)
all_known sent known is [] all = All-nil (Contains known)
all_known sent known is (number ∷ numbers) all =
    All-cons (Contains known) (oid_of number) (map oid_of numbers)
    (is.each number (All-head (λ n. is_announced sent n ≡ true) number numbers all))
    (all_known sent known is numbers (All-tail (λ n. is_announced sent n ≡ true) number numbers all))

one_message : (sent : List Bool) (message : Msg)
    → ((known : List ℕ) → KnownAreAnnounced sent known → IsIntroduced known message)
    → ((known : List ℕ) → known_after known message ≡ known)
    → Introduces sent sent (message ∷ [])
one_message sent message h same = record {
  introduced = λ known is. (h known is, tt);
  known = λ known is. subst (KnownAreAnnounced sent) (sym (same known)) is;
}

of_table : (sent : List Bool) (table : ℕ) → All (λ n. is_announced sent n ≡ true) (table ∷ []) → (known : List ℕ)
    → KnownAreAnnounced sent known → Contains known (oid_of table)
of_table sent table all known is = is.each table (All-head (λ n. is_announced sent n ≡ true) table [] all)

change_message : (sent : List Bool) (change : r.ChangeOf) → All (λ n. is_announced sent n ≡ true) (named_in change)
    → Introduces sent sent (message_of change)
change_message sent (r.Insert table new) all = one_message sent _ (of_table sent table all) (λ known. refl)
change_message sent (r.Update table part new) all = one_message sent _ (of_table sent table all) (λ known. refl)
change_message sent (r.Delete table None) all = nothing sent
change_message sent (r.Delete table (Some part)) all = one_message sent _ (of_table sent table all) (λ known. refl)
change_message sent (r.Truncate numbers) all =
    one_message sent _ (λ known is. all_known sent known is numbers all) (λ known. refl)

-- ---- what a subscriber gets of a change is of the tables of the change

unfoldable IfOf : List Table → Option r.ChangeOf → Type 0
IfOf tables change = IfSome change (λ one. AreOf tables (named_in one))

one_of : (tables : List Table) (table : ℕ) → AreOf tables (table ∷ [])
    → (passes : Bool) (carries : ℕ → Bool) (new : List Datum)
    → IfOf tables (option_map (o.stands_for table carries) (if passes then Some (o.Insert new) else None))
unfolding IfOf
one_of tables table h true carries new = h
one_of tables table h false carries new = tt

deleted_of : (tables : List Table) (table : ℕ) → AreOf tables (table ∷ []) → (part : Option r.PartOf)
    → AreOf tables (named_in (r.Delete table part))
deleted_of tables table h None = All-nil (λ n. n < length tables)
deleted_of tables table h (Some part) = h

updated_of : (tables : List Table) (table : ℕ) → AreOf tables (table ∷ [])
    → (old_passes new_passes : Bool) (carries : ℕ → Bool) (part : Option r.PartOf) (new : List Datum)
    → IfOf tables (option_map (o.stands_for table carries) (o.out_by old_passes new_passes part new))
unfolding IfOf
updated_of tables table h false false carries part new = tt
updated_of tables table h false true carries part new = h
updated_of tables table h true false carries part new = deleted_of tables table h part
updated_of tables table h true true carries part new = h

gone_if : (tables : List Table) (table : ℕ) → AreOf tables (table ∷ [])
    → (passes : Bool) (carries : ℕ → Bool) (part : Option r.PartOf)
    → IfOf tables (option_map (o.stands_for table carries) (if passes then Some (o.Delete part) else None))
unfolding IfOf
gone_if tables table h true carries part = deleted_of tables table h part
gone_if tables table h false carries part = tt

gone_of : (tables : List Table) (table : ℕ) → AreOf tables (table ∷ [])
    → (passes : List Datum → Bool) (carries : ℕ → Bool) (part : Option r.PartOf)
    → IfOf tables (option_map (o.stands_for table carries) (o.out_gone passes part))
unfolding IfOf
gone_of tables table h passes carries None = tt
gone_of tables table h passes carries (Some (r.Key row)) =
    gone_if tables table h (passes row) carries (Some (r.Key row))
gone_of tables table h passes carries (Some (r.Full row)) =
    gone_if tables table h (passes row) carries (Some (r.Full row))

emptied_of : (tables : List Table) (numbers : List ℕ) → AreOf tables numbers → (any : Bool) (carries : ℕ → Bool)
    → IfOf tables (option_map (o.stands_for 0 carries) (if any then Some (o.Truncate numbers) else None))
unfolding IfOf
emptied_of tables numbers h true carries = All-filter carries (λ n. n < length tables) numbers h
emptied_of tables numbers h false carries = tt

got_of : (checked : CheckedOf) (subscriber : ℕ) (change : r.ChangeOf) → IsChangeOf checked.catalog.tables change
    → IfOf checked.catalog.tables (got (setting_in checked) subscriber change)
got_of checked subscriber (r.Insert table new) h =
    let setting = setting_in checked in
    one_of checked.catalog.tables table h (setting.passes subscriber table new) (setting.carries subscriber) new
got_of checked subscriber (r.Update table part new) h =
    let setting = setting_in checked in
    updated_of checked.catalog.tables table h (setting.passes subscriber table (o.asked part new))
    (setting.passes subscriber table new) (setting.carries subscriber) part new
got_of checked subscriber (r.Delete table part) h =
    let setting = setting_in checked in
    gone_of checked.catalog.tables table h (setting.passes subscriber table) (setting.carries subscriber) part
got_of checked subscriber (r.Truncate numbers) h =
    let setting = setting_in checked in
    emptied_of checked.catalog.tables numbers h (list_any (setting.carries subscriber) numbers)
    (setting.carries subscriber)

-- ---- what is sent for changes

one_said : (tables : List Table) (sent : List Bool) (change : Option r.ChangeOf) → length tables ≤ length sent
    → IfOf tables change
    → Introduces sent (mark_by sent change) (said tables sent change)
unfolding said mark_by IfOf
one_said tables sent None long h = nothing sent
one_said tables sent (Some change) long h =
    both sent (mark_all sent (named_in change)) (mark_all sent (named_in change))
    (relations_of tables sent (named_in change)) (message_of change)
    (all_relations tables sent (named_in change) long h)
    (change_message (mark_all sent (named_in change)) change
    (each_announced sent (named_in change) (length tables) long h))

length-mark_by : (sent : List Bool) (change : Option r.ChangeOf) → length (mark_by sent change) ≡ length sent
unfolding mark_by
length-mark_by sent None = refl
length-mark_by sent (Some change) = length-mark_all sent (named_in change)

all_said : (checked : CheckedOf) (subscriber : ℕ) (sent : List Bool) (changes : List r.ChangeOf)
    → length checked.catalog.tables ≤ length sent
    → All (IsChangeOf checked.catalog.tables) changes
    → Introduces sent (mark_each checked subscriber sent changes) (said_each checked subscriber sent changes)
unfolding said_each mark_each
all_said checked subscriber sent [] long of = nothing sent
all_said checked subscriber sent (change ∷ changes) long of =
    let tables = checked.catalog.tables in
    let mine = got (setting_in checked) subscriber change in
    let longer : length tables ≤ length (mark_by sent mine) = omega (arith, long, length-mark_by sent mine) in
    both sent (mark_by sent mine) (mark_each checked subscriber (mark_by sent mine) changes) (said tables sent mine)
    (said_each checked subscriber (mark_by sent mine) changes)
    (one_said tables sent mine long (got_of checked subscriber change (All-head (IsChangeOf tables) change changes of)))
    (all_said checked subscriber (mark_by sent mine) changes longer (All-tail (IsChangeOf tables) change changes of))

length-mark_each : (checked : CheckedOf) (subscriber : ℕ) (sent : List Bool) (changes : List r.ChangeOf)
    → length (mark_each checked subscriber sent changes) ≡ length sent
unfolding mark_each
length-mark_each checked subscriber sent [] = refl
length-mark_each checked subscriber sent (change ∷ changes) =
    let mine = got (setting_in checked) subscriber change in
    length-mark_each checked subscriber (mark_by sent mine) changes ∙ length-mark_by sent mine

-- ---- commits

between : (sent after : List Bool) (commit : CommitOf) (messages : List Msg) → Introduces sent after messages
    → Introduces sent after (enclosed commit messages)
between sent after commit [] h = h
between sent after commit (first ∷ others) h =
    both sent sent after (begin_msg commit ∷ []) ((first ∷ others) ++ commit_msg commit ∷ [])
    (one_message sent (begin_msg commit) (λ known is. tt) (λ known. refl))
    (both sent after after (first ∷ others) (commit_msg commit ∷ []) h
    (one_message after (commit_msg commit) (λ known is. tt) (λ known. refl)))

pub commits_introduce : CommitsIntroduce
commits_introduce checked subscriber sent commit long of =
    between sent (mark_each checked subscriber sent commit.changes) commit
    (said_each checked subscriber sent commit.changes)
    (all_said checked subscriber sent commit.changes long of)

pub in_turn_introduce : CommitsInTurnIntroduce
in_turn_introduce checked subscriber sent [] long of = nothing sent
in_turn_introduce checked subscriber sent (commit ∷ commits) long of =
    let tables = checked.catalog.tables in
    let after = relation_sent_after checked subscriber sent commit in
    let longer : length tables ≤ length after =
    omega (arith, long, length-mark_each checked subscriber sent commit.changes) in
    both sent after (relation_sent_in_turn checked subscriber after commits) (messages_for checked subscriber sent commit)
    (messages_in_turn checked subscriber after commits)
    (commits_introduce checked subscriber sent commit long (All-head (IsOf tables) commit commits of))
    (in_turn_introduce checked subscriber after commits longer (All-tail (IsOf tables) commit commits of))
