-- What is sent for tables and for changes, one after the other, as loops send it.
use Rattle.std.proofs.Common.{◌≡◌, ℕ, zero, suc, ◌+◌, ◌<◌, ◌≤◌, Bool, true, false, Option, Some, None, List, [], ◌∷◌, ◌++◌, length, get_or, drop, map, refl, sym, ap, subst, ◌∙◌, append_assoc, append-nil, arith}
use Rattle.std.proofs.lemmas.List.{at_drop_more, at_drop_all, get_or-map, length-map}
use Rattle.std.proofs.lemmas.List.Elements.{All-append}
use Rattle.filter_tree.specs.declared.table.Table.{Table}
use Rattle.replica_identity.specs.ChangeView.{change_view}
use Rattle.replica_identity.specs.declared.change.Change.{Change}
use Rattle.shard_checker.specs.CheckedView.{CheckedOf, setting_in}
use Rattle.table_changes.specs.Outs as o
use Rattle.table_changes.specs.Outs.{got}
use Rattle.table_changes.specs.Records as r
use Rattle.table_changes.specs.Records.{ChangeOf}
use Rattle.tables_log.specs.Commits.{CommitOf}
use Rattle.tables_log.specs.Sendable.{IsTableNumber, IsSendableChange}
use Rattle.filter_tree.specs.Datum.{Datum}
use Rattle.replica_identity.specs.Plans.{PlanOf}
use Rattle.replica_identity.specs.Transforms.{takes_row, takes_any, out_for}
use Rattle.std.specs.Prelude.{All, filter, option_map, if◌then◌else◌}
use Rattle.std.specs.List.{list_any}
use Rattle.pgoutput_msgs.specs.Telling.{relation_once, relations_of, mark_one, mark_all, said, mark_by, said_each, mark_each, begin_msg, commit_msg, enclosed}
use Rattle.pgoutput_msgs.specs.declared.message.Msg.{Msg}

-- the Relations so far and those of the remaining tables are those of all
pub record Introduces (tables : List Table) (sent sent_now : List Bool) (before now : List Msg) (all left : List ℕ) :
    Type 0 where
  pub text : now ++ relations_of tables sent_now left ≡ before ++ relations_of tables sent all
  pub flags : mark_all sent_now left ≡ mark_all sent all

relations_of-cons : (tables : List Table) (sent : List Bool) (n : ℕ) (numbers : List ℕ)
    → relations_of tables sent (n ∷ numbers) ≡ relation_once tables sent n
    ++ relations_of tables (mark_one sent n) numbers
unfolding relations_of
relations_of-cons tables sent n numbers = refl

mark_all-cons : (sent : List Bool) (n : ℕ) (numbers : List ℕ)
    → mark_all sent (n ∷ numbers) ≡ mark_all (mark_one sent n) numbers
unfolding mark_all
mark_all-cons sent n numbers = refl

next_left : (all : List ℕ) (i n : ℕ) → n ≡ get_or all i n → i < length all → drop i all ≡ n ∷ drop (i + 1) all
next_left all i n is within = at_drop_more (λ (x : List ℕ). x) all i n within
    ∙ ap (λ (x : ℕ). x ∷ drop (i + 1) all) (sym is)

pub introduces_on : (tables : List Table) (sent sent_now later : List Bool) (before now after : List Msg)
    (all : List ℕ) (i n : ℕ) → n ≡ get_or all i 0 → i < length all
    → after ≡ now ++ relation_once tables sent_now n → later ≡ mark_one sent_now n
    → Introduces tables sent sent_now before now all (drop i all)
    → Introduces tables sent later before after all (drop (i + 1) all)
introduces_on tables sent sent_now later before now after all i n is within wrote marked so_far =
    let left = at_drop_more (λ (x : List ℕ). x) all i 0 within ∙ ap (λ (x : ℕ). x ∷ drop (i + 1) all) (sym is) in
    record {
      text = ap (λ (x : List Msg). x ++ relations_of tables later (drop (i + 1) all)) wrote
          ∙ ap (λ (x : List Bool). (now ++ relation_once tables sent_now n)
          ++ relations_of tables x (drop (i + 1) all)) marked
          ∙ append_assoc now (relation_once tables sent_now n)
          (relations_of tables (mark_one sent_now n) (drop (i + 1) all))
          ∙ ap (λ (x : List Msg). now ++ x) (sym (relations_of-cons tables sent_now n (drop (i + 1) all)))
          ∙ ap (λ (x : List ℕ). now ++ relations_of tables sent_now x) (sym left) ∙ so_far.text;
      flags = ap (λ (x : List Bool). mark_all x (drop (i + 1) all)) marked
          ∙ sym (mark_all-cons sent_now n (drop (i + 1) all))
          ∙ ap (mark_all sent_now) (sym left) ∙ so_far.flags;
    }

pub all_introduced : (tables : List Table) (sent sent_now : List Bool) (before now : List Msg) (all : List ℕ) (i : ℕ)
    → length all ≤ i → Introduces tables sent sent_now before now all (drop i all)
    → now ≡ before ++ relations_of tables sent all
unfolding relations_of
all_introduced tables sent sent_now before now all i over so_far =
    sym (append-nil now) ∙ ap (λ (x : List Msg). now ++ x)
    (sym (at_drop_all (relations_of tables sent_now) all i over)) ∙ so_far.text

pub all_marked : (tables : List Table) (sent sent_now : List Bool) (before now : List Msg) (all : List ℕ) (i : ℕ)
    → length all ≤ i → Introduces tables sent sent_now before now all (drop i all)
    → sent_now ≡ mark_all sent all
unfolding mark_all
all_marked tables sent sent_now before now all i over so_far = sym (at_drop_all (mark_all sent_now) all i over)
    ∙ so_far.flags

-- ---- changes

-- what was sent so far and what is sent for the remaining changes is what is sent for all
pub record Says (checked : CheckedOf) (subscriber : ℕ) (sent sent_now : List Bool) (before now : List Msg)
    (all left : List Change) : Type 0 where
  pub text : now ++ said_each checked subscriber sent_now (map change_view left) ≡ before
      ++ said_each checked subscriber sent (map change_view all)
  pub flags : mark_each checked subscriber sent_now (map change_view left)
      ≡ mark_each checked subscriber sent (map change_view all)

said_each-cons : (checked : CheckedOf) (subscriber : ℕ) (sent : List Bool) (c : ChangeOf) (changes : List ChangeOf)
    → said_each checked subscriber sent (c ∷ changes)
    ≡ said checked.catalog.tables sent (got (setting_in checked) subscriber c)
    ++ said_each checked subscriber (mark_by sent (got (setting_in checked) subscriber c)) changes
unfolding said_each
said_each-cons checked subscriber sent c changes = refl

mark_each-cons : (checked : CheckedOf) (subscriber : ℕ) (sent : List Bool) (c : ChangeOf) (changes : List ChangeOf)
    → mark_each checked subscriber sent (c ∷ changes)
    ≡ mark_each checked subscriber (mark_by sent (got (setting_in checked) subscriber c)) changes
unfolding mark_each
mark_each-cons checked subscriber sent c changes = refl

next_change : (all : List Change) (i : ℕ) (c : Change) → c ≡ get_or all i c → i < length all
    → map change_view (drop i all) ≡ change_view c ∷ map change_view (drop (i + 1) all)
next_change all i c is within = at_drop_more (map change_view) all i c within
    ∙ ap (λ (x : Change). change_view x ∷ map change_view (drop (i + 1) all)) (sym is)

pub says_on : (checked : CheckedOf) (subscriber : ℕ) (sent sent_now later : List Bool) (before now after : List Msg)
    (all : List Change) (i : ℕ) (c : Change) → c ≡ get_or all i c → i < length all
    → after ≡ now ++ said checked.catalog.tables sent_now (got (setting_in checked) subscriber (change_view c))
    → later ≡ mark_by sent_now (got (setting_in checked) subscriber (change_view c))
    → Says checked subscriber sent sent_now before now all (drop i all)
    → Says checked subscriber sent later before after all (drop (i + 1) all)
says_on checked subscriber sent sent_now later before now after all i c is within wrote marked so_far =
    let left = next_change all i c is within in
    let one = said checked.catalog.tables sent_now (got (setting_in checked) subscriber (change_view c)) in
    let next = mark_by sent_now (got (setting_in checked) subscriber (change_view c)) in
    let rest = map change_view (drop (i + 1) all) in
    record {
      text = ap (λ (x : List Msg). x ++ said_each checked subscriber later rest) wrote
          ∙ ap (λ (x : List Bool). (now ++ one) ++ said_each checked subscriber x rest) marked
          ∙ append_assoc now one (said_each checked subscriber next rest)
          ∙ ap (λ (x : List Msg). now ++ x) (sym (said_each-cons checked subscriber sent_now (change_view c) rest))
          ∙ ap (λ (x : List ChangeOf). now ++ said_each checked subscriber sent_now x) (sym left) ∙ so_far.text;
      flags = ap (λ (x : List Bool). mark_each checked subscriber x rest) marked
          ∙ sym (mark_each-cons checked subscriber sent_now (change_view c) rest)
          ∙ ap (mark_each checked subscriber sent_now) (sym left) ∙ so_far.flags;
    }

pub all_said : (checked : CheckedOf) (subscriber : ℕ) (sent sent_now : List Bool) (before now : List Msg)
    (all : List Change) (i : ℕ) → length all ≤ i → Says checked subscriber sent sent_now before now all (drop i all)
    → now ≡ before ++ said_each checked subscriber sent (map change_view all)
unfolding said_each
all_said checked subscriber sent sent_now before now all i over so_far =
    sym (append-nil now) ∙ ap (λ (x : List Msg). now ++ x)
    (sym (at_drop_all (λ (left : List Change). said_each checked subscriber sent_now (map change_view left)) all i
    over)) ∙ so_far.text

pub each_marked : (checked : CheckedOf) (subscriber : ℕ) (sent sent_now : List Bool) (before now : List Msg)
    (all : List Change) (i : ℕ) → length all ≤ i → Says checked subscriber sent sent_now before now all (drop i all)
    → sent_now ≡ mark_each checked subscriber sent (map change_view all)
unfolding mark_each
each_marked checked subscriber sent sent_now before now all i over so_far =
    sym (at_drop_all (λ (left : List Change). mark_each checked subscriber sent_now (map change_view left)) all i
    over) ∙ so_far.flags

-- a change among those that can be sent can be sent
pub sendable_change : (changes : List Change) (i : ℕ) (c : Change) → All IsSendableChange (map change_view changes)
    → c ≡ get_or changes i c → i < length changes → IsSendableChange (change_view c)
sendable_change changes i c all is within =
    let long : i < length (map change_view changes) = omega (arith, length-map changes change_view, within) in
    let there = all i (change_view c) long in
    subst IsSendableChange (get_or-map change_view changes i c (change_view c) within ∙ ap change_view (sym is)) there

-- ---- what the subscriber gets of a change

got_by : (checked : CheckedOf) (subscriber : ℕ) (change : r.ChangeOf) (plan : PlanOf) (out : Option o.OutOf)
    → plan ≡ checked.plan → out ≡ out_for plan subscriber change
    → got (setting_in checked) subscriber change
    ≡ option_map (o.stands_for (o.changed_table change) (takes_any plan subscriber)) out
got_by checked subscriber change plan out own is =
    sym (ap (λ (p : PlanOf). option_map (o.stands_for (o.changed_table change) (takes_any p subscriber))
    (out_for p subscriber change)) own)
    ∙ ap (option_map (o.stands_for (o.changed_table change) (takes_any plan subscriber))) (sym is)

pub got_none : (checked : CheckedOf) (subscriber : ℕ) (change : r.ChangeOf) (plan : PlanOf) → plan ≡ checked.plan
    → None ≡ out_for plan subscriber change → got (setting_in checked) subscriber change ≡ None
got_none checked subscriber change plan own out =
    got_by checked subscriber change plan None own out

pub got_insert : (checked : CheckedOf) (subscriber : ℕ) (change : r.ChangeOf) (plan : PlanOf) (table : ℕ)
    (new : List Datum) → plan ≡ checked.plan → table ≡ o.changed_table change
    → Some (o.Insert new) ≡ out_for plan subscriber change
    → got (setting_in checked) subscriber change ≡ Some (r.Insert table new)
got_insert checked subscriber change plan table new own at out =
    got_by checked subscriber change plan (Some (o.Insert new)) own out ∙ ap (λ (n : ℕ). Some (r.Insert n new)) (sym at)

pub got_update : (checked : CheckedOf) (subscriber : ℕ) (change : r.ChangeOf) (plan : PlanOf) (table : ℕ)
    (part : Option r.PartOf) (new : List Datum) → plan ≡ checked.plan → table ≡ o.changed_table change
    → Some (o.Update part new) ≡ out_for plan subscriber change
    → got (setting_in checked) subscriber change ≡ Some (r.Update table part new)
got_update checked subscriber change plan table part new own at out =
    got_by checked subscriber change plan (Some (o.Update part new)) own out
    ∙ ap (λ (n : ℕ). Some (r.Update n part new)) (sym at)

pub got_delete : (checked : CheckedOf) (subscriber : ℕ) (change : r.ChangeOf) (plan : PlanOf) (table : ℕ)
    (part : Option r.PartOf) → plan ≡ checked.plan → table ≡ o.changed_table change
    → Some (o.Delete part) ≡ out_for plan subscriber change
    → got (setting_in checked) subscriber change ≡ Some (r.Delete table part)
got_delete checked subscriber change plan table part own at out =
    got_by checked subscriber change plan (Some (o.Delete part)) own out
    ∙ ap (λ (n : ℕ). Some (r.Delete n part)) (sym at)

pub got_truncate : (checked : CheckedOf) (subscriber : ℕ) (change : r.ChangeOf) (plan : PlanOf)
    (numbers carried : List ℕ) → plan ≡ checked.plan → carried ≡ filter (takes_any plan subscriber) numbers
    → Some (o.Truncate numbers) ≡ out_for plan subscriber change
    → got (setting_in checked) subscriber change ≡ Some (r.Truncate carried)
got_truncate checked subscriber change plan numbers carried own at out =
    got_by checked subscriber change plan (Some (o.Truncate numbers)) own out
    ∙ ap (λ (ns : List ℕ). Some (r.Truncate ns)) (sym at)

abbrev some_truncate : List ℕ → Option o.OutOf
some_truncate numbers = Some (o.Truncate numbers)

no_insert : (test : Bool) (new : List Datum) (numbers : List ℕ)
    → some_truncate numbers ≡ (if test then Some (o.Insert new) else None) → ⊥
no_insert true new numbers e = absurd cc
no_insert false new numbers e = absurd cc

no_update : (one two : Bool) (part : Option r.PartOf) (new : List Datum) (numbers : List ℕ)
    → some_truncate numbers ≡ o.out_by one two part new → ⊥
no_update false false part new numbers e = absurd cc
no_update false true part new numbers e = absurd cc
no_update true false part new numbers e = absurd cc
no_update true true part new numbers e = absurd cc

no_delete : (test : Bool) (part : Option r.PartOf) (numbers : List ℕ)
    → some_truncate numbers ≡ (if test then Some (o.Delete part) else None) → ⊥
no_delete true part numbers e = absurd cc
no_delete false part numbers e = absurd cc

no_gone : (passes : List Datum → Bool) (part : Option r.PartOf) (numbers : List ℕ)
    → some_truncate numbers ≡ o.out_gone passes part → ⊥
no_gone passes None numbers e = absurd cc
no_gone passes (Some (r.Key row)) numbers e = no_delete (passes row) (Some (r.Key row)) numbers e
no_gone passes (Some (r.Full row)) numbers e = no_delete (passes row) (Some (r.Full row)) numbers e

same_numbers : (test : Bool) (all numbers : List ℕ)
    → some_truncate numbers ≡ (if test then some_truncate all else None) → numbers ≡ all
same_numbers true all numbers e = cc
same_numbers false all numbers e = absurd cc

-- the tables of a TRUNCATE that can be sent have numbers of tables
pub truncated_numbers : (plan : PlanOf) (subscriber : ℕ) (change : r.ChangeOf) (numbers : List ℕ)
    → IsSendableChange change → Some (o.Truncate numbers) ≡ out_for plan subscriber change → All IsTableNumber numbers
truncated_numbers plan subscriber (r.Insert table new) numbers fits e =
    absurd (no_insert (takes_row plan subscriber table new) new numbers e)
truncated_numbers plan subscriber (r.Update table part new) numbers fits e =
    absurd (no_update (takes_row plan subscriber table (o.asked part new)) (takes_row plan subscriber table new) part
    new numbers e)
truncated_numbers plan subscriber (r.Delete table part) numbers fits e =
    absurd (no_gone (takes_row plan subscriber table) part numbers e)
truncated_numbers plan subscriber (r.Truncate all) numbers fits e =
    subst (All IsTableNumber) (sym (same_numbers (list_any (takes_any plan subscriber) all) all numbers e)) fits.1

-- ---- the tables that a subscriber gets anything of

-- those so far and those of the rest are those of all
pub record Keeps (test : ℕ → Bool) (all kept left : List ℕ) : Type 0 where
  pub list : kept ++ filter test left ≡ filter test all
  pub numbers : All IsTableNumber kept

filter_first : (test : ℕ → Bool) (n : ℕ) (rest : List ℕ) (b : Bool) → test n ≡ b
    → filter test (n ∷ rest) ≡ (if b then n ∷ filter test rest else filter test rest)
filter_first test n rest b e = ap (λ (x : Bool). if x then n ∷ filter test rest else filter test rest) e

one_number : (n : ℕ) → IsTableNumber n → All IsTableNumber (n ∷ [])
one_number n number zero d h = number
one_number n number (suc k) d h = absurd (omega (arith, h))

pub keeps_on : (test : ℕ → Bool) (all kept : List ℕ) (i n : ℕ) → n ≡ get_or all i n → i < length all → test n ≡ true
    → IsTableNumber n → Keeps test all kept (drop i all) → Keeps test all (kept ++ n ∷ []) (drop (i + 1) all)
keeps_on test all kept i n is within passes number so_far =
    let left = next_left all i n is within in
    record {
      list = append_assoc kept (n ∷ []) (filter test (drop (i + 1) all))
          ∙ ap (λ (x : List ℕ). kept ++ x) (sym (filter_first test n (drop (i + 1) all) true passes))
          ∙ ap (λ (x : List ℕ). kept ++ filter test x) (sym left) ∙ so_far.list;
      numbers = All-append IsTableNumber kept (n ∷ []) so_far.numbers (one_number n number);
    }

pub keeps_past : (test : ℕ → Bool) (all kept : List ℕ) (i n : ℕ) → n ≡ get_or all i n → i < length all
    → test n ≡ false → Keeps test all kept (drop i all) → Keeps test all kept (drop (i + 1) all)
keeps_past test all kept i n is within fails so_far =
    let left = next_left all i n is within in
    record {
      list = ap (λ (x : List ℕ). kept ++ x) (sym (filter_first test n (drop (i + 1) all) false fails))
          ∙ ap (λ (x : List ℕ). kept ++ filter test x) (sym left) ∙ so_far.list;
      numbers = so_far.numbers;
    }

pub all_kept : (test : ℕ → Bool) (all kept : List ℕ) (i : ℕ) → length all ≤ i → Keeps test all kept (drop i all)
    → kept ≡ filter test all
all_kept test all kept i over so_far =
    sym (append-nil kept) ∙ ap (λ (x : List ℕ). kept ++ x) (sym (at_drop_all (filter test) all i over)) ∙ so_far.list

-- ---- if nothing is sent

pub nothing_marked : (sent : List Bool) → sent ≡ mark_by sent None
unfolding mark_by
nothing_marked sent = refl

pub enclosed_some : (commit : CommitOf) (messages : List Msg) → (length messages ≡ 0 → ⊥)
    → (begin_msg commit ∷ messages) ++ commit_msg commit ∷ [] ≡ enclosed commit messages
enclosed_some commit [] some = absurd (some refl)
enclosed_some commit (first ∷ others) some = refl

pub enclosed_none : (commit : CommitOf) (messages : List Msg) → length messages ≡ 0
    → messages ≡ enclosed commit messages
enclosed_none commit [] none = refl
enclosed_none commit (first ∷ others) none = absurd (omega (arith, none))

pub ruleset got_changes = (got_none, got_insert, got_update, got_delete, got_truncate, truncated_numbers)

pub ruleset kept_numbers = (keeps_on, keeps_past, all_kept)
