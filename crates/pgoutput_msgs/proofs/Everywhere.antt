-- What holds of the Relation of each table, and of the messages of each change that can be sent, holds of all messages
-- that report a commit.
use Rattle.std.proofs.Common.{◌≡◌, ℕ, zero, suc, ◌≤◌, Bool, true, false, Option, Some, None, List, [], ◌∷◌, ◌++◌, length, subst, arith}
use Rattle.std.specs.Prelude.{All, IfSome, filter, option_map, if◌then◌else◌, slice_get, slice_index_or}
use Rattle.std.specs.List.{list_any}
use Rattle.std.proofs.lemmas.List.Elements.{All-nil, All-append, All-filter}
use Rattle.filter_tree.specs.Datum.{Datum}
use Rattle.filter_tree.specs.declared.table.Table.{Table}
use Rattle.replica_identity.specs.Transforms.{takes_row, takes_any}
use Rattle.shard_checker.specs.CheckedView.{CheckedOf, setting_in}
use Rattle.table_changes.specs.Outs as o
use Rattle.table_changes.specs.Outs.{got}
use Rattle.table_changes.specs.Records as r
use Rattle.tables_log.specs.Commits.{CommitOf}
use Rattle.tables_log.specs.Sendable.{IsSendableRow, IsSendablePart, IsTableNumber, IsSendableChange, IsSendable}
use Rattle.pgoutput_msgs.specs.Telling.{relation_of, a_relation, introduced, relation_once, relations_of, mark_one, message_of, named_in, said, mark_by, said_each, enclosed, begin_msg, commit_msg, messages_for}
use Rattle.pgoutput_msgs.specs.declared.message.Msg.{Msg}
use Rattle.pgoutput_msgs.specs.declared.message.Msg.TheVariants as m

pub all_one : {A : Type 0} (P : A → Type 0) (a : A) → P a → All P (a ∷ [])
all_one P a h zero d within = h
all_one P a h (suc k) d within = absurd (omega (arith, within))

-- ---- what the subscriber gets

IfSendable : Option r.ChangeOf → Type 0
IfSendable None = Unit {0}
IfSendable (Some change) = IsSendableChange change

insert_got : (test : Bool) (table : ℕ) (carries : ℕ → Bool) (new : List Datum) → IsTableNumber table → IsSendableRow new
    → IfSendable (option_map (o.stands_for table carries) (if test then Some (o.Insert new) else None))
unfolding IfSendable
insert_got true table carries new number row = (number, row)
insert_got false table carries new number row = tt

update_got : (one two : Bool) (table : ℕ) (carries : ℕ → Bool) (part : Option r.PartOf) (new : List Datum)
    → IsTableNumber table → IsSendablePart part → IsSendableRow new
    → IfSendable (option_map (o.stands_for table carries) (o.out_by one two part new))
unfolding IfSendable
update_got false false table carries part new number old row = tt
update_got false true table carries part new number old row = (number, row)
update_got true false table carries part new number old row = (number, old)
update_got true true table carries part new number old row = (number, old, row)

delete_got : (test : Bool) (table : ℕ) (carries : ℕ → Bool) (part : Option r.PartOf) → IsTableNumber table
    → IsSendablePart part
    → IfSendable (option_map (o.stands_for table carries) (if test then Some (o.Delete part) else None))
unfolding IfSendable
delete_got true table carries part number old = (number, old)
delete_got false table carries part number old = tt

gone_got : (passes : List Datum → Bool) (table : ℕ) (carries : ℕ → Bool) (part : Option r.PartOf)
    → IsTableNumber table → IsSendablePart part
    → IfSendable (option_map (o.stands_for table carries) (o.out_gone passes part))
unfolding IfSendable
gone_got passes table carries None number old = tt
gone_got passes table carries (Some (r.Key row)) number old =
    delete_got (passes row) table carries (Some (r.Key row)) number old
gone_got passes table carries (Some (r.Full row)) number old =
    delete_got (passes row) table carries (Some (r.Full row)) number old

by_first : (test : Bool) (n : ℕ) (rest : List ℕ) (most : ℕ) → length rest ≤ most
    → length (if test then n ∷ rest else rest) ≤ suc most
by_first true n rest most h = omega (arith, h)
by_first false n rest most h = omega (arith, h)

shorter : (test : ℕ → Bool) (numbers : List ℕ) → length (filter test numbers) ≤ length numbers
shorter test [] = omega arith
shorter test (n ∷ numbers) = by_first (test n) n (filter test numbers) (length numbers) (shorter test numbers)

truncate_got : (any : Bool) (table : ℕ) (carries : ℕ → Bool) (numbers : List ℕ) → length numbers ≤ 64
    → All IsTableNumber numbers
    → IfSendable (option_map (o.stands_for table carries) (if any then Some (o.Truncate numbers) else None))
unfolding IfSendable
truncate_got true table carries numbers few all =
    (omega (arith, few, shorter carries numbers), All-filter carries IsTableNumber numbers all)
truncate_got false table carries numbers few all = tt

got_sendable : (checked : CheckedOf) (subscriber : ℕ) (change : r.ChangeOf) → IsSendableChange change
    → IfSendable (got (setting_in checked) subscriber change)
got_sendable checked subscriber (r.Insert table new) h =
    insert_got (takes_row checked.plan subscriber table new) table (takes_any checked.plan subscriber) new h.0 h.1
got_sendable checked subscriber (r.Update table part new) h =
    update_got (takes_row checked.plan subscriber table (o.asked part new))
    (takes_row checked.plan subscriber table new) table (takes_any checked.plan subscriber) part new h.0 h.1 h.2
got_sendable checked subscriber (r.Delete table part) h =
    gone_got (takes_row checked.plan subscriber table) table (takes_any checked.plan subscriber) part h.0 h.1
got_sendable checked subscriber (r.Truncate numbers) h =
    truncate_got (list_any (takes_any checked.plan subscriber) numbers) 0 (takes_any checked.plan subscriber) numbers
    h.0 h.1

-- what the subscriber gets can be sent
pub is_sendable : (checked : CheckedOf) (subscriber : ℕ) (change out : r.ChangeOf) → IsSendableChange change
    → got (setting_in checked) subscriber change ≡ Some out → IsSendableChange out
unfolding IfSendable
is_sendable checked subscriber change out sendable is =
    subst IfSendable is (got_sendable checked subscriber change sendable)

-- ---- what is sent

-- it holds of what is sent for the tables, and of each change that can be sent
pub record Everywhere (P : Msg → Type 0) (tables : List Table) : Type 0 where
  pub relations : (number : ℕ) → IfSome (slice_get tables number) (λ table. P (m.Relation (relation_of number table)))
  pub changes : (change : r.ChangeOf) → IsSendableChange change → All P (message_of change)

module _ (P : Msg → Type 0) where
  one_relation : (number : ℕ) (found : Option Table)
      → IfSome found (λ table. P (m.Relation (relation_of number table))) → All P (a_relation number found)
  one_relation number None h = All-nil P
  one_relation number (Some table) h = all_one P (m.Relation (relation_of number table)) h

  once : (tables : List Table) → Everywhere P tables → (is_announced : Bool) (number : ℕ)
      → All P (introduced tables is_announced number)
  once tables holds true number = All-nil P
  once tables holds false number = one_relation number (slice_get tables number) (holds.relations number)

  all_relations : (tables : List Table) → Everywhere P tables → (sent : List Bool) (numbers : List ℕ)
      → All P (relations_of tables sent numbers)
  unfolding relations_of relation_once
  all_relations tables holds sent [] = All-nil P
  all_relations tables holds sent (number ∷ numbers) =
      All-append P (introduced tables (slice_index_or sent number false) number)
      (relations_of tables (mark_one sent number) numbers)
      (once tables holds (slice_index_or sent number false) number)
      (all_relations tables holds (mark_one sent number) numbers)

  one_said : (tables : List Table) → Everywhere P tables → (sent : List Bool) (change : Option r.ChangeOf)
      → IfSendable change → All P (said tables sent change)
  unfolding said IfSendable
  one_said tables holds sent None h = All-nil P
  one_said tables holds sent (Some change) h =
      All-append P (relations_of tables sent (named_in change)) (message_of change)
      (all_relations tables holds sent (named_in change)) (holds.changes change h)

  all_said : (checked : CheckedOf) (subscriber : ℕ) → Everywhere P checked.catalog.tables
      → (sent : List Bool) (changes : List r.ChangeOf) → All IsSendableChange changes
      → All P (said_each checked subscriber sent changes)
  unfolding said_each
  all_said checked subscriber holds sent [] all = All-nil P
  all_said checked subscriber holds sent (change ∷ changes) all =
      let mine = got (setting_in checked) subscriber change in
      All-append P (said checked.catalog.tables sent mine) (said_each checked subscriber (mark_by sent mine) changes)
      (one_said checked.catalog.tables holds sent mine
      (got_sendable checked subscriber change (all 0 change (omega arith))))
      (all_said checked subscriber holds (mark_by sent mine) changes (λ k d h. all (suc k) d (omega (arith, h))))

  all_enclosed : (commit : CommitOf) (messages : List Msg) → P (begin_msg commit) → P (commit_msg commit)
      → All P messages → All P (enclosed commit messages)
  all_enclosed commit [] begins ends all = All-nil P
  all_enclosed commit (first ∷ others) begins ends all =
      All-append P (begin_msg commit ∷ []) ((first ∷ others) ++ commit_msg commit ∷ [])
      (all_one P (begin_msg commit) begins)
      (All-append P (first ∷ others) (commit_msg commit ∷ []) all (all_one P (commit_msg commit) ends))

  pub all_messages : (checked : CheckedOf) (subscriber : ℕ) (sent : List Bool) (commit : CommitOf) → IsSendable commit
      → Everywhere P checked.catalog.tables
      → P (begin_msg commit) → P (commit_msg commit) → All P (messages_for checked subscriber sent commit)
  all_messages checked subscriber sent commit h holds begins ends =
      all_enclosed commit (said_each checked subscriber sent commit.changes) begins ends
      (all_said checked subscriber holds sent commit.changes h.changed)
