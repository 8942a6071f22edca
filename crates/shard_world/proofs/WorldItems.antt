-- Which items are whole when bytes come and streams grow, and the position that they report.
use Rattle.std.proofs.Common.{◌≡◌, ℕ, suc, ◌+◌, ◌-◌, ◌≤◌, List, [], ◌∷◌, ◌++◌, length, refl, sym, ◌∙◌, ap, subst, arith, length-append, add-zero}
use Rattle.std.specs.Prelude.{fold, nat_le, slice_get}
use Rattle.std.specs.List.{flat_map}
use Rattle.std.proofs.lemmas.Bool.{leb-true, leb-false}
use Rattle.std.proofs.lemmas.Option.{slice_get_within}
use Rattle.table_changes.specs.Tables.{Tables, no_rows}
use Rattle.table_changes.specs.Records.{record_of}
use Rattle.table_changes.specs.Setting.{Setting}
use Rattle.shard_checker.specs.CheckedView.{CheckedOf, setting_in}
use Rattle.tables_log.specs.Commits as log
use Rattle.tables_log.specs.Commits.{CommitOf}
use Rattle.tables_log.specs.StandsFor.{Transaction, left_by, entries_from}
use Rattle.pgoutput_msgs.specs.declared.message.Msg.{Msg}
use Rattle.pgoutput_msgs.specs.declared.message.Msg.TheVariants as m
use Rattle.copy_both.specs.Streams.{StreamItem, Response, Carries, Alive, spelled}
use Rattle.copy_both.proofs.StreamLemmas.{got_longer}
use Rattle.stream_laws.specs.Cutting.{if_whole, whole_in}
use Rattle.stream_laws.specs.Following.{raised_by_message, raised_by, position_after, log_of}
use Rattle.stream_laws.specs.LayoutRoom.{FitsLayouts}
use Rattle.shard_world.specs.World.{StreamSource}
use Rattle.filter_tree.proofs.Tests.{by_test}

-- ---- items that are whole

long_item : (item : StreamItem) → 1 ≤ length (spelled item)
long_item item = omega arith

pub none_in_nothing : (items : List StreamItem) → whole_in 0 items ≡ []
none_in_nothing [] = refl
none_in_nothing (item ∷ items) = by_test (nat_le (length (spelled item)) 0)
    (λ fits. let short : length (spelled item) ≤ 0 = leb-true (length (spelled item)) 0 fits in
    absurd (omega (arith, short, long_item item)))
    (λ over. ap (λ b. if_whole b item (whole_in (0 - length (spelled item)) items)) over)

-- more items do not change the bytes of the existing ones
pub whole_more : (count : ℕ) (items more : List StreamItem) → count ≤ length (flat_map spelled items)
    → whole_in count (items ++ more) ≡ whole_in count items
whole_more count [] more h = subst (λ n. whole_in n more ≡ []) (sym nothing) (none_in_nothing more)
  where
    nothing : count ≡ 0
    nothing = omega (arith, h)
whole_more count (item ∷ items) more h = by_test (nat_le (length (spelled item)) count)
    (λ fits. ap (λ b. if_whole b item (whole_in (count - length (spelled item)) (items ++ more))) fits
    ∙ ap (λ others. item ∷ others)
    (whole_more (count - length (spelled item)) items more
    (omega (arith, h, length-append (spelled item) (flat_map spelled items))))
    ∙ ap (λ b. if_whole b item (whole_in (count - length (spelled item)) items)) (sym fits))
    (λ over. ap (λ b. if_whole b item (whole_in (count - length (spelled item)) (items ++ more))) over
    ∙ ap (λ b. if_whole b item (whole_in (count - length (spelled item)) items)) (sym over))

-- ---- positions only rise

message_raises : (position : ℕ) (message : Msg) → position ≤ raised_by_message position message
message_raises position (m.Begin final_lsn time xid) = omega arith
message_raises position (m.Commit lsn end_lsn time) = omega arith
message_raises position (m.Relation relation) = omega arith
message_raises position (m.Insert relation new) = omega arith
message_raises position (m.Update relation old new) = omega arith
message_raises position (m.Delete relation old) = omega arith
message_raises position (m.Truncate options relations) = omega arith

item_raises : (position : ℕ) (item : StreamItem) → position ≤ raised_by position item
item_raises position Response = omega arith
item_raises position (Carries head message) = message_raises position message
item_raises position (Alive keepalive) = omega arith

pub items_raise : (position : ℕ) (items : List StreamItem) → position ≤ position_after position items
items_raise position [] = omega arith
items_raise position (item ∷ items) =
    let first = item_raises position item in
    let others : raised_by position item ≤ position_after (raised_by position item) items =
    items_raise (raised_by position item) items in
    omega (arith, first, others)

pub more_raise : (position count more : ℕ) (items : List StreamItem) → count ≤ more
    → position_after position (whole_in count items) ≤ position_after position (whole_in more items)
more_raise position count more [] h = omega arith
more_raise position count more (item ∷ items) h = by_test (nat_le (length (spelled item)) count)
    (λ fits. by_test (nat_le (length (spelled item)) more)
    (λ also. subst (λ b. position_after position (if_whole b item (whole_in (count - length (spelled item)) items)) ≤
    position_after position (whole_in more (item ∷ items))) (sym fits)
    (subst (λ b. position_after (raised_by position item) (whole_in (count - length (spelled item)) items) ≤
    position_after position (if_whole b item (whole_in (more - length (spelled item)) items))) (sym also)
    (more_raise (raised_by position item) (count - length (spelled item)) (more - length (spelled item)) items
    (omega (arith, h)))))
    (λ over. absurd (let small = leb-true (length (spelled item)) count fits in let big =
    leb-false (length (spelled item)) more over in omega (arith, small, big, h))))
    (λ over. subst (λ b. position_after position (if_whole b item (whole_in (count - length (spelled item)) items)) ≤
    position_after position (whole_in more (item ∷ items))) (sym over)
    (items_raise position (whole_in more (item ∷ items))))

-- ---- a longer log

abbrev pub with_more : StreamSource → List Transaction → StreamSource
with_more source more = record source { transactions = source.transactions ++ more }

entries_append : (setting : Setting) (tables : Tables) (number : ℕ) (transactions more : List Transaction)
    → entries_from setting tables number (transactions ++ more)
    ≡ entries_from setting tables number transactions
    ++ entries_from setting (fold (left_by setting) tables transactions) (number + length transactions) more
entries_append setting tables number [] more = ap (λ n. entries_from setting tables n more) (sym (add-zero number))
entries_append setting tables number (transaction ∷ transactions) more =
    ap (λ others. log.commit_of number transaction.time (record_of setting tables transaction.commands) ∷ others)
    (entries_append setting (left_by setting tables transaction) (number + 1) transactions more
    ∙ ap (λ n. entries_from setting (left_by setting tables transaction) (number + 1) transactions
    ++ entries_from setting (fold (left_by setting) (left_by setting tables transaction) transactions) n more)
    (at_later number (length transactions)))
  where
    at_later : (n count : ℕ) → n + 1 + count ≡ n + suc count
    at_later n count = omega arith

-- the log of more transactions continues that of the first ones
pub record GoesOn (checked : CheckedOf) (transactions more : List Transaction) : Type 0 where
  pub others : List CommitOf
  pub is : log_of checked (transactions ++ more) ≡ log_of checked transactions ++ others

pub log_goes_on : (checked : CheckedOf) (transactions more : List Transaction) → GoesOn checked transactions more
log_goes_on checked transactions more = record {
  others = entries_from (setting_in checked) (fold (left_by (setting_in checked)) no_rows transactions)
      (1 + length transactions) more;
  is = entries_append (setting_in checked) no_rows 1 transactions more;
}

-- if more transactions fit the layouts, so do the first ones
pub sayable_first : (checked : CheckedOf) (transactions more : List Transaction)
    → FitsLayouts checked (transactions ++ more) → FitsLayouts checked transactions
sayable_first checked transactions more h =
    let on = log_goes_on checked transactions more in
    record {
      few = omega (arith, h.few, length-append transactions more);
      said = λ subscriber sent place commit at. h.said subscriber sent place commit
          (ap (λ all. slice_get all place) on.is
          ∙ got_longer (log_of checked transactions) on.others place
          (slice_get_within (log_of checked transactions) place commit at) ∙ at);
    }
