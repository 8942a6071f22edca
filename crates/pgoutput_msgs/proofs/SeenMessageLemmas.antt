-- What a subscriber is sent for a commit is what it sees of the commit's commands.
use Rattle.std.proofs.Common.{◌≡◌, ℕ, Bool, true, false, Option, Some, None, List, [], ◌∷◌, ◌++◌, length, length-append, map, refl, sym, ap, ◌∙◌, arith}
use Rattle.std.specs.Prelude.{filter, filter_map, slice_get, slice_index_or}
use Rattle.std.specs.List.{flat_map, cons_option}
use Rattle.std.proofs.lemmas.List.Concat.{flat_map-cons}
use Rattle.std.proofs.lemmas.List.Elements.{filter-append}
use Rattle.std.proofs.lemmas.List.Folds.{flat_map-map}
use Rattle.filter_tree.specs.Datum.{Datum}
use Rattle.filter_tree.specs.declared.table.Table.{Table}
use Rattle.shard_checker.specs.CheckedView.{CheckedOf, setting_in}
use Rattle.table_changes.specs.Outs.{got, as_recorded}
use Rattle.table_changes.specs.Records as r
use Rattle.table_changes.specs.Records.{part_by, part_of}
use Rattle.table_changes.specs.Seen as s
use Rattle.table_changes.specs.Seen.{Seen, seen}
use Rattle.table_changes.specs.Setting.{Setting, Recorded, Columns, Whole, Nowhere}
use Rattle.table_changes.specs.Standing.{Covered}
use Rattle.table_changes.proofs.ShowingLemmas.{record_shows_all}
use Rattle.tables_log.specs.Commits.{CommitOf}
use Rattle.pgoutput_msgs.specs.SeenMessages.{is_change, gone_message, seen_message, MessagesTellWhatIsSeen}
use Rattle.pgoutput_msgs.specs.Telling.{a_relation, introduced, relation_once, relations_of, mark_one, named_in, message_of, said, mark_by, said_each, commit_msg, enclosed, messages_for}
use Rattle.pgoutput_msgs.specs.declared.message.Msg.{Msg}

-- ---- the changes among the messages of a commit

no_change : (tables : List Table) (number : ℕ) (found : Option Table) → filter is_change (a_relation number found) ≡ []
no_change tables number None = refl
no_change tables number (Some table) = refl

none_once : (tables : List Table) (number : ℕ) (b : Bool) → filter is_change (introduced tables b number) ≡ []
none_once tables number true = refl
none_once tables number false = no_change tables number (slice_get tables number)

none_in_relations : (tables : List Table) (sent : List Bool) (numbers : List ℕ)
    → filter is_change (relations_of tables sent numbers) ≡ []
unfolding relations_of relation_once
none_in_relations tables sent [] = refl
none_in_relations tables sent (number ∷ numbers) =
    filter-append is_change (introduced tables (slice_index_or sent number false) number)
    (relations_of tables (mark_one sent number) numbers)
    ∙ ap (λ (x : List Msg). x ++ filter is_change (relations_of tables (mark_one sent number) numbers))
    (none_once tables number (slice_index_or sent number false))
    ∙ none_in_relations tables (mark_one sent number) numbers

is_its_own : (change : r.ChangeOf) → filter is_change (message_of change) ≡ message_of change
is_its_own (r.Insert table new) = refl
is_its_own (r.Update table part new) = refl
is_its_own (r.Delete table None) = refl
is_its_own (r.Delete table (Some part)) = refl
is_its_own (r.Truncate numbers) = refl

-- the messages of the existing changes
abbrev messages_in : List r.ChangeOf → List Msg
messages_in changes = flat_map message_of changes

one_said : (tables : List Table) (sent : List Bool) (change : Option r.ChangeOf) (others : List r.ChangeOf)
    → filter is_change (said tables sent change) ++ messages_in others ≡ messages_in (cons_option change others)
unfolding said
one_said tables sent None others = refl
one_said tables sent (Some change) others =
    ap (λ (x : List Msg). x ++ messages_in others)
    (filter-append is_change (relations_of tables sent (named_in change)) (message_of change)
    ∙ ap (λ (x : List Msg). x ++ filter is_change (message_of change))
    (none_in_relations tables sent (named_in change)) ∙ is_its_own change)
    ∙ sym (flat_map-cons message_of change others)

all_said : (checked : CheckedOf) (subscriber : ℕ) (sent : List Bool) (changes : List r.ChangeOf)
    → filter is_change (said_each checked subscriber sent changes)
    ≡ messages_in (filter_map (got (setting_in checked) subscriber) changes)
unfolding said_each
all_said checked subscriber sent [] = refl
all_said checked subscriber sent (change ∷ changes) =
    let mine = got (setting_in checked) subscriber change in
    let tables = checked.catalog.tables in
    let later = said_each checked subscriber (mark_by sent mine) changes in
    filter-append is_change (said tables sent mine) later
    ∙ ap (λ (x : List Msg). filter is_change (said tables sent mine) ++ x)
    (all_said checked subscriber (mark_by sent mine) changes)
    ∙ one_said tables sent mine (filter_map (got (setting_in checked) subscriber) changes)

within_begin : (commit : CommitOf) (messages : List Msg)
    → filter is_change (enclosed commit messages) ≡ filter is_change messages
within_begin commit [] = refl
within_begin commit (first ∷ others) = filter-append is_change (first ∷ others) (commit_msg commit ∷ [])
    ∙ no_more (filter is_change (first ∷ others))
  where
    no_more : (xs : List Msg) → xs ++ [] ≡ xs
    no_more [] = refl
    no_more (x ∷ xs) = ap (λ (rest : List Msg). x ∷ rest) (no_more xs)

-- ---- nothing is sent if the subscriber gets nothing

none_after : (checked : CheckedOf) (subscriber : ℕ) (sent : List Bool) (mine : Option r.ChangeOf)
    (got_later : List r.ChangeOf) (changes : List r.ChangeOf)
    → ((later : List Bool) → got_later ≡ [] → said_each checked subscriber later changes ≡ [])
    → cons_option mine got_later ≡ []
    → said checked.catalog.tables sent mine ++ said_each checked subscriber (mark_by sent mine) changes ≡ []
unfolding said mark_by
none_after checked subscriber sent None got_later changes again h = again sent h
none_after checked subscriber sent (Some one) got_later changes again h = absurd cc

none_said : (checked : CheckedOf) (subscriber : ℕ) (sent : List Bool) (changes : List r.ChangeOf)
    → filter_map (got (setting_in checked) subscriber) changes ≡ [] → said_each checked subscriber sent changes ≡ []
unfolding said_each
none_said checked subscriber sent [] h = refl
none_said checked subscriber sent (change ∷ changes) h =
    none_after checked subscriber sent (got (setting_in checked) subscriber change)
    (filter_map (got (setting_in checked) subscriber) changes) changes
    (λ later none. none_said checked subscriber later changes none) h

enclosed_none : (commit : CommitOf) (messages : List Msg) → messages ≡ [] → enclosed commit messages ≡ []
enclosed_none commit [] h = refl
enclosed_none commit (first ∷ others) h = absurd cc

-- ---- each has one message

one_gone : (setting : Setting) → Covered setting → (table : ℕ) (old : List Datum) (as_it : Recorded)
    → setting.recorded table ≡ as_it
    → length (gone_message table (part_by as_it (setting.identity table) (setting.blanked table) old None)) ≡ 1
one_gone setting covered table old Columns h = refl
one_gone setting covered table old Whole h = refl
one_gone setting covered table old Nowhere h = absurd (covered.recorded table h)

pub one_seen : (setting : Setting) → Covered setting → (one : Seen) → length (seen_message setting one) ≡ 1
one_seen setting covered (s.Insert table new) = refl
one_seen setting covered (s.Update table old new) = refl
one_seen setting covered (s.Delete table old) = one_gone setting covered table old (setting.recorded table) refl
one_seen setting covered (s.Truncate numbers) = refl

pub as_message : (setting : Setting) (one : Seen) → message_of (as_recorded setting one) ≡ seen_message setting one
as_message setting (s.Insert table new) = refl
as_message setting (s.Update table old new) = refl
as_message setting (s.Delete table old) = by_part (part_of setting table old None)
  where
    by_part : (part : Option r.PartOf) → message_of (r.Delete table part) ≡ gone_message table part
    by_part None = refl
    by_part (Some part) = refl
as_message setting (s.Truncate numbers) = refl

as_messages : (setting : Setting) (all : List Seen)
    → flat_map (λ one. message_of (as_recorded setting one)) all ≡ flat_map (seen_message setting) all
as_messages setting [] = refl
as_messages setting (one ∷ all) =
    ap (λ (x : List Msg). x ++ flat_map (λ other. message_of (as_recorded setting other)) all) (as_message setting one)
    ∙ ap (λ (x : List Msg). seen_message setting one ++ x) (as_messages setting all)

nothing_seen : (setting : Setting) → Covered setting → (all : List Seen) → flat_map (seen_message setting) all ≡ []
    → all ≡ []
nothing_seen setting covered [] h = refl
nothing_seen setting covered (one ∷ all) h =
    let long = length-append (seen_message setting one) (flat_map (seen_message setting) all) in
    let none = ap length h in
    absurd (omega (arith, long, none, one_seen setting covered one))

-- ---- the law

pub tells_what_is_seen : MessagesTellWhatIsSeen
tells_what_is_seen checked covered subscriber sent commit tables number commands h recorded =
    let setting = setting_in checked in
    let all = seen setting subscriber tables commands in
    let mine = filter_map (got setting subscriber) commit.changes in
    let gets : mine ≡ map (as_recorded setting) all =
    ap (filter_map (got setting subscriber)) recorded
    ∙ record_shows_all setting covered subscriber tables number commands h in
    let changes : filter is_change (messages_for checked subscriber sent commit) ≡ flat_map (seen_message setting) all =
    within_begin commit (said_each checked subscriber sent commit.changes)
    ∙ all_said checked subscriber sent commit.changes
    ∙ ap messages_in gets ∙ flat_map-map message_of (as_recorded setting) all ∙ as_messages setting all in
    record {
      changes = changes;
      one_each = one_seen setting covered;
      none = λ nothing. enclosed_none commit (said_each checked subscriber sent commit.changes)
          (none_said checked subscriber sent commit.changes (gets ∙ ap (map (as_recorded setting)) nothing));
      only = λ nothing. nothing_seen setting covered all (sym changes ∙ ap (filter is_change) nothing);
    }
