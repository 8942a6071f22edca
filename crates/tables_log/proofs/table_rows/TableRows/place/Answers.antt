use Rattle.std.proofs.Common.{◌≡◌, ◌<◌, List, length, sym, ◌∙◌, ap, arith}
use Rattle.std.specs.Prelude.{Some, slice_get, is_some}
use Rattle.std.proofs.lemmas.List.{length-map}
use Rattle.replica_identity.specs.Setting.{keys_in}
use Rattle.table_changes.specs.Keys.{UniqueKey, value_in}
use Rattle.table_changes.specs.Tables.{found_at}
use Rattle.tables_log.specs.Places.{seen_at, values_in, value_of}
use Rattle.tables_log.proofs.PlaceLemmas.{value_of_key}
use Rattle.tables_log.proofs.StepLemmas.{places_one, not_free, puts_same}
use Rattle.tables_log.proofs.table_rows.TableRows.place.Goals as goal

pub returns-then-branch-clause-free : goal.returns-then-branch-clause-free
returns-then-branch-clause-free c =
    let keys : List UniqueKey = keys_in (Some c.args.table.now) in
    let count : length (values_in keys c.args.row.now) ≡ length keys =
    length-map keys (λ (key : UniqueKey). key c.args.row.now) in
    let low : c.loop-number.number < length (values_in keys c.args.row.now) =
    omega (arith, count, c.requires, c.loop-number-test.true, c.len-number-end.ensures) in
    not_free c.args.self.now.maps.items (values_in keys c.args.row.now) (Some c.args.row.now) c.loop-number.number
    c.loop-number.self c.loop-number.invariant low c.in_ok-place_one.field-0
    (c.in_ok-place_one.ensures.was
    ∙ ap (λ value. is_some (found_at (seen_at c.loop-number.self.maps.items c.loop-number.number) value))
    (sym (value_of_key keys c.loop-number.number c.args.row.now)))
    c.if-branch.true

pub loop-number-preserved : goal.loop-number-preserved
loop-number-preserved c =
    let keys : List UniqueKey = keys_in (Some c.args.table.now) in
    let count : length (values_in keys c.args.row.now) ≡ length keys =
    length-map keys (λ (key : UniqueKey). key c.args.row.now) in
    let low : c.loop-number.number < length (values_in keys c.args.row.now) =
    omega (arith, count, c.requires, c.loop-number-test.true, c.len-number-end.ensures) in
    places_one c.args.self.now.maps.items (values_in keys c.args.row.now) (Some c.args.row.now) c.loop-number.number
    c.loop-number.self c.loop-number.invariant low c.in_ok-place_one.field-0
    (c.in_ok-place_one.ensures.was
    ∙ ap (λ value. is_some (found_at (seen_at c.loop-number.self.maps.items c.loop-number.number) value))
    (sym (value_of_key keys c.loop-number.number c.args.row.now)))
    c.place_one.new.self
    (puts_same c.loop-number.self c.place_one.new.self c.loop-number.number
    (value_in (slice_get keys c.loop-number.number) c.args.row.now)
    (value_of (values_in keys c.args.row.now) c.loop-number.number) (Some c.args.row.now)
    (sym (value_of_key keys c.loop-number.number c.args.row.now)) c.in_ok-place_one.ensures.puts)
    c.in_ok-place_one.ensures.keeps c.if-branch.false
