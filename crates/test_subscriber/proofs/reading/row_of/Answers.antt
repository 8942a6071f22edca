use Rattle.std.proofs.Common.{◌≡◌, get_or, length, map, sym, ◌∙◌, ap, arith, rules, drop, ◌++◌, ◌∷◌, []}
use Rattle.std.proofs.lemmas.Iterator.Adapters.{YieldsList-from_vec}
use Rattle.std.proofs.lemmas.Iterator.Consumers.{YieldsList-turn, YieldsList-end}
use Rattle.std.proofs.lemmas.List.{map-append, length_push}
use Rattle.std.specs.Prelude.{Some, None}
use Rattle.std.specs.Option.{option_map}
use Rattle.filter_tree.specs.Values.{datum_view}
use Rattle.filter_tree.specs.declared.table.ColType.TheVariants.{SmallInt}
use Rattle.pgoutput_msgs.specs.ValueText.{row_in, datum_in}
use Rattle.test_subscriber.proofs.GatherLemmas.{after, row_fails, row_goes_on, row_done}
use Rattle.test_subscriber.proofs.reading.row_of.Goals as goal

pub returns-in_default : goal.returns-in_default
returns-in_default c =
    let (many, same, held) = c.loop-cell.invariant in
    let turn = YieldsList-turn
    (YieldsList-from_vec {s = c.into_iter-cell-iterator.result} c.args.cells.items (search rules) (search rules))
    c.loop-cell.yielded c.loop-cell.cell-iterator c.loop-cell.yielded_by c.next.result c.next.new.self c.in-Some.cell
    c.in-Some.is c.next.ensures.steps in
    let place = ap (λ i. datum_in (get_or c.args.kinds.now i SmallInt) c.in-Some.cell)
    (c.len-in-loop-cell.ensures ∙ c.loop-cell.values.ok.0 ∙ many) in
    let none : option_map datum_view c.in_ok-value.field-0 ≡ None = ap (option_map datum_view) c.in_default.is in
    sym (row_fails (map datum_view c.loop-cell.values.items) c.args.kinds.now c.args.cells.items
    (length c.loop-cell.yielded) SmallInt
    c.in-Some.cell (omega (arith, turn.0)) same turn.1 (sym place ∙ sym c.in_ok-value.ensures ∙ none)) ∙ held

pub loop-cell-preserved : goal.loop-cell-preserved
loop-cell-preserved c =
    let (many, same, held) = c.loop-cell.invariant in
    let turn = YieldsList-turn
    (YieldsList-from_vec {s = c.into_iter-cell-iterator.result} c.args.cells.items (search rules) (search rules))
    c.loop-cell.yielded c.loop-cell.cell-iterator c.loop-cell.yielded_by c.next.result c.next.new.self c.in-Some.cell
    c.in-Some.is c.next.ensures.steps in
    let place = ap (λ i. datum_in (get_or c.args.kinds.now i SmallInt) c.in-Some.cell)
    (c.len-in-loop-cell.ensures ∙ c.loop-cell.values.ok.0 ∙ many) in
    let some : option_map datum_view c.in_ok-value.field-0 ≡ Some (datum_view c.in-Some-2.value) =
    ap (option_map datum_view) c.in-Some-2.is in
    let one_more = length_push c.loop-cell.yielded c.in-Some.cell in
    let items : map datum_view c.push.new.self.items ≡ map datum_view c.loop-cell.values.items
    ++ datum_view c.in-Some-2.value ∷ [] =
    ap (map datum_view) c.in_ok-push.ensures.items
    ∙ map-append datum_view c.loop-cell.values.items (c.in-Some-2.value ∷ []) in (
      omega (
        arith,
        ap length c.in_ok-push.ensures.items,
        length_push c.loop-cell.values.items c.in-Some-2.value,
        one_more,
        many,
      ),
      same,
      ap (λ made. after made
          (row_in (drop (length (c.loop-cell.yielded ++ c.in-Some.cell ∷ [])) c.args.kinds.now)
          (drop (length (c.loop-cell.yielded ++ c.in-Some.cell ∷ [])) c.args.cells.items))) items
          ∙ ap (λ i. after (map datum_view c.loop-cell.values.items ++ datum_view c.in-Some-2.value ∷ [])
          (row_in (drop i c.args.kinds.now) (drop i c.args.cells.items))) one_more
          ∙ row_goes_on (map datum_view c.loop-cell.values.items) (datum_view c.in-Some-2.value) c.args.kinds.now
          c.args.cells.items (length c.loop-cell.yielded) SmallInt
          c.in-Some.cell (omega (arith, turn.0)) same turn.1 (sym place ∙ sym c.in_ok-value.ensures ∙ some)
          ∙ held,
    )

pub returns : goal.returns
returns c =
    let (many, same, held) = c.loop-cell.invariant in
    let end = YieldsList-end
    (YieldsList-from_vec {s = c.into_iter-cell-iterator.result} c.args.cells.items (search rules) (search rules))
    c.loop-cell.yielded c.loop-cell.cell-iterator c.loop-cell.yielded_by c.next.result c.next.new.self c.in-None.is
    c.next.ensures.steps in
    let made : c.from_values.result ≡ map datum_view c.loop-cell.values.items = c.from_values.ensures in
    ap Some made
    ∙ sym (row_done (map datum_view c.loop-cell.values.items) c.args.kinds.now c.args.cells.items
    (length c.loop-cell.yielded) (omega (arith, end.1)) same)
    ∙ held
