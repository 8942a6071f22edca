use Rattle.std.proofs.Common.{◌≡◌, [], ◌∷◌, ◌++◌, map, Ok, inl, inr, sym, ap, ◌∙◌}
use Rattle.std.specs.Prelude.{slice_index}
use Rattle.std.proofs.lemmas.List.{map-append}
use Rattle.filter_tree.specs.Values.{datum_view}
use Rattle.sql_reader.specs.PlainRows.{IsPlain}
use Rattle.sql_reader.proofs.PlainRows.{ends_is, wants_first, wants_next, row_closes}
use Rattle.sql_reader.proofs.plain_row.plain_row.Goals as goal

pub loop-place-init : goal.loop-place-init
loop-place-init c = rw c.clear.ensures.items (wants_first c.args.text.now)

pub returns-then-byte_at-eq41 : goal.returns-then-byte_at-eq41
returns-then-byte_at-eq41 c =
    let text = c.args.text.now in
    let values = c.loop-place.values.items in
    let plain : IsPlain text c.loop-place.place c.in-Some.field-0 = rw c.in-Some.is at c.in_ok-value.ensures in
    row_closes text (map datum_view values) (datum_view c.in-Some.field-0.value) c.loop-place.place
    c.in-Some.field-0.after c.loop-place.invariant plain.takes
    (sym c.byte_at.ensures.value ∙ c.if-byte_at-ne40.false)
    (sym c.byte_at-in-loop-place.ensures.value ∙ c.if-byte_at-eq41.true) plain.within c.if-after-text.false
    ∙ ap Ok (sym (c.from_values.ensures ∙ ap (map datum_view) c.in_ok-push.ensures.items
    ∙ map-append datum_view values (c.in-Some.field-0.value ∷ [])))

pub loop-place-preserved : goal.loop-place-preserved
loop-place-preserved c =
    let text = c.args.text.now in
    let values = c.loop-place.values.items in
    let plain : IsPlain text c.loop-place.place c.in-Some.field-0 = rw c.in-Some.is at c.in_ok-value.ensures in
    let comma : slice_index text c.in-Some.field-0.after ≡ 44 = elim (ends_is _ plain.ends) [
      | inl e ↦ e
      | inr e ↦ absurd (c.if-byte_at-eq41.false (c.byte_at-in-loop-place.ensures.value ∙ e))
    ] in
    let pushed : map datum_view c.push.new.self.items ≡ map datum_view values
    ++ (datum_view c.in-Some.field-0.value ∷ []) =
    ap (map datum_view) c.in_ok-push.ensures.items ∙ map-append datum_view values (c.in-Some.field-0.value ∷ []) in
    rw pushed (wants_next text (map datum_view values) (datum_view c.in-Some.field-0.value) c.loop-place.place
    c.in-Some.field-0.after c.after_comma-place.result c.loop-place.invariant plain.takes
    plain.within comma c.after_comma-place.ensures.same)
