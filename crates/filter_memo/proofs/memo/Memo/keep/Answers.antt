use Rattle.std.proofs.Common.{rules, ◌≡◌, true, refl, ◌∙◌}
use Rattle.std.specs.String.{string_bytes}
use Rattle.std.proofs.lemmas.List.Elements.{All-set}
use Rattle.filter_memo.specs.Memos.{IsKept}
use Rattle.filter_memo.proofs.Memos.{new_text, other_slots}
use Rattle.filter_memo.proofs.memo.Memo.keep.Goals as goal

pub returns-then-slot-len : goal.returns-then-slot-len
returns-then-slot-len c = λ filters text_of row is located text.
    let used : c.args.self.now.atoms.is_used ≡ true = search rules in
    let bytes : string_bytes c.in_ok-from_str.field-0 ≡ c.args.text.now = search rules in
    other_slots c.args.self.now _ filters text_of is refl
    (λ own. All-set (IsKept c.args.self.now.atoms.parts.items text_of) c.args.self.now.slots.items
    c.slot_of-slot.result _
    (new_text c.args.self.now filters text_of is row c.args.said located used
    (record { said = c.args.said; text = c.in_ok-from_str.field-0 }) refl (bytes ∙ text)) (is.kept used))
