use Rattle.std.proofs.Common.{◌∙◌, ◌++◌, Bool, false, arith, ap₂, codes, refl}
use Rattle.std.specs.String.{string_bytes}
use Rattle.filter_tree.specs.Shape.{expr_view}
use Rattle.catalog_text.proofs.Pieces.{first_steps, first_waits, test_written}
use Rattle.catalog_text.specs.FilterText.{expr_text, not_text, test_text}
use Rattle.catalog_text.specs.Waiting.{head, tail, waiting_text}
use Rattle.catalog_text.specs.declared.level.Level.{Level}
use Rattle.catalog_text.specs.declared.level.Level.TheVariants as level
use Rattle.catalog_text.proofs.filter.write_test.Goals as goal

pub returns-clause-written : goal.returns-clause-written
returns-clause-written c = λ columns.
    let waiting = waiting_text columns in
    let wanted = c.args.context.wanted in
    let old = string_bytes c.args.text.now in
    let head_text = λ (wanted : Level) (negated : Bool). old ++ head wanted negated level.Test in
    let tail_text = λ (wanted : Level) (negated : Bool). tail wanted negated level.Test in
    let part_text = λ (wanted : Level) (negated : Bool). expr_text columns wanted negated (expr_view c.args.part.now) in
    test_written old (head wanted false level.Test) (part_text level.Operand false) (codes " IS")
    (not_text c.args.context.negated) (test_text c.args.test) (tail wanted false level.Test)
    (string_bytes c.write_head.new.text)
    (waiting c.args.waiting.now.items) (waiting c.push.new.self.items) (waiting c.push-2.new.self.items)
    (waiting c.push-3.new.self.items) (waiting c.push-4.new.self.items) (waiting c.push-5.new.self.items)
    (c.in_ok-write_head.ensures ∙ ap₂ head_text c.plain-plain.ensures.wanted c.plain-plain.ensures.negated)
    (first_waits columns _ _ _ _ c.in_ok-push.ensures.items
    (ap₂ tail_text c.plain-plain.ensures.wanted c.plain-plain.ensures.negated))
    (first_waits columns _ _ _ _ c.in_ok-push-2.ensures.items c.test_text.ensures)
    (first_waits columns _ _ _ _ c.in_ok-push-3.ensures.items c.not_text.ensures)
    (first_waits columns _ _ _ _ c.in_ok-push-4.ensures.items refl)
    (first_waits columns _ _ _ _ c.in_ok-push-5.ensures.items
    (ap₂ part_text c.plain.ensures.wanted c.plain.ensures.negated))

pub returns-clause-steps : goal.returns-clause-steps
returns-clause-steps c =
    omega (
      arith,
      first_steps _ _ _ c.in_ok-push.ensures.items,
      first_steps _ _ _ c.in_ok-push-2.ensures.items,
      first_steps _ _ _ c.in_ok-push-3.ensures.items,
      first_steps _ _ _ c.in_ok-push-4.ensures.items,
      first_steps _ _ _ c.in_ok-push-5.ensures.items,
    )
