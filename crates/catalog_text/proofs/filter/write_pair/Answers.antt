use Rattle.std.proofs.Common.{Bool, false, arith, ap₂, refl}
use Rattle.std.specs.String.{string_bytes}
use Rattle.filter_tree.specs.Shape.{expr_view}
use Rattle.catalog_text.proofs.Pieces.{first_steps, first_waits, pair_written}
use Rattle.catalog_text.specs.FilterText.{expr_text}
use Rattle.catalog_text.specs.Waiting.{waiting_text}
use Rattle.catalog_text.specs.declared.level.Level.{Level}
use Rattle.catalog_text.proofs.filter.write_pair.Goals as goal

pub returns-clause-written : goal.returns-clause-written
returns-clause-written c = λ columns.
    let pair = c.args.pair in
    let waiting = waiting_text columns in
    let left_text = λ (level : Level) (negated : Bool). expr_text columns level negated (expr_view pair.left.now) in
    let right_text = λ (level : Level) (negated : Bool). expr_text columns level negated (expr_view pair.right.now) in
    pair_written c.args.context.wanted c.args.context.negated pair.own (string_bytes c.args.text.now)
    (expr_text columns pair.own false (expr_view pair.left.now)) pair.words.now
    (expr_text columns pair.wanted false (expr_view pair.right.now)) (string_bytes c.write_head.new.text)
    (waiting c.args.waiting.now.items) (waiting c.push.new.self.items) (waiting c.push-2.new.self.items)
    (waiting c.push-3.new.self.items) (waiting c.push-4.new.self.items) c.in_ok-write_head.ensures
    (first_waits columns _ _ _ _ c.in_ok-push.ensures.items refl)
    (first_waits columns _ _ _ _ c.in_ok-push-2.ensures.items
    (ap₂ right_text c.plain.ensures.wanted c.plain.ensures.negated))
    (first_waits columns _ _ _ _ c.in_ok-push-3.ensures.items refl)
    (first_waits columns _ _ _ _ c.in_ok-push-4.ensures.items
    (ap₂ left_text c.plain-2.ensures.wanted c.plain-2.ensures.negated))

pub returns-clause-steps : goal.returns-clause-steps
returns-clause-steps c =
    omega (
      arith,
      first_steps _ _ _ c.in_ok-push.ensures.items,
      first_steps _ _ _ c.in_ok-push-2.ensures.items,
      first_steps _ _ _ c.in_ok-push-3.ensures.items,
      first_steps _ _ _ c.in_ok-push-4.ensures.items,
    )
