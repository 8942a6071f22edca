use Rattle.std.proofs.Common.{◌∙◌, ◌++◌, Bool, true, false, arith, ap₂, codes}
use Rattle.std.specs.String.{string_bytes}
use Rattle.filter_tree.specs.Shape.{expr_view}
use Rattle.catalog_text.proofs.Pieces.{first_steps, first_waits, not_written}
use Rattle.catalog_text.specs.FilterText.{expr_text}
use Rattle.catalog_text.specs.Waiting.{head, tail, waiting_text}
use Rattle.catalog_text.specs.declared.level.Level.{Level}
use Rattle.catalog_text.specs.declared.level.Level.TheVariants as level
use Rattle.catalog_text.proofs.filter.write_negation.Goals as goal

pub returns-clause-written : goal.returns-clause-written
returns-clause-written c = λ columns.
    let waiting = waiting_text columns in
    let wanted = c.args.wanted in
    let old = string_bytes c.args.text.now in
    let head_text = λ (wanted : Level) (negated : Bool). old ++ head wanted negated level.Not in
    let tail_text = λ (wanted : Level) (negated : Bool). tail wanted negated level.Not in
    let part_text = λ (wanted : Level) (negated : Bool). expr_text columns wanted negated (expr_view c.args.part.now) in
    not_written old (head wanted false level.Not) (codes "NOT ")
    (expr_text columns level.Not true (expr_view c.args.part.now)) (tail wanted false level.Not)
    (string_bytes c.write_head.new.text) (string_bytes c.push_str.new.self)
    (waiting c.args.waiting.now.items) (waiting c.push.new.self.items) (waiting c.push-2.new.self.items)
    (c.in_ok-write_head.ensures ∙ ap₂ head_text c.plain-plain.ensures.wanted c.plain-plain.ensures.negated)
    c.in_ok-push_str.ensures.bytes
    (first_waits columns _ _ _ _ c.in_ok-push.ensures.items
    (ap₂ tail_text c.plain-plain.ensures.wanted c.plain-plain.ensures.negated))
    (first_waits columns _ _ _ _ c.in_ok-push-2.ensures.items
    (ap₂ part_text c.negation-inner.ensures.wanted c.negation-inner.ensures.negated))

pub returns-clause-steps : goal.returns-clause-steps
returns-clause-steps c =
    omega (arith, first_steps _ _ _ c.in_ok-push.ensures.items, first_steps _ _ _ c.in_ok-push-2.ensures.items)
