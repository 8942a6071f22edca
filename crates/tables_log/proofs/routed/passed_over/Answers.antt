use Rattle.std.proofs.Common.{◌+◌, ◌∷◌, drop, map, ap, sym, ◌∙◌, arith}
use Rattle.std.specs.Arc.{arc_value}
use Rattle.std.specs.List.{take_while}
use Rattle.row_owners.specs.Owners.{owned}
use Rattle.row_owners.specs.declared.owner_set.OwnerSet.{OwnerSet}
use Rattle.tables_log.specs.Routes.{commit_in, lacks}
use Rattle.tables_log.proofs.PlaceLemmas.{drop_next}
use Rattle.tables_log.proofs.RouteLemmas.{gathers_one}
use Rattle.tables_log.proofs.routed.passed_over.Goals as goal

pub loop-entry-preserved : goal.loop-entry-preserved
loop-entry-preserved c =
    gathers_one (λ commit. arc_value commit) c.args.subscriber c.loop-entry.commits.items c.push.new.self.items
    c.in_ok-try_clone.field-0 c.entry-item.result
    (drop (c.loop-entry.entry-index + 1) c.args.entries.now) (drop c.loop-entry.entry-index c.args.entries.now)
    (map commit_in (take_while (lacks c.args.subscriber) c.args.entries.now))
    (ap (λ (set : OwnerSet). owned set c.args.subscriber) (sym c.all.ensures) ∙ sym c.has.ensures ∙ c.if-has.false)
    (drop_next c.args.entries.now c.loop-entry.entry-index c.entry-item.result (omega (arith, c.loop-entry-test.true))
    ∙ ap (λ one. one ∷ drop (c.loop-entry.entry-index + 1) c.args.entries.now) (sym c.entry-item.is))
    c.in_ok-try_clone.ensures c.in_ok-push.ensures.items c.loop-entry.invariant
