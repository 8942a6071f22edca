use Rattle.std.proofs.Common.{arith, rules, ap, subst, sym, length, map, List, [], ◌∷◌, ◌++◌, ◌∙◌}
use Rattle.std.specs.Arc.{arc_value}
use Rattle.std.proofs.lemmas.Grind.{common_steps}
use Rattle.replica_identity.specs.ChangeView.{change_view}
use Rattle.row_owners.specs.Routers.{IsRouterOf}
use Rattle.shard_checker.specs.CheckedView.{CheckedOf, checked_view}
use Rattle.tables_log.specs.Commits.{CommitOf}
use Rattle.tables_log.specs.Routes.{AreRouted}
use Rattle.tables_log.specs.declared.routed.Routed.{Routed}
use Rattle.tables_log.proofs.BookLemmas.{numbered_pushed, bounded_more}
use Rattle.tables_log.proofs.RouteLemmas.{routed_pushed, routed_entry}
use Rattle.tables_log.specs.Places.{widths}
use Rattle.tables_log.specs.Settling.{IsSettled}
use Rattle.tables_log.proofs.PlaceLemmas.{same_count, written}
use Rattle.tables_log.proofs.book.Book.commit.Goals as goal

pub invariant_of-self : goal.invariant_of-self
invariant_of-self c = record {
  routing = c.args.self.now.routing;
  some = c.args.self.now.some;
  within = c.args.self.now.within;
  room = grind (arith, common_steps);
  numbered = grind (arith, common_steps);
  routed = subst (AreRouted (checked_view (arc_value c.args.self.now.checked)).plan) (sym c.reserve.ensures.items)
      c.args.self.now.routed;
  maps = c.args.self.now.maps;
  settled = c.args.self.now.settled;
  bounded = grind (arith, common_steps);
  each = c.args.self.now.each;
}

pub invariant_of-self-in-Break-branch-3 : goal.invariant_of-self-in-Break-branch-3
invariant_of-self-in-Break-branch-3 c = record {
  routing = c.args.self.now.routing;
  some = c.args.self.now.some;
  within = search rules;
  room = grind (arith, common_steps);
  numbered = grind (arith, common_steps);
  routed = subst (AreRouted (checked_view (arc_value c.args.self.now.checked)).plan) (sym c.reserve.ensures.items)
      c.args.self.now.routed;
  maps = record {
    narrow = c.args.self.now.maps.narrow;
    wide =
        ap widths (written c.args.self.now.tables.len c.commit_tables.new.tables c.args.self.now.tables.items
        (same_count c.commit_tables.new.tables c.deref_mut.result.now c.in_err-commit.ensures.kept.width
        ∙ ap length c.deref_mut.ensures.value ∙ sym c.args.self.now.tables.ok.0))
        ∙ c.in_err-commit.ensures.kept.width ∙ ap widths c.deref_mut.ensures.value ∙ c.args.self.now.maps.wide;
  };
  settled =
      subst IsSettled (sym (written c.args.self.now.tables.len c.commit_tables.new.tables c.args.self.now.tables.items
      (same_count c.commit_tables.new.tables c.deref_mut.result.now c.in_err-commit.ensures.kept.width
      ∙ ap length c.deref_mut.ensures.value ∙ sym c.args.self.now.tables.ok.0)))
      c.commit_tables.ensures.settled;
  bounded = grind (arith, common_steps);
  each = c.args.self.now.each;
}

pub invariant_of-self-2 : goal.invariant_of-self-2
invariant_of-self-2 c = record {
  routing = subst (λ (checked : CheckedOf). IsRouterOf checked.plan c.routes_of-routes.new.self)
      (ap checked_view c.deref-2.ensures) c.routes_of-routes.ensures.router;
  some = c.args.self.now.some;
  within = search rules;
  room = grind (arith, common_steps);
  numbered = grind (arith, common_steps, numbered_pushed);
  routed =
      let checked : CheckedOf = checked_view (arc_value c.args.self.now.checked) in
      let entry : Routed = record { commit = c.in_ok-commit.commit; routes = c.routes_of-routes.result } in
      subst (AreRouted checked.plan)
      (sym (c.push_reserved.ensures.items
      ∙ ap (λ (entries : List Routed). entries ++ entry ∷ []) c.reserve.ensures.items))
      (routed_pushed checked.plan c.args.self.now.log.items entry
      (routed_entry (checked_view c.deref-2.result.now) checked entry (map change_view c.changes.result.now)
      (ap checked_view c.deref-2.ensures)
      (c.changes.ensures.shows ∙ ap (λ (commit : CommitOf). commit.changes) c.deref-3.ensures)
      c.routes_of-routes.ensures.routes)
      c.args.self.now.routed);
  maps = record {
    narrow = c.args.self.now.maps.narrow;
    wide =
        ap widths (written c.args.self.now.tables.len c.commit_tables.new.tables c.args.self.now.tables.items
        (same_count c.commit_tables.new.tables c.deref_mut.result.now c.in_ok-commit.ensures.ok.width
        ∙ ap length c.deref_mut.ensures.value ∙ sym c.args.self.now.tables.ok.0))
        ∙ c.in_ok-commit.ensures.ok.width ∙ ap widths c.deref_mut.ensures.value ∙ c.args.self.now.maps.wide;
  };
  settled =
      subst IsSettled (sym (written c.args.self.now.tables.len c.commit_tables.new.tables c.args.self.now.tables.items
      (same_count c.commit_tables.new.tables c.deref_mut.result.now c.in_ok-commit.ensures.ok.width
      ∙ ap length c.deref_mut.ensures.value ∙ sym c.args.self.now.tables.ok.0)))
      c.commit_tables.ensures.settled;
  bounded = grind (arith, common_steps, bounded_more);
  each = c.args.self.now.each;
}

-- a full log is reported without memory
pub returns-then-count-self-clause-memory : goal.returns-then-count-self-clause-memory
returns-then-count-self-clause-memory c = λ same. absurd cc
