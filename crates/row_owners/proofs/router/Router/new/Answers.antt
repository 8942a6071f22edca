use Rattle.std.proofs.Common.{◌≡◌, ◌++◌, ◌∷◌, [], length, sym, ap, subst, arith}
use Rattle.std.proofs.lemmas.List.{length-append}
use Rattle.filter_tree.specs.Expr.{Expr}
use Rattle.pub_catalog.specs.Catalogs.{CatalogOf}
use Rattle.shard_checker.specs.CheckedView.{checked_view}
use Rattle.row_owners.proofs.RouterLemmas.{RouteTables, router_more}
use Rattle.row_owners.proofs.router.Router.new.Goals as goal

pub loop-table-preserved : goal.loop-table-preserved
loop-table-preserved c =
    let pushed : c.push.new.self.items ≡ c.loop-table.tables.items ++ c.in_ok-new.field-0 ∷ [] =
    c.in_ok-push.ensures.items in
    record {
      count = omega (
        arith,
        ap length pushed,
        length-append c.loop-table.tables.items (c.in_ok-new.field-0 ∷ []),
        c.loop-table.invariant.count,
      );
      each = subst (RouteTables (checked_view c.args.checked.now).plan) (sym pushed)
          (router_more (checked_view c.args.checked.now).plan c.loop-table.tables.items c.loop-table.table
          c.in_ok-new.field-0 c.loop-table.invariant.count c.loop-table.invariant.each c.in_ok-new.ensures);
    }

pub returns-clause-tables : goal.returns-clause-tables
returns-clause-tables c =
    let seen : length c.catalog.result.now.tables.items ≡ length (checked_view c.args.checked.now).catalog.tables =
    ap (λ (catalog : CatalogOf Expr). length catalog.tables) c.catalog.ensures.shows in
    omega (
      arith,
      seen,
      c.len-table-end.ensures,
      c.loop-table-test.false,
      c.loop-table.invariant.count,
      c.loop-table.auto.table-end,
    )
