use Rattle.std.proofs.Common.{rules, ◌≡◌, true, List, Option, Some, refl, subst, ◌∙◌}
use Rattle.std.specs.Prelude.{slice_get}
use Rattle.replica_identity.specs.Plans.{plan_view}
use Rattle.row_owners.specs.Routers.{filters_of, RoutesTable}
use Rattle.row_owners.specs.declared.table_router.KeptOwners.{KeptOwners}
use Rattle.row_owners.proofs.RouterLemmas.{looked, kept_owns, new_set}
use Rattle.row_owners.proofs.table_router.TableRouter.owners.Goals as goal

pub returns-in-Some-clause-owners : goal.returns-in-Some-clause-owners
returns-in-Some-clause-owners c =
    let routes : RoutesTable (plan_view c.args.plan.now) c.args.table
    (record { atoms = c.locate-said.new.self; slots = c.args.self.now.slots }) =
    looked (plan_view c.args.plan.now) c.args.table c.args.self.now _ c.requires
    (c.locate-said.ensures.atoms (filters_of (plan_view c.args.plan.now) c.args.table) c.requires.atoms)
    c.locate-said.ensures.same refl in
    kept_owns (plan_view c.args.plan.now) c.args.table _ routes c.slot_of-slot.result
    (record { said = c.locate-said.result; owners = c.in-Some.owners })
    (subst (λ (slots : List (Option KeptOwners)). slice_get slots c.slot_of-slot.result
    ≡ Some (Some (record { said = c.locate-said.result; owners = c.in-Some.owners }))) c.deref.ensures.value
    c.in-Some.ensures)
    c.args.row.now
    (c.locate-said.ensures.located (filters_of (plan_view c.args.plan.now) c.args.table) c.requires.atoms)

pub returns-clause-router : goal.returns-clause-router
returns-clause-router c =
    let used : c.args.self.now.atoms.is_used ≡ true = search rules in
    let atoms = c.locate-said.ensures.atoms (filters_of (plan_view c.args.plan.now) c.args.table) c.requires.atoms in
    c.keep.ensures (plan_view c.args.plan.now) c.args.table
    (looked (plan_view c.args.plan.now) c.args.table c.args.self.now _ c.requires atoms c.locate-said.ensures.same refl)
    (new_set (plan_view c.args.plan.now) c.args.table c.locate-said.new.self atoms (c.locate-said.ensures.same.used ∙ used)
    c.args.row.now c.locate-said.result c.takers_by-owners.result
    (c.locate-said.ensures.located (filters_of (plan_view c.args.plan.now) c.args.table) c.requires.atoms)
    c.takers_by-owners.ensures)
