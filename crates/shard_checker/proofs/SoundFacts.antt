-- A sharding is sound in only one way: a row that passes to exactly one subscriber leaves no choice of subscriber.
use Rattle.std.proofs.Common.{ap}
use Rattle.std.specs.Prelude.{◌≡◌, ℕ, true, List}
use Rattle.std.proofs.Math.Logic.{∥∥₁_elim}
use Rattle.std.proofs.Props.{props}
use mathlib.Core.HLevel.{Σ_prop_path}
use Rattle.filter_tree.specs.Datum.{Datum}
use Rattle.filter_tree.specs.Expr.{Expr}
use Rattle.pub_catalog.specs.Catalogs.{CatalogOf}
use Rattle.replica_identity.specs.Passes.{passes}
use Rattle.shard_checker.specs.Sound.{RowHasOneOwner, IsSound}

pub RowHasOneOwner-prop : (catalog : CatalogOf Expr) (table : ℕ) (row : List Datum)
    → IsProp (RowHasOneOwner catalog table row)
RowHasOneOwner-prop catalog table row = λ one other.
    let Alone : ℕ → Type 0 = λ owner. (passes catalog owner table row ≡ true)
    × ((another : ℕ) → passes catalog another table row ≡ true → another ≡ owner) in
    let alone : (owner : ℕ) → IsProp (Alone owner) = λ owner. Prim.hlevel props in
    ap (λ (t : (owner : ℕ) × Alone owner). record { owner = t.0; takes_it = t.1.0; no_other = t.1.1 })
    (Σ_prop_path alone (other.no_other one.owner one.takes_it))

pub IsSound-prop : (catalog : CatalogOf Expr) → IsProp (IsSound catalog)
IsSound-prop catalog = Prim.hlevel (props, RowHasOneOwner-prop)

-- what is kept of a catalog
pub kept_sound : (catalog : CatalogOf Expr) → ∥ IsSound catalog ∥₁ → IsSound catalog
kept_sound catalog kept = ∥∥₁_elim kept (IsSound-prop catalog) (λ sound. sound)
