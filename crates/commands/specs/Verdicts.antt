-- The verdict on a sharding by the texts of its certificates, and its line. The format is this program's own.
use Rattle.std.specs.Prelude.{◌≡◌, ℕ, List, [], ◌∷◌, Option, Some, None, codes}
use Rattle.filter_tree.specs.Expr.{Expr}
use Rattle.pub_catalog.specs.Catalogs.{CatalogOf}
use Rattle.replica_identity.specs.Plans.{plan_of}
use Rattle.shard_checker.specs.CatalogRefusal.{sharding_refusal}
use Rattle.shard_checker.specs.CatalogTruth.{ShardingIsWrong}
use Rattle.shard_checker.specs.CheckedView.{CheckedOf}
use Rattle.shard_checker.specs.Emptiness.{EmptyTest, IsEmptiness}
use Rattle.shard_checker.specs.Sound.{IsSound}
use Rattle.shard_checker.specs.declared.error.CheckError.{CheckError}
use Rattle.split_cert.specs.Tree.{Tree}
use Rattle.commands.specs.Refusals.{refused_line}
use Rattle.commands.specs.declared.failure.Status.{Status}
use Rattle.commands.specs.declared.failure.Status.TheVariants.{Done, Refused}

-- the catalog and its own plan
abbrev pub checked_by : CatalogOf Expr → CheckedOf
checked_by catalog = record { catalog = catalog; plan = plan_of catalog }

-- this is the first reason to refuse the sharding of a catalog with these certificates, by the catalog's own plan;
-- none if there is no reason
abbrev pub IsFirstRefusal : CatalogOf Expr → List Tree → Option CheckError → Type 0
IsFirstRefusal catalog trees refusal = (test : EmptyTest) → IsEmptiness test
    → sharding_refusal test catalog (plan_of catalog) trees ≡ refusal

-- there is no reason to refuse the sharding, it is sound, and the line is `accepted`
pub record SaysAccepted (catalog : CatalogOf Expr) (trees : List Tree) (lines : List (List ℕ)) : Type 0 where
  pub sound : IsSound catalog
  pub unrefused : IsFirstRefusal catalog trees None
  pub are : lines ≡ codes "accepted" ∷ []

-- there is a first reason, what it says of what it names is so, and the line is its line over the catalog
pub record SaysRefused (catalog : CatalogOf Expr) (trees : List Tree) (lines : List (List ℕ)) : Type 0 where
  pub error : CheckError
  pub refusal : IsFirstRefusal catalog trees (Some error)
  pub wrong : ShardingIsWrong catalog (plan_of catalog) trees error
  pub are : lines ≡ refused_line catalog error ∷ []

abbrev pub IsVerdict : CatalogOf Expr → List Tree → List (List ℕ) → Status → Type 0
IsVerdict catalog trees lines Done = SaysAccepted catalog trees lines
IsVerdict catalog trees lines Refused = SaysRefused catalog trees lines
IsVerdict catalog trees lines _ = ⊥
