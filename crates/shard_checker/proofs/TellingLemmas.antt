-- What the result of a check means: what the program's own test found, each equivalent test finds; memory runs out only
-- when it may; and what an error says is true.
use Rattle.std.proofs.Common.{◌≡◌, ◌≢◌, ℕ, List, Result, Ok, Err, sym, subst}
use Rattle.std.specs.Prelude.{Option, Some, OnOk}
use Rattle.filter_tree.specs.Datum.{Datum}
use Rattle.filter_tree.specs.Expr.{Expr}
use Rattle.filter_tree.specs.Memory.{NeedsMemoryOnlyIf}
use Rattle.filter_tree.specs.declared.table.Table.{Table}
use Rattle.pub_catalog.specs.CatalogEntries.{AllCarryKnown}
use Rattle.pub_catalog.specs.Catalogs.{CatalogOf}
use Rattle.replica_identity.specs.Plans.{PlanOf}
use Rattle.replica_identity.specs.Shares.{ShareOf}
use Rattle.split_cert.specs.Tree.{Tree}
use Rattle.shard_checker.specs.CatalogRefusal.{sharding_refusal}
use Rattle.shard_checker.specs.CatalogTruth.{ShardingIsWrong}
use Rattle.shard_checker.specs.Checks.{Checks, IfRefused}
use Rattle.shard_checker.specs.Emptiness.{EmptyTest, IsEmptiness}
use Rattle.shard_checker.specs.Owners.{HasOneOwner}
use Rattle.shard_checker.specs.Refusal.{first_refusal}
use Rattle.shard_checker.specs.Rows.{IsTyped}
use Rattle.shard_checker.specs.Truth.{CertificateIsWrong}
use Rattle.shard_checker.specs.Candidates.{is_empty}
use Rattle.shard_checker.specs.declared.error.CheckError.{CheckError}
use Rattle.shard_checker.specs.declared.error.CheckError.TheVariants.{OutOfMemory}
use Rattle.shard_checker.proofs.AnyTest.{sharding_by_any}
use Rattle.shard_checker.proofs.ReasonLemmas.{sharding_wrong}
use Rattle.shard_checker.proofs.SoundLemmas.{certificate_sound}
use Rattle.shard_checker.proofs.TruthLemmas.{certificate_wrong}

-- ---- a certificate

module _ (number : ℕ) (table : Table) (shares : List ShareOf) (tree : Tree) where
  pub checked_sound : (result : Result (Unit {0}) CheckError)
      → Checks (first_refusal is_empty number table shares tree) result
      → OnOk result ((row : List Datum) → IsTyped table.columns row → HasOneOwner shares row)
  checked_sound (Ok value) h = certificate_sound number table shares tree h
  checked_sound (Err error) h = tt

  pub checked_wrong : (result : Result (Unit {0}) CheckError)
      → Checks (first_refusal is_empty number table shares tree) result
      → IfRefused result (CertificateIsWrong number table shares tree)
  checked_wrong (Ok value) h = tt
  checked_wrong (Err error) h = λ other. certificate_wrong number table shares tree error (h other)

-- ---- a sharding: an error that was found is passed on

module _ {A B : Type 0} (catalog : CatalogOf Expr) (plan : PlanOf) (trees : List Tree) (given : Result A CheckError)
    (found : CheckError) (result : Result B CheckError) (fails : given ≡ Err found) (again : result ≡ Err found) where
  pub refused_by_any : Checks (sharding_refusal is_empty catalog plan trees) given → (test : EmptyTest)
      → IsEmptiness test → Checks (sharding_refusal test catalog plan trees) result
  refused_by_any h test tells =
      subst (λ (refusal : Option CheckError). Checks refusal result) (sharding_by_any test tells catalog plan trees)
      (subst (Checks (sharding_refusal is_empty catalog plan trees)) (sym again)
      (subst (Checks (sharding_refusal is_empty catalog plan trees)) fails h))

  pub refused_memory : (Fact : Type 0) → NeedsMemoryOnlyIf OutOfMemory Fact given
      → NeedsMemoryOnlyIf OutOfMemory Fact result
  refused_memory Fact h =
      subst (NeedsMemoryOnlyIf OutOfMemory Fact) (sym again) (subst (NeedsMemoryOnlyIf OutOfMemory Fact) fails h)

  pub refused_wrong : AllCarryKnown catalog → Checks (sharding_refusal is_empty catalog plan trees) given
      → IfRefused result (ShardingIsWrong catalog plan trees)
  refused_wrong known h =
      let refused : found ≢ OutOfMemory → sharding_refusal is_empty catalog plan trees ≡ Some found =
      subst (Checks (sharding_refusal is_empty catalog plan trees)) fails h in
      subst (λ (result : Result B CheckError). IfRefused result (ShardingIsWrong catalog plan trees)) (sym again)
      (λ other. sharding_wrong catalog plan trees found known (refused other))
