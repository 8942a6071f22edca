-- A checked catalog of the program as plain data: a catalog and its plan, whose sharding is known to be sound.
use Rattle.filter_tree.specs.Expr.{Expr}
use Rattle.pub_catalog.specs.CatalogView.{catalog_view}
use Rattle.pub_catalog.specs.Catalogs.{CatalogOf}
use Rattle.pub_catalog.specs.declared.catalog.Catalog.{Catalog}
use Rattle.replica_identity.specs.Plans.{PlanOf, plan_view}
use Rattle.replica_identity.specs.Setting.{setting_of}
use Rattle.table_changes.specs.Setting.{Setting}
use Rattle.replica_identity.specs.declared.shares.Plan.{Plan}
use Rattle.shard_checker.specs.declared.checked.Checked.{Checked}

pub record CheckedOf : Type 0 where
  pub catalog : CatalogOf Expr
  pub plan : PlanOf

abbrev pub checked_of : Catalog → Plan → CheckedOf
checked_of catalog plan = record { catalog = catalog_view catalog; plan = plan_view plan }

abbrev pub checked_view : Checked → CheckedOf
checked_view checked = checked_of checked.catalog checked.plan

-- the setting for changes of its tables
abbrev pub setting_in : CheckedOf → Setting
setting_in checked = setting_of checked.catalog checked.plan
