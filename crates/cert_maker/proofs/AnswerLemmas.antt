-- A result that is right for a table and its shares is right for the catalog's table of its number.
use Rattle.std.proofs.Common.{◌≡◌, ℕ, ◌<◌, ◌+◌, List, [], ◌∷◌, length, refl, ◌∙◌}
use Rattle.std.specs.Prelude.{Some, slice_get, filter}
use Rattle.std.proofs.lemmas.Option.{slice_get_within}
use Rattle.filter_tree.specs.Datum.{Datum}
use Rattle.filter_tree.specs.Expr.{Expr}
use Rattle.filter_tree.specs.declared.table.Table.{Table}
use Rattle.pub_catalog.specs.Catalogs.{CatalogOf}
use Rattle.pub_catalog.specs.declared.catalog.Subscription.{Subscription}
use Rattle.replica_identity.specs.Passes.{passes}
use Rattle.replica_identity.specs.Plans.{PlanOf, TakesWhatPasses, plan_of}
use Rattle.replica_identity.proofs.PassingLemmas.{takes_what_passes}
use Rattle.shard_checker.specs.CatalogRefusal.{table_shares}
use Rattle.split_cert.specs.Where.{tree_view}
use Rattle.cert_maker.proofs.NumberingLemmas.{accepted_anyhow}
use Rattle.cert_maker.specs.Answers.{IsAnswer, numbers_from, owners_of}
use Rattle.cert_maker.specs.Owners.{IsRight}
use Rattle.cert_search.specs.Owners.{owners_from}
use Rattle.cert_maker.specs.declared.made.Made.{Made}
use Rattle.cert_maker.specs.declared.made.Made.TheVariants.{Cert, Counter, Unknown, TooLarge, OutOfMemory}

-- the owners among shares are the subscribers that get the row
owners_pass : (catalog : CatalogOf Expr) (plan : PlanOf) (number : ℕ) (row : List Datum)
    → TakesWhatPasses catalog plan → number < length catalog.tables → (first : ℕ) (subscriptions : List Subscription)
    →
    owners_from first (table_shares plan number first subscriptions) row
    ≡ filter (λ subscriber. passes catalog subscriber number row) (numbers_from first subscriptions)
owners_pass catalog plan number row own within first [] = refl
owners_pass catalog plan number row own within first (subscription ∷ subscriptions) =
    let rest = owners_pass catalog plan number row own within (first + 1) subscriptions in
    let same = own.same first number within row in
    cc

pub right_answer : (catalog : CatalogOf Expr) (plan : PlanOf) (number : ℕ) (table : Table) (made : Made)
    → slice_get catalog.tables number ≡ Some table
    → IsRight table (table_shares plan number 0 catalog.subscriptions) made → IsAnswer catalog plan number made
right_answer catalog plan number table (Cert cert) there right =
    record {
      cert = record {
        table = table;
        there = there;
        limits = right.cert.limits;
        accepted =
            λ test tells any. accepted_anyhow test 0 any table (table_shares plan number 0 catalog.subscriptions)
            (tree_view cert) (right.cert.accepted test tells);
      };
      counter = tt;
    }
right_answer catalog plan number table (Counter row owners) there right =
    let passing : plan ≡ plan_of catalog → owners.items ≡ owners_of catalog number row = λ own. right.counter.all
    ∙ owners_pass catalog plan number row (takes_what_passes catalog plan own)
    (slice_get_within catalog.tables number table there) 0 catalog.subscriptions in
    record {
      cert = tt;
      counter =
          record {
            table = table;
            there = there;
            valid = right.counter.valid;
            passing = passing;
            not_one =
                right.counter.not_one;
          };
    }
right_answer catalog plan number table Unknown there right = record { cert = tt; counter = tt }
right_answer catalog plan number table TooLarge there right = record { cert = tt; counter = tt }
right_answer catalog plan number table OutOfMemory there right = record { cert = tt; counter = tt }
