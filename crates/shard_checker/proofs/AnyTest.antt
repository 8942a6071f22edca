-- All tests that hold exactly for the terms for which no value is left lead to the same refusals.
use Rattle.std.proofs.Common.{◌≡◌, ℕ, ◌+◌, Bool, List, [], ◌∷◌, ◌++◌, length, refl, sym, ◌∙◌, ap, subst}
use Rattle.std.specs.Prelude.{Option, Some, None, Result, if◌then◌else◌, slice_get}
use Rattle.filter_tree.specs.Expr.{Expr, AtomOf}
use Rattle.filter_tree.specs.Paths.{Path}
use Rattle.filter_tree.specs.declared.filter.Term.{Term}
use Rattle.filter_tree.specs.declared.table.Column.{Column}
use Rattle.filter_tree.specs.declared.table.Table.{Table}
use Rattle.filter_tree.specs.declared.tri.Tri.TheVariants.{True, False, Null}
use Rattle.pub_catalog.specs.Catalogs.{CatalogOf}
use Rattle.pub_catalog.specs.declared.catalog.Subscription.{Subscription}
use Rattle.replica_identity.specs.Plans.{PlanOf}
use Rattle.replica_identity.specs.Shares.{ShareOf}
use Rattle.split_cert.specs.Tree.{Tree, Split, Owner, Empty, NeverNull, nodes}
use Rattle.shard_checker.specs.CatalogRefusal.{certificate_refusal, certificates_refusal, catalog_refusal, count_refusal, sharding_refusal}
use Rattle.shard_checker.specs.Checks.{Checks}
use Rattle.shard_checker.specs.Emptiness.{EmptyTest, IsEmptiness}
use Rattle.shard_checker.specs.Refusal.{Subject, subject_of, later, earliest, empty_refusal, split_refusal, refusal, first_refusal}
use Rattle.shard_checker.specs.Candidates.{is_empty}
use Rattle.shard_checker.specs.declared.error.CheckError.{CheckError}
use Rattle.shard_checker.specs.declared.error.CheckError.TheVariants.{NotEmpty}
use Rattle.shard_checker.proofs.EmptyLemmas.{decided_by_values}
use Rattle.filter_tree.proofs.Tests.{by_test}

-- two tests that always give the same answer
abbrev Alike : EmptyTest → EmptyTest → Type 0
Alike one other = (columns : List Column) (term : Term) (path : Path) → one columns term path ≡ other columns term path

tests_alike : (one other : EmptyTest) → IsEmptiness one → IsEmptiness other → Alike one other
tests_alike one other tells also columns term path =
    by_test (one columns term path)
    (λ empty. empty ∙ sym ((also.empty columns term path).1 ((tells.empty columns term path).0 empty)))
    (λ rest. rest ∙ sym ((also.others columns term path).1 ((tells.others columns term path).0 rest)))

empty_alike : (one other : EmptyTest) → Alike one other
    → (subject : Subject) (path : Path) (node : ℕ) (found : Option Term)
    → empty_refusal one subject path node found ≡ empty_refusal other subject path node found
empty_alike one other same subject path node None = refl
empty_alike one other same subject path node (Some term) =
    ap (λ (b : Bool). if b then None else Some (NotEmpty subject.table node)) (same subject.columns term path)

three_alike : (a b c d e f : Option CheckError) → a ≡ d → b ≡ e → c ≡ f
    → earliest a (earliest b c) ≡ earliest d (earliest e f)
three_alike a b c d e f p q r =
    ap (λ x. earliest x (earliest b c)) p ∙ ap (λ x. earliest d (earliest x c)) q
    ∙ ap (λ x. earliest d (earliest e x)) r

split_alike : (subject : Subject) (path : Path) (node : ℕ) (found : Option AtomOf)
    (a b c d e f : Path → Option CheckError)
    → ((longer : Path) → a longer ≡ d longer) → ((longer : Path) → b longer ≡ e longer)
    → ((longer : Path) → c longer ≡ f longer)
    → split_refusal subject path node found a b c ≡ split_refusal subject path node found d e f
split_alike subject path node None a b c d e f p q r = refl
split_alike subject path node (Some atom) a b c d e f p q r =
    three_alike (a (path ++ (atom, True) ∷ [])) (b (path ++ (atom, False) ∷ [])) (c (path ++ (atom, Null) ∷ []))
    (d (path ++ (atom, True) ∷ [])) (e (path ++ (atom, False) ∷ []))
    (f (path ++ (atom, Null) ∷ [])) (p (path ++ (atom, True) ∷ [])) (q (path ++ (atom, False) ∷ []))
    (r (path ++ (atom, Null) ∷ []))

refusal_alike : (one other : EmptyTest) → Alike one other → (subject : Subject) (tree : Tree) (path : Path) (node : ℕ)
    → refusal one subject tree path node ≡ refusal other subject tree path node
refusal_alike one other same subject (Split index if_true if_false if_null) path node =
    split_alike subject path node (slice_get subject.atoms index)
    (λ longer. refusal one subject if_true longer (later node 1))
    (λ longer. refusal one subject if_false longer (later (later node 1) (nodes if_true)))
    (λ longer. refusal one subject if_null longer (later (later (later node 1) (nodes if_true)) (nodes if_false)))
    (λ longer. refusal other subject if_true longer (later node 1))
    (λ longer. refusal other subject if_false longer (later (later node 1) (nodes if_true)))
    (λ longer. refusal other subject if_null longer (later (later (later node 1) (nodes if_true)) (nodes if_false)))
    (λ longer. refusal_alike one other same subject if_true longer (later node 1))
    (λ longer. refusal_alike one other same subject if_false longer (later (later node 1) (nodes if_true)))
    (λ longer. refusal_alike one other same subject if_null longer
    (later (later (later node 1) (nodes if_true)) (nodes if_false)))
refusal_alike one other same subject (Owner subscriber) path node = refl
refusal_alike one other same subject (Empty term) path node =
    empty_alike one other same subject path node (slice_get subject.terms term)
refusal_alike one other same subject (NeverNull index) path node = refl

certificates_alike : (one other : EmptyTest) → Alike one other
    → (plan : PlanOf) (subscriptions : List Subscription) (number : ℕ) (tables : List Table) (trees : List Tree)
    → certificates_refusal one plan subscriptions number tables trees
    ≡ certificates_refusal other plan subscriptions number tables trees
certificates_alike one other same plan subscriptions number [] trees = refl
certificates_alike one other same plan subscriptions number (table ∷ tables) [] = refl
certificates_alike one other same plan subscriptions number (table ∷ tables) (tree ∷ trees) =
    ap (λ x. earliest x (certificates_refusal one plan subscriptions (number + 1) tables trees))
    (refusal_alike one other same _ tree [] 0)
    ∙ ap (λ x. earliest (certificate_refusal other plan subscriptions number table tree) x)
    (certificates_alike one other same plan subscriptions (number + 1) tables trees)

-- ---- what the program's test finds, each equivalent test finds

pub first_by_any : (test : EmptyTest) → IsEmptiness test
    → (number : ℕ) (table : Table) (shares : List ShareOf) (tree : Tree)
    → first_refusal is_empty number table shares tree ≡ first_refusal test number table shares tree
first_by_any test tells number table shares tree =
    refusal_alike is_empty test (tests_alike is_empty test decided_by_values tells)
    (subject_of number table.columns shares) tree [] 0

pub sharding_by_any : (test : EmptyTest) → IsEmptiness test
    → (catalog : CatalogOf Expr) (plan : PlanOf) (trees : List Tree)
    → sharding_refusal is_empty catalog plan trees ≡ sharding_refusal test catalog plan trees
sharding_by_any test tells catalog plan trees =
    ap (λ x. earliest (catalog_refusal catalog) (earliest (count_refusal (length catalog.tables) (length trees)) x))
    (certificates_alike is_empty test (tests_alike is_empty test decided_by_values tells) plan catalog.subscriptions 0
    catalog.tables trees)

pub none_by_any : (catalog : CatalogOf Expr) (plan : PlanOf) (trees : List Tree)
    → sharding_refusal is_empty catalog plan trees ≡ None
    → (test : EmptyTest) → IsEmptiness test → sharding_refusal test catalog plan trees ≡ None
none_by_any catalog plan trees h test tells = sym (sharding_by_any test tells catalog plan trees) ∙ h

pub some_by_any : (catalog : CatalogOf Expr) (plan : PlanOf) (trees : List Tree) (error : CheckError)
    → sharding_refusal is_empty catalog plan trees ≡ Some error
    → (test : EmptyTest) → IsEmptiness test → sharding_refusal test catalog plan trees ≡ Some error
some_by_any catalog plan trees error h test tells = sym (sharding_by_any test tells catalog plan trees) ∙ h

pub checks_by_any : (number : ℕ) (table : Table) (shares : List ShareOf) (tree : Tree)
    (result : Result (Unit {0}) CheckError) → Checks (first_refusal is_empty number table shares tree) result
    → (test : EmptyTest) → IsEmptiness test → Checks (first_refusal test number table shares tree) result
checks_by_any number table shares tree result h test tells =
    subst (λ (refusal : Option CheckError). Checks refusal result) (first_by_any test tells number table shares tree)
    h
