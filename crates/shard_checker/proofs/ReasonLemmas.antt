-- What the first refusal of a sharding says about what it names is true.
use Rattle.std.proofs.Common.{◌≡◌, ℕ, suc, ◌+◌, true, List, [], ◌∷◌, length, refl, sym, ◌∙◌, ap, subst, inl, inr}
use Rattle.std.specs.Prelude.{Option, Some, None, ◌==◌, Contains, slice_get}
use Rattle.std.specs.Cmp.{unsigned_Decides}
use Rattle.filter_tree.specs.Expr.{Expr, AtomOf}
use Rattle.filter_tree.specs.Paths.{Path}
use Rattle.filter_tree.specs.declared.filter.Term.{Term}
use Rattle.filter_tree.specs.declared.table.Table.{Table}
use Rattle.pub_catalog.specs.CatalogEntries.{AllCarryKnown}
use Rattle.pub_catalog.specs.Catalogs.{CatalogOf, PublicationOf, EntryOf}
use Rattle.pub_catalog.specs.declared.catalog.Subscription.{Subscription}
use Rattle.replica_identity.specs.Plans.{PlanOf}
use Rattle.replica_identity.specs.Shares.{ShareOf}
use Rattle.split_cert.specs.Tree.{Tree, Split, Owner, Empty, NeverNull, nodes}
use Rattle.shard_checker.specs.CatalogRefusal.{publishing_refusal, identity_refusal, covering_refusal, table_shares, certificates_refusal, count_refusal, catalog_refusal, sharding_refusal}
use Rattle.shard_checker.specs.CatalogTruth.{HasWrongCertificate, ShardingIsWrong}
use Rattle.shard_checker.specs.Refusal.{Subject, later, earliest, first_refusal}
use Rattle.shard_checker.specs.Sound.{is_taken}
use Rattle.shard_checker.specs.Candidates.{is_empty}
use Rattle.shard_checker.specs.Truth.{EmptyIsWrong, NeverNullIsWrong, OwnerIsWrong, SplitIsWrong, IsWrong}
use Rattle.shard_checker.specs.declared.error.CheckError.{CheckError}
use Rattle.shard_checker.specs.declared.error.CheckError.TheVariants.{PublishMissing, NoIdentity, NotCovered, CertCount, BadIndex, NotEmpty, MayBeNull, NotOwner, SecondOwner, OutOfMemory}
use Rattle.shard_checker.proofs.Testing.{clash}
use Rattle.shard_checker.proofs.TruthLemmas.{failed, certificate_wrong}
use Rattle.table_changes.proofs.TableLemmas.{at_zero, zero_more, at_next}
use Rattle.shard_checker.proofs.CatalogReasons.{by_first, unpublished, first_lacks_identity, EntryIsWrong, publications_wrong}

-- ---- certificates

record HasRefusedCertificate (plan : PlanOf) (subscriptions : List Subscription) (number : ℕ) (tables : List Table)
    (trees : List Tree) (error : CheckError) : Type 0 where
  place : ℕ
  table : Table
  there : slice_get tables place ≡ Some table
  tree : Tree
  given : slice_get trees place ≡ Some tree
  refused : first_refusal is_empty (number + place) table (table_shares plan (number + place) 0 subscriptions) tree
      ≡ Some error

refused_certificate : (plan : PlanOf) (subscriptions : List Subscription) (number : ℕ) (tables : List Table)
    (trees : List Tree) (error : CheckError)
    → certificates_refusal is_empty plan subscriptions number tables trees ≡ Some error
    → HasRefusedCertificate plan subscriptions number tables trees error
refused_certificate plan subscriptions number [] trees error h = absurd cc
refused_certificate plan subscriptions number (table ∷ tables) [] error h = absurd cc
refused_certificate plan subscriptions number (table ∷ tables) (tree ∷ trees) error h =
    by_first (first_refusal is_empty number table (table_shares plan number 0 subscriptions) tree)
    (certificates_refusal is_empty plan subscriptions (number + 1) tables trees) error h
    (λ here. record {
      place = 0;
      table = table;
      there = refl;
      tree = tree;
      given = refl;
      refused = subst (λ n. first_refusal is_empty n table (table_shares plan n 0 subscriptions) tree ≡ Some error)
          (sym (at_zero number)) here;
    })
    (λ there. let rest = refused_certificate plan subscriptions (number + 1) tables trees error there in record {
      place = suc rest.place;
      table = rest.table;
      there = rest.there;
      tree = rest.tree;
      given = rest.given;
      refused = subst (λ n. first_refusal is_empty n rest.table (table_shares plan n 0 subscriptions) rest.tree
          ≡ Some error) (sym (at_next number rest.place)) rest.refused;
    })

-- the error names a node of the certificate of the table with this number
abbrev NamesNode : ℕ → CheckError → Type 0
NamesNode number (BadIndex table node) = number ≡ table
NamesNode number (NotEmpty table node) = number ≡ table
NamesNode number (MayBeNull table node) = number ≡ table
NamesNode number (NotOwner table node) = number ≡ table
NamesNode number (SecondOwner table node subscriber) = number ≡ table
NamesNode number _ = ⊥

empty_names : (subject : Subject) (path : Path) (node : ℕ) (found : Option Term) (error : CheckError)
    → EmptyIsWrong subject path node found error → NamesNode subject.table error
empty_names subject path node None error h = subst (NamesNode subject.table) (sym h) refl
empty_names subject path node (Some term) error h = subst (NamesNode subject.table) (sym h.0) refl

never_null_names : (subject : Subject) (path : Path) (node : ℕ) (found : Option AtomOf) (error : CheckError)
    → NeverNullIsWrong subject path node found error → NamesNode subject.table error
never_null_names subject path node None error h = subst (NamesNode subject.table) (sym h) refl
never_null_names subject path node (Some atom) error h = subst (NamesNode subject.table) (sym h.0) refl

owner_names : (subject : Subject) (path : Path) (node owner : ℕ) (found : Option ShareOf) (error : CheckError)
    → OwnerIsWrong subject path node owner found error → NamesNode subject.table error
owner_names subject path node owner None error h = subst (NamesNode subject.table) (sym h) refl
owner_names subject path node owner (Some share) error (inl h) = subst (NamesNode subject.table) (sym h.0) refl
owner_names subject path node owner (Some share) error (inr h) = subst (NamesNode subject.table) (sym h.is) refl

split_names : (subject : Subject) (path : Path) (node : ℕ) (found : Option AtomOf)
    (if_true if_false if_null : Path → Type 0) (error : CheckError)
    → ((longer : Path) → if_true longer → NamesNode subject.table error)
    → ((longer : Path) → if_false longer → NamesNode subject.table error)
    → ((longer : Path) → if_null longer → NamesNode subject.table error)
    → SplitIsWrong subject path node found if_true if_false if_null error → NamesNode subject.table error
split_names subject path node None if_true if_false if_null error at_true at_false at_null h =
    subst (NamesNode subject.table) (sym h) refl
split_names subject path node (Some atom) if_true if_false if_null error at_true at_false at_null (inl h) = at_true _ h
split_names subject path node (Some atom) if_true if_false if_null error at_true at_false at_null (inr (inl h)) =
    at_false _ h
split_names subject path node (Some atom) if_true if_false if_null error at_true at_false at_null (inr (inr h)) =
    at_null _ h

names_node : (subject : Subject) (tree : Tree) (path : Path) (node : ℕ) (error : CheckError)
    → IsWrong subject tree path node error → NamesNode subject.table error
names_node subject (Split index if_true if_false if_null) path node error h =
    split_names subject path node (slice_get subject.atoms index)
    (λ longer. IsWrong subject if_true longer (later node 1) error)
    (λ longer. IsWrong subject if_false longer (later (later node 1) (nodes if_true)) error)
    (λ longer. IsWrong subject if_null longer (later (later (later node 1) (nodes if_true)) (nodes if_false)) error)
    error
    (λ longer wrong. names_node subject if_true longer (later node 1) error wrong)
    (λ longer wrong. names_node subject if_false longer (later (later node 1) (nodes if_true)) error wrong)
    (λ longer wrong. names_node subject if_null longer (later (later (later node 1) (nodes if_true)) (nodes if_false))
    error wrong)
    h
names_node subject (Owner subscriber) path node error h =
    owner_names subject path node subscriber (slice_get subject.shares subscriber) error h
names_node subject (Empty term) path node error h = empty_names subject path node (slice_get subject.terms term) error h
names_node subject (NeverNull index) path node error h =
    never_null_names subject path node (slice_get subject.atoms index) error h

wrong_by_table : (catalog : CatalogOf Expr) (plan : PlanOf) (trees : List Tree) (number : ℕ) (error : CheckError)
    → NamesNode number error
    → HasWrongCertificate catalog plan trees number error → ShardingIsWrong catalog plan trees error
wrong_by_table catalog plan trees number (BadIndex table node) names h =
    subst (λ n. HasWrongCertificate catalog plan trees n (BadIndex table node)) names h
wrong_by_table catalog plan trees number (NotEmpty table node) names h =
    subst (λ n. HasWrongCertificate catalog plan trees n (NotEmpty table node)) names h
wrong_by_table catalog plan trees number (MayBeNull table node) names h =
    subst (λ n. HasWrongCertificate catalog plan trees n (MayBeNull table node)) names h
wrong_by_table catalog plan trees number (NotOwner table node) names h =
    subst (λ n. HasWrongCertificate catalog plan trees n (NotOwner table node)) names h
wrong_by_table catalog plan trees number (SecondOwner table node subscriber) names h =
    subst (λ n. HasWrongCertificate catalog plan trees n (SecondOwner table node subscriber)) names h
wrong_by_table catalog plan trees number (PublishMissing publication operation) names h = absurd names
wrong_by_table catalog plan trees number (NoIdentity table) names h = absurd names
wrong_by_table catalog plan trees number (NotCovered publication table column) names h = absurd names
wrong_by_table catalog plan trees number CertCount names h = absurd names
wrong_by_table catalog plan trees number OutOfMemory names h = absurd names

-- ---- the first of all

publishing_wrong : (catalog : CatalogOf Expr) (plan : PlanOf) (trees : List Tree) (error : CheckError)
    → publishing_refusal catalog.subscriptions 0 catalog.publications ≡ Some error
    → ShardingIsWrong catalog plan trees error
publishing_wrong catalog plan trees error h =
    let found = unpublished catalog.subscriptions 0 catalog.publications error h in
    let is : error ≡ PublishMissing found.place found.operation = found.is
    ∙ ap (λ n. PublishMissing n found.operation) (zero_more found.place) in
    subst (ShardingIsWrong catalog plan trees) (sym is) (record {
      publication = found.publication;
      there = found.there;
      taken = subst (λ n. is_taken catalog.subscriptions n ≡ true) (zero_more found.place) found.taken;
      missing = found.missing;
    })

identity_wrong : (catalog : CatalogOf Expr) (plan : PlanOf) (trees : List Tree) (error : CheckError)
    → identity_refusal 0 catalog.tables ≡ Some error → ShardingIsWrong catalog plan trees error
identity_wrong catalog plan trees error h =
    let found = first_lacks_identity 0 catalog.tables error h in
    let is : error ≡ NoIdentity found.place = found.is ∙ ap NoIdentity (zero_more found.place) in
    subst (ShardingIsWrong catalog plan trees) (sym is)
    (record { table = found.table; there = found.there; not_apart = found.not_apart })

-- a subscription names the publication with this number, and an entry of it is wrong
entry_is_wrong : (catalog : CatalogOf Expr) (plan : PlanOf) (trees : List Tree) (error : CheckError) (number : ℕ)
    (publication : PublicationOf Expr)
    → slice_get catalog.publications number ≡ Some publication → is_taken catalog.subscriptions number ≡ true
    → (entry : EntryOf Expr) → Contains publication.entries entry
    → EntryIsWrong catalog.tables number entry error → ShardingIsWrong catalog plan trees error
entry_is_wrong catalog plan trees error number publication there taken entry has_entry wrong =
    subst (ShardingIsWrong catalog plan trees) (sym wrong.is)
    (record {
      publication = publication;
      there = there;
      taken = taken;
      entry = entry;
      has_entry =
          has_entry;
      uncovered = wrong.uncovered_by;
    })

covering_wrong : (catalog : CatalogOf Expr) (plan : PlanOf) (trees : List Tree) (error : CheckError)
    → AllCarryKnown catalog
    → covering_refusal catalog.tables catalog.subscriptions 0 catalog.publications ≡ Some error
    → ShardingIsWrong catalog plan trees error
covering_wrong catalog plan trees error known h =
    let found = publications_wrong catalog.tables catalog.subscriptions 0 catalog.publications error known h in
    let entry = found.wrong_entry in
    entry_is_wrong catalog plan trees error found.place found.publication found.there
    (subst (λ n. is_taken catalog.subscriptions n ≡ true) (zero_more found.place) found.taken)
    entry.entry entry.has_entry
    (subst (λ n. EntryIsWrong catalog.tables n entry.entry error) (zero_more found.place) entry.wrong)

count_wrong : (catalog : CatalogOf Expr) (plan : PlanOf) (trees : List Tree) (error : CheckError)
    → count_refusal (length catalog.tables) (length trees) ≡ Some error
    → ShardingIsWrong catalog plan trees error
count_wrong catalog plan trees error h =
    let both = failed (length trees == length catalog.tables) CertCount error h in
    subst (ShardingIsWrong catalog plan trees) (sym both.1)
    (λ same. clash (length trees == length catalog.tables)
    ((unsigned_Decides (length trees) (length catalog.tables)).1 same) both.0)

certificates_wrong : (catalog : CatalogOf Expr) (plan : PlanOf) (trees : List Tree) (error : CheckError)
    → certificates_refusal is_empty plan catalog.subscriptions 0 catalog.tables trees ≡ Some error
    → ShardingIsWrong catalog plan trees error
certificates_wrong catalog plan trees error h =
    let found = refused_certificate plan catalog.subscriptions 0 catalog.tables trees error h in
    let shares = table_shares plan found.place 0 catalog.subscriptions in
    let refused : first_refusal is_empty found.place found.table shares found.tree ≡ Some error =
    subst (λ n. first_refusal is_empty n found.table (table_shares plan n 0 catalog.subscriptions) found.tree
    ≡ Some error) (zero_more found.place) found.refused in
    let wrong = certificate_wrong found.place found.table shares found.tree error refused in
    wrong_by_table catalog plan trees found.place error (names_node _ found.tree [] 0 error wrong)
    (record { table = found.table; there = found.there; tree = found.tree; given = found.given; wrong = wrong })

pub sharding_wrong : (catalog : CatalogOf Expr) (plan : PlanOf) (trees : List Tree) (error : CheckError)
    → AllCarryKnown catalog
    → sharding_refusal is_empty catalog plan trees ≡ Some error → ShardingIsWrong catalog plan trees error
sharding_wrong catalog plan trees error known h =
    by_first (catalog_refusal catalog)
    (earliest (count_refusal (length catalog.tables) (length trees))
    (certificates_refusal is_empty plan catalog.subscriptions 0 catalog.tables trees)) error h
    (λ of_catalog. by_first (publishing_refusal catalog.subscriptions 0 catalog.publications)
    (earliest (identity_refusal 0 catalog.tables)
    (covering_refusal catalog.tables catalog.subscriptions 0 catalog.publications)) error of_catalog
    (λ publishing. publishing_wrong catalog plan trees error publishing)
    (λ rest. by_first (identity_refusal 0 catalog.tables)
    (covering_refusal catalog.tables catalog.subscriptions 0 catalog.publications) error rest
    (λ identity. identity_wrong catalog plan trees error identity)
    (λ covering. covering_wrong catalog plan trees error known covering)))
    (λ of_certificates. by_first (count_refusal (length catalog.tables) (length trees))
    (certificates_refusal is_empty plan catalog.subscriptions 0 catalog.tables trees) error of_certificates
    (λ count. count_wrong catalog plan trees error count)
    (λ certificates. certificates_wrong catalog plan trees error certificates))
