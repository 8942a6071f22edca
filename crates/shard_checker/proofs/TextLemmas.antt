-- A sharding is refused by the texts of its certificates just as by their trees.
use Rattle.std.proofs.Common.{◌≡◌, ◌≢◌, ℕ, ◌+◌, List, [], ◌∷◌, ◌++◌, map, Result, Ok, Err, refl, sym, ap, subst, ◌∙◌}
use Rattle.std.specs.Prelude.{Option, Some, None}
use Rattle.std.specs.Borrow.{Bor}
use Rattle.std.specs.Option.{option_map}
use Rattle.filter_tree.specs.Expr.{Expr}
use Rattle.filter_tree.specs.Memory.{NeedsMemoryOnlyIf}
use Rattle.pub_catalog.specs.CatalogEntries.{AllCarryKnown}
use Rattle.pub_catalog.specs.Catalogs.{CatalogOf}
use Rattle.replica_identity.specs.Plans.{PlanOf}
use Rattle.split_cert.specs.declared.error.CertError.{CertError}
use Rattle.split_cert.specs.Nodes.{Stream, nodes_in, preorder, AreNodesOf}
use Rattle.split_cert.specs.Text.{certificate_of}
use Rattle.split_cert.specs.Tree.{Tree}
use Rattle.split_cert.proofs.PreorderLemmas.{nodes_of_texts}
use Rattle.shard_checker.specs.CatalogRefusal.{declared_refusal, sharding_refusal}
use Rattle.shard_checker.specs.CatalogTruth.{ShardingIsWrong}
use Rattle.shard_checker.specs.Checks.{Checks}
use Rattle.shard_checker.specs.Emptiness.{EmptyTest, IsEmptiness}
use Rattle.shard_checker.specs.Texts.{texts_view, fault_at, first_text_error, text_fault, tree_in, trees_in, text_refusal, AreRead, ChecksText, IfCheckErr, IfTextRefused, TextNeedsMemoryOnlyIf}
use Rattle.shard_checker.specs.Candidates.{is_empty}
use Rattle.shard_checker.specs.Walking.{refusal_by_nodes}
use Rattle.shard_checker.specs.declared.error.CheckError.{CheckError}
use Rattle.shard_checker.specs.declared.error.CheckError.TheVariants.{OutOfMemory}
use Rattle.shard_checker.specs.declared.text_error.TextError.{TextError}
use Rattle.shard_checker.specs.declared.text_error.TextError.TheVariants.{Text, Check}
use Rattle.shard_checker.proofs.AnyTest.{sharding_by_any}
use Rattle.shard_checker.proofs.NodeLemmas.{sharding_by_nodes}
use Rattle.shard_checker.proofs.ReasonLemmas.{sharding_wrong}

-- ---- a text

fault_none : (line : ℕ) (found : Result Tree CertError) (stream : Stream) → AreNodesOf found stream
    → stream.end ≡ Ok tt → fault_at line found ≡ None
fault_none line (Ok tree) stream are ends = refl
fault_none line (Err fault) stream are ends = let never : Err fault ≡ Ok tt = sym are ∙ ends in absurd cc

fault_some : (line : ℕ) (found : Result Tree CertError) (stream : Stream) (fault : CertError)
    → AreNodesOf found stream → stream.end ≡ Err fault → fault_at line found ≡ Some (Text line fault)
fault_some line (Ok tree) stream fault are ends = let never : Ok tt ≡ Err fault = sym are.1 ∙ ends in absurd cc
fault_some line (Err other) stream fault are ends =
    let both : Err other ≡ Err fault = sym are ∙ ends in
    let same : other ≡ fault = cc in ap (λ (fault : CertError). Some (Text line fault)) same

pub read_whole : (line : ℕ) (text : List ℕ) → (nodes_in text).end ≡ Ok tt → fault_at line (certificate_of text) ≡ None
read_whole line text ends = fault_none line (certificate_of text) (nodes_in text) (nodes_of_texts text) ends

pub read_short : (line : ℕ) (text : List ℕ) (fault : CertError) → (nodes_in text).end ≡ Err fault
    → fault_at line (certificate_of text) ≡ Some (Text line fault)
read_short line text fault ends = fault_some line (certificate_of text) (nodes_in text) fault (nodes_of_texts text) ends

pub ruleset reads = (read_whole, read_short)

-- ---- texts that are read

none_first : (one next : Option TextError) → first_text_error one next ≡ None → (one ≡ None) × (next ≡ None)
none_first None next h = (refl, h)
none_first (Some error) next h = absurd cc

first_nodes : (line : ℕ) (found : Result Tree CertError) (stream : Stream) (trees : List Tree)
    → AreNodesOf found stream → fault_at line found ≡ None
    → stream.nodes ∷ map preorder trees ≡ map preorder (tree_in found ++ trees)
first_nodes line (Ok tree) stream trees are h = ap (λ nodes. nodes ∷ map preorder trees) are.0
first_nodes line (Err fault) stream trees are h = absurd cc

nodes_of_read : (line : ℕ) (texts : List (Bor (List ℕ))) → text_fault line (texts_view texts) ≡ None
    → map (λ text. (nodes_in text.now).nodes) texts ≡ map preorder (trees_in (texts_view texts))
nodes_of_read line [] h = refl
nodes_of_read line (text ∷ texts) h =
    let both = none_first (fault_at line (certificate_of text.now)) (text_fault (line + 1) (texts_view texts)) h in
    ap (λ lists. (nodes_in text.now).nodes ∷ lists) (nodes_of_read (line + 1) texts both.1)
    ∙ first_nodes line (certificate_of text.now) (nodes_in text.now) (trees_in (texts_view texts))
    (nodes_of_texts text.now) both.0

pub sharding_by_texts : (test : EmptyTest) (catalog : CatalogOf Expr) (plan : PlanOf) (texts : List (Bor (List ℕ)))
    → text_fault 1 (texts_view texts) ≡ None
    → refusal_by_nodes test catalog plan (map (λ text. (nodes_in text.now).nodes) texts)
    ≡ sharding_refusal test catalog plan (trees_in (texts_view texts))
sharding_by_texts test catalog plan texts h =
    ap (refusal_by_nodes test catalog plan) (nodes_of_read 1 texts h)
    ∙ sharding_by_nodes test catalog plan (trees_in (texts_view texts))

-- ---- what is returned

pub text_first : (test : EmptyTest) (catalog : CatalogOf Expr) (plan : PlanOf) (texts : List (List ℕ))
    (error : TextError) → text_fault 1 texts ≡ Some error → text_refusal test catalog plan texts ≡ Some error
text_first test catalog plan texts error h =
    ap (λ fault. first_text_error fault (option_map Check (sharding_refusal test catalog plan (trees_in texts)))) h

-- by any test, if all texts are read
pub text_by_any : (test : EmptyTest) → IsEmptiness test
    → (catalog : CatalogOf Expr) (plan : PlanOf) (texts : List (List ℕ)) (found : Option CheckError)
    → text_fault 1 texts ≡ None
    → sharding_refusal is_empty catalog plan (trees_in texts) ≡ found
    → text_refusal test catalog plan texts ≡ option_map Check found
text_by_any test tells catalog plan texts found read h =
    ap (λ fault. first_text_error fault (option_map Check (sharding_refusal test catalog plan (trees_in texts)))) read
    ∙ ap (option_map Check) (sym (sharding_by_any test tells catalog plan (trees_in texts)) ∙ h)

-- ---- the error of a text's fault

abbrev OfFault : List (List ℕ) → TextError → Type 0
OfFault texts error = AreRead {A = Unit {0}} texts (Err error)

one_fault : (texts : List (List ℕ)) (line : ℕ) (found : Result Tree CertError) (later : Option TextError)
    (error : TextError) → first_text_error (fault_at line found) later ≡ Some error
    → (later ≡ Some error → text_fault 1 texts ≡ Some error → OfFault texts error) → text_fault 1 texts ≡ Some error
    → OfFault texts error
one_fault texts line (Ok tree) later error h more first = more h first
one_fault texts line (Err fault) later error h more first =
    let same : Text line fault ≡ error = cc in
    subst (OfFault texts) same (first ∙ ap (λ (error : TextError). Some error) (sym same))

some_fault : (texts : List (List ℕ)) (line : ℕ) (left : List (List ℕ)) (error : TextError)
    → text_fault line left ≡ Some error → text_fault 1 texts ≡ Some error → OfFault texts error
some_fault texts line [] error h first = absurd cc
some_fault texts line (text ∷ left) error h first =
    one_fault texts line (certificate_of text) (text_fault (line + 1) left) error h
    (some_fault texts (line + 1) left error) first

-- it names the text, and so it is not a refusal
fault_is : (texts : List (List ℕ)) (error : TextError) → text_fault 1 texts ≡ Some error → OfFault texts error
fault_is texts (Text line fault) h = h
fault_is texts (Check refusal) h = some_fault texts 1 texts (Check refusal) h h

pub fault_tells : {A : Type 0} (texts : List (List ℕ)) (result : Result A TextError) (error : TextError)
    → result ≡ Err error → text_fault 1 texts ≡ Some error → AreRead texts result
fault_tells texts (Ok value) error e h = absurd cc
fault_tells texts (Err (Text line fault)) error e h = let same : Text line fault ≡ error = cc in
    fault_is texts (Text line fault) (h ∙ ap (λ (error : TextError). Some error) (sym same))
fault_tells texts (Err (Check refusal)) error e h = let same : Check refusal ≡ error = cc in
    fault_is texts (Check refusal) (h ∙ ap (λ (error : TextError). Some error) (sym same))

pub fault_is_no_refusal : {A : Type 0} (texts : List (List ℕ)) (result : Result A TextError) (error : TextError)
    (Fact : CheckError → Type 0) → result ≡ Err error → text_fault 1 texts ≡ Some error → IfCheckErr result Fact
fault_is_no_refusal texts (Ok value) error Fact e h = tt
fault_is_no_refusal texts (Err (Text line fault)) error Fact e h = tt
fault_is_no_refusal texts (Err (Check refusal)) error Fact e h =
    let same : Check refusal ≡ error = cc in
    let here : text_fault 1 texts ≡ Some (Check refusal) = h ∙ ap (λ (error : TextError). Some error) (sym same) in
    let none : text_fault 1 texts ≡ None = fault_is texts (Check refusal) here in
    let never : Some (Check refusal) ≡ None = sym here ∙ none in absurd cc

-- ---- the error of a check

-- all texts are read, and the check of their trees found an error
module _ {A B : Type 0} (catalog : CatalogOf Expr) (plan : PlanOf) (texts : List (List ℕ))
    (given : Result A CheckError) (found : CheckError) (result : Result B TextError) (fails : given ≡ Err found)
    (refused : result ≡ Err (Check found)) where
  found_by : Checks (sharding_refusal is_empty catalog plan (trees_in texts)) given → found ≢ OutOfMemory
      → sharding_refusal is_empty catalog plan (trees_in texts) ≡ Some found
  found_by h = subst (Checks (sharding_refusal is_empty catalog plan (trees_in texts))) fails h

  pub refused_by_any : text_fault 1 texts ≡ None
      → Checks (sharding_refusal is_empty catalog plan (trees_in texts)) given → (test : EmptyTest) → IsEmptiness test
      → ChecksText (text_refusal test catalog plan texts) result
  refused_by_any read h test tells =
      let one : ChecksText {A = B} (text_refusal test catalog plan texts) (Err (Check found)) =
      λ other. text_by_any test tells catalog plan texts (Some found) read
      (found_by h (λ same. other (ap Check same))) in
      subst (ChecksText (text_refusal test catalog plan texts)) (sym refused) one

  pub refused_read : text_fault 1 texts ≡ None → AreRead texts result
  refused_read read = subst (AreRead texts) (sym refused) read

  pub refused_wrong : AllCarryKnown catalog → Checks (sharding_refusal is_empty catalog plan (trees_in texts)) given
      → IfTextRefused result (ShardingIsWrong catalog plan (trees_in texts))
  refused_wrong known h =
      subst (λ (result : Result B TextError). IfTextRefused result (ShardingIsWrong catalog plan (trees_in texts)))
      (sym refused)
      (λ other. sharding_wrong catalog plan (trees_in texts) found known (found_by h other))

  pub refused_memory : NeedsMemoryOnlyIf OutOfMemory (declared_refusal catalog ≡ None) given
      → TextNeedsMemoryOnlyIf (declared_refusal catalog ≡ None) result
  refused_memory h =
      subst (TextNeedsMemoryOnlyIf (declared_refusal catalog ≡ None)) (sym refused)
      (subst (NeedsMemoryOnlyIf OutOfMemory (declared_refusal catalog ≡ None)) fails h)
