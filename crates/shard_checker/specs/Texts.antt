-- The check of a sharding by the texts of certificates, one for each table: the first text that is not read comes
-- before every refusal. Certificates are specific to this project, and no section of PostgreSQL's documentation
-- describes them.
use Rattle.std.specs.Prelude.{◌≡◌, ◌≢◌, ℕ, ◌+◌, List, [], ◌∷◌, flat_map, map, Option, Some, None, Result, Ok, Err}
use Rattle.std.specs.Borrow.{Bor}
use Rattle.std.specs.Option.{option_map}
use Rattle.filter_tree.specs.Expr.{Expr}
use Rattle.pub_catalog.specs.Catalogs.{CatalogOf}
use Rattle.replica_identity.specs.Plans.{PlanOf}
use Rattle.split_cert.specs.Text.{certificate_of}
use Rattle.split_cert.specs.Tree.{Tree}
use Rattle.split_cert.specs.declared.error.CertError.{CertError}
use Rattle.shard_checker.specs.CatalogRefusal.{sharding_refusal}
use Rattle.shard_checker.specs.Emptiness.{EmptyTest}
use Rattle.shard_checker.specs.declared.error.CheckError.{CheckError}
use Rattle.shard_checker.specs.declared.error.CheckError.TheVariants.{OutOfMemory}
use Rattle.shard_checker.specs.declared.text_error.TextError.{TextError}
use Rattle.shard_checker.specs.declared.text_error.TextError.TheVariants.{Text, Check}

abbrev pub texts_view : List (Bor (List ℕ)) → List (List ℕ)
texts_view texts = map (λ text. text.now) texts

-- ---- what is not read

-- the fault of the text of this line
abbrev pub fault_at : ℕ → Result Tree CertError → Option TextError
fault_at line (Ok tree) = None
fault_at line (Err fault) = Some (Text line fault)

abbrev pub first_text_error : Option TextError → Option TextError → Option TextError
first_text_error None next = next
first_text_error (Some error) next = Some error

-- the first text that is not read; the first of these texts has this line
abbrev pub text_fault : ℕ → List (List ℕ) → Option TextError
text_fault line [] = None
text_fault line (text ∷ texts) = first_text_error (fault_at line (certificate_of text)) (text_fault (line + 1) texts)

-- ---- what is refused

abbrev pub tree_in : Result Tree CertError → List Tree
tree_in (Ok tree) = tree ∷ []
tree_in (Err fault) = []

-- the certificates of the texts that are read
abbrev pub trees_in : List (List ℕ) → List Tree
trees_in texts = flat_map (λ text. tree_in (certificate_of text)) texts

-- the first text that is not read, with lines counted from 1, or otherwise the first reason to refuse the sharding
abbrev pub text_refusal : EmptyTest → CatalogOf Expr → PlanOf → List (List ℕ) → Option TextError
text_refusal is_empty catalog plan texts =
    first_text_error (text_fault 1 texts) (option_map Check (sharding_refusal is_empty catalog plan (trees_in texts)))

-- ---- what a call returns

-- the result is the fault
abbrev pub FindsText : {A : Type 0} → Option TextError → Result A TextError → Type 0
FindsText fault (Ok value) = fault ≡ None
FindsText fault (Err error) = fault ≡ Some error

-- the result is the refusal, or out of memory, which may come instead of any other result
abbrev pub ChecksText : {A : Type 0} → Option TextError → Result A TextError → Type 0
ChecksText refusal (Ok value) = refusal ≡ None
ChecksText refusal (Err error) = error ≢ Check OutOfMemory → refusal ≡ Some error

-- all texts are read, or the first that is not read is reported
abbrev pub AreRead : {A : Type 0} → List (List ℕ) → Result A TextError → Type 0
AreRead texts (Ok value) = text_fault 1 texts ≡ None
AreRead texts (Err (Text line fault)) = text_fault 1 texts ≡ Some (Text line fault)
AreRead texts (Err (Check error)) = text_fault 1 texts ≡ None

-- a fact about the error of a check, if there is one
abbrev pub IfCheckErr : {A : Type 0} → Result A TextError → (CheckError → Type 0) → Type 0
IfCheckErr (Ok value) Fact = Unit {0}
IfCheckErr (Err (Text line fault)) Fact = Unit {0}
IfCheckErr (Err (Check error)) Fact = Fact error

-- memory runs out only if the fact holds
abbrev pub TextNeedsMemoryOnlyIf : {A : Type 0} → Type 0 → Result A TextError → Type 0
TextNeedsMemoryOnlyIf Fact result = IfCheckErr result (λ error. error ≡ OutOfMemory → Fact)

-- a fact about the refusal, if there is one
abbrev pub IfTextRefused : {A : Type 0} → Result A TextError → (CheckError → Type 0) → Type 0
IfTextRefused result Fact = IfCheckErr result (λ error. error ≢ OutOfMemory → Fact error)
