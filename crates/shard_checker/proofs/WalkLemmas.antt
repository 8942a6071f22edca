-- Walks over nodes: one after another, over a tree's nodes and over a text's.
use Rattle.std.proofs.Common.{◌≡◌, ◌≢◌, ℕ, Bool, true, false, List, [], ◌∷◌, ◌++◌, refl, sym, ap, subst, ◌∙◌, append_assoc}
use Rattle.std.specs.Prelude.{Option, Some, None}
use Rattle.std.proofs.lemmas.List.{append-nil}
use Rattle.filter_tree.specs.Paths.{Path}
use Rattle.split_cert.specs.declared.node.Node.{Node}
use Rattle.shard_checker.specs.Emptiness.{EmptyTest}
use Rattle.shard_checker.specs.Refusal.{Subject, later, earliest}
use Rattle.shard_checker.specs.Walking.{Place, place_at, beginning, path_unless, node_refusal, path_after, walk, walk_from, Passes, Stops}
use Rattle.shard_checker.specs.declared.error.CheckError.{CheckError}
use Rattle.shard_checker.specs.declared.error.CheckError.TheVariants.{OutOfMemory}

-- ---- a node

none_due : (is_empty : EmptyTest) (subject : Subject) (nodes : List Node) (number : ℕ)
    → walk is_empty subject nodes None number ≡ None
none_due is_empty subject [] number = refl
none_due is_empty subject (node ∷ nodes) number = refl

pub first_one_of : (one two three : Option CheckError)
    → earliest (earliest one two) three ≡ earliest one (earliest two three)
first_one_of None two three = refl
first_one_of (Some error) two three = refl

pub over_passes : (is_empty : EmptyTest) (subject : Subject) (node : Node) (over : Bool) (path : Path) (number : ℕ)
    (due : Option CheckError) → over ≡ true
    → Passes is_empty subject (node ∷ []) (place_at (path_unless over path) number due) []
    (place_at (path_unless over path) number due)
over_passes is_empty subject node true path number due e =
    record { each = λ more. ap (earliest due) (sym (none_due is_empty subject more number)) }
over_passes is_empty subject node false path number due e = absurd cc

pub node_passes : (is_empty : EmptyTest) (subject : Subject) (node : Node) (over : Bool) (path : Path) (number : ℕ)
    (due after : Option CheckError) (found : Option Path) (next : ℕ) → over ≡ false
    → after ≡ earliest due (node_refusal is_empty subject node path number)
    → found ≡ path_after subject node path → next ≡ later number 1
    → Passes is_empty subject (node ∷ []) (place_at (path_unless over path) number due) [] (place_at found next after)
node_passes is_empty subject node true path number due after found next e passed goes counts = absurd cc
node_passes is_empty subject node false path number due after found next e passed goes counts = record {
  each = λ more.
      sym (first_one_of due (node_refusal is_empty subject node path number)
      (walk is_empty subject more (path_after subject node path) (later number 1)))
      ∙ ap (λ refusal. earliest refusal (walk is_empty subject more (path_after subject node path) (later number 1)))
      (sym passed)
      ∙ ap (λ found. earliest after (walk is_empty subject more found (later number 1))) (sym goes)
      ∙ ap (λ next. earliest after (walk is_empty subject more found next)) (sym counts);
}

pub node_stops : (is_empty : EmptyTest) (subject : Subject) (node : Node) (over : Bool) (path : Path) (number : ℕ)
    (due : Option CheckError) (error : CheckError) → over ≡ false
    → earliest due (node_refusal is_empty subject node path number) ≡ Some error
    → Stops is_empty subject (node ∷ []) (place_at (path_unless over path) number due) error
node_stops is_empty subject node true path number due error e refused = absurd cc
node_stops is_empty subject node false path number due error e refused = record {
  each = λ more.
      sym (first_one_of due (node_refusal is_empty subject node path number)
      (walk is_empty subject more (path_after subject node path) (later number 1)))
      ∙ ap (λ refusal. earliest refusal (walk is_empty subject more (path_after subject node path) (later number 1)))
      refused;
}

pub ruleset steps = (over_passes, node_passes, node_stops)

-- ---- one after another

module _ (is_empty : EmptyTest) (subject : Subject) (one two : List Node) (old middle : Place)
    (first : Passes is_empty subject one old [] middle) where
  pub both_pass : (new : Place) → Passes is_empty subject two middle [] new
      → Passes is_empty subject (one ++ two) old [] new
  both_pass new second =
      record {
        each = λ more. ap (λ nodes. walk_from is_empty subject nodes old) (append_assoc one two more)
            ∙ first.each (two ++ more) ∙ second.each more;
      }

  pub second_stops : (error : CheckError) → Stops is_empty subject two middle error
      → Stops is_empty subject (one ++ two) old error
  second_stops error second =
      record {
        each = λ more. ap (λ nodes. walk_from is_empty subject nodes old) (append_assoc one two more)
            ∙ first.each (two ++ more) ∙ second.each more;
      }

pub first_stops : (is_empty : EmptyTest) (subject : Subject) (one two : List Node) (old : Place) (error : CheckError)
    → Stops is_empty subject one old error → Stops is_empty subject (one ++ two) old error
first_stops is_empty subject one two old error first =
    record {
      each = λ more. ap (λ nodes. walk_from is_empty subject nodes old) (append_assoc one two more)
          ∙ first.each (two ++ more);
    }

-- a split's node, and its branches
module _ (is_empty : EmptyTest) (subject : Subject) (node : Node) (nodes : List Node) (old : Place) where
  pub root_passes : (middle new : Place) → Passes is_empty subject (node ∷ []) old [] middle
      → Passes is_empty subject nodes middle [] new → Passes is_empty subject (node ∷ nodes) old [] new
  root_passes middle new first second = both_pass is_empty subject (node ∷ []) nodes old middle first new second

  pub branches_stop : (middle : Place) (error : CheckError) → Passes is_empty subject (node ∷ []) old [] middle
      → Stops is_empty subject nodes middle error → Stops is_empty subject (node ∷ nodes) old error
  branches_stop middle error first second =
      second_stops is_empty subject (node ∷ []) nodes old middle first error second

  pub root_stops : (error : CheckError) → Stops is_empty subject (node ∷ []) old error
      → Stops is_empty subject (node ∷ nodes) old error
  root_stops error first = first_stops is_empty subject (node ∷ []) nodes old error first

pub ruleset trees = (both_pass, second_stops, first_stops, root_passes, branches_stop, root_stops)

-- ---- a text's nodes

pub all_left : (is_empty : EmptyTest) (subject : Subject) (nodes : List Node) (place : Place)
    → Passes is_empty subject nodes place nodes place
all_left is_empty subject nodes place = record { each = λ more. refl }

module _ (is_empty : EmptyTest) (subject : Subject) (nodes : List Node) (old : Place) (left : List Node) (here : Place)
    (so_far : Passes is_empty subject nodes old left here) where
  pub none_left : left ≡ [] → Passes is_empty subject nodes old [] here
  none_left e = subst (λ left. Passes is_empty subject nodes old left here) e so_far

  pub fewer_left : (node : Node) (rest : List Node) (new : Place) → left ≡ node ∷ rest
      → Passes is_empty subject (node ∷ []) here [] new → Passes is_empty subject nodes old rest new
  fewer_left node rest new e step =
      record {
        each = λ more. so_far.each more ∙ ap (λ left. walk_from is_empty subject (left ++ more) here) e
            ∙ step.each (rest ++ more);
      }

  pub stops_there : (node : Node) (rest : List Node) (error : CheckError) → left ≡ node ∷ rest
      → Stops is_empty subject (node ∷ []) here error → Stops is_empty subject nodes old error
  stops_there node rest error e step =
      record {
        each = λ more. so_far.each more ∙ ap (λ left. walk_from is_empty subject (left ++ more) here) e
            ∙ step.each (rest ++ more);
      }

pub ruleset texts = (all_left, none_left, fewer_left, stops_there)

-- ---- a whole certificate

module _ (is_empty : EmptyTest) (subject : Subject) (nodes : List Node) (old : Place) where
  all_nodes : walk_from is_empty subject nodes old ≡ walk_from is_empty subject (nodes ++ []) old
  all_nodes = ap (λ nodes. walk_from is_empty subject nodes old) (sym (append-nil nodes))

  pub whole_is_due : (new : Place) → old ≡ beginning → Passes is_empty subject nodes old [] new
      → walk is_empty subject nodes (Some []) 0 ≡ new.due
  whole_is_due new begins passes = ap (walk_from is_empty subject nodes) (sym begins) ∙ all_nodes ∙ passes.each []
      ∙ last_due new.due new.path
    where
      last_due : (due : Option CheckError) (path : Option Path)
          → earliest due (walk is_empty subject [] path new.node) ≡ due
      last_due None path = refl
      last_due (Some error) path = refl

  pub whole_passes : (new : Place) → old ≡ beginning → Passes is_empty subject nodes old [] new → new.due ≡ None
      → walk is_empty subject nodes (Some []) 0 ≡ None
  whole_passes new begins passes none = whole_is_due new begins passes ∙ none

  pub whole_stops : (error : CheckError) → old ≡ beginning
      → (error ≢ OutOfMemory → Stops is_empty subject nodes old error) → error ≢ OutOfMemory
      → walk is_empty subject nodes (Some []) 0 ≡ Some error
  whole_stops error begins stops other = ap (walk_from is_empty subject nodes) (sym begins) ∙ all_nodes
      ∙ (stops other).each []

pub ruleset wholes = (whole_passes, whole_stops)
