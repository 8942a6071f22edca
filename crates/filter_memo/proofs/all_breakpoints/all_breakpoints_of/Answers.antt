use Rattle.std.proofs.Common.{◌≡◌, List, [], ◌∷◌, ◌++◌, sym, subst}
use Rattle.std.proofs.lemmas.List.Elements.{All-push}
use Rattle.filter_tree.specs.declared.filter.Filter.{Filter}
use Rattle.filter_memo.specs.Telling.{AreSettled, IsSettled}
use Rattle.filter_memo.specs.declared.breakpoints.Breakpoints.{Breakpoints}
use Rattle.filter_memo.proofs.all_breakpoints.all_breakpoints_of.Goals.{in-Some+in_ok-breakpoints+in_ok-push, in_default}
use Rattle.filter_memo.proofs.all_breakpoints.all_breakpoints_of.Goals as goal

one_more : {A : _} (parts : List (Filter A)) (old new : List Breakpoints) (breakpoints : Breakpoints)
    → AreSettled parts old
    → IsSettled parts breakpoints → new ≡ old ++ breakpoints ∷ [] → AreSettled parts new
one_more parts old new breakpoints all one pushed =
    subst (λ (all_breakpoints : List Breakpoints). AreSettled parts all_breakpoints) (sym pushed)
    (All-push (IsSettled parts) old breakpoints all one)

pub loop-part-preserved : goal.loop-part-preserved
loop-part-preserved c =
    elim c.match-new_term.branch [
      | in-Some+in_ok-breakpoints+in_ok-push w ↦ rw w.all_breakpoints-is
          (one_more c.args.parts.now c.loop-part.all_breakpoints.items w.push.new.self.items
          w.in_ok-breakpoints.breakpoints c.loop-part.invariant w.in_ok-breakpoints.ensures w.in_ok-push.ensures.items)
      | in_default w ↦ rw w.all_breakpoints-is c.loop-part.invariant
    ]
