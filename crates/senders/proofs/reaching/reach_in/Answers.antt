use Rattle.std.proofs.Common.{◌≡◌, ◌<◌, ℕ, ◌+◌, Bor, List, ◌++◌, ◌∷◌, [], length, map, max, take, take_all, drop, ap, subst, sym, ◌∙◌, rules, arith}
use Rattle.std.proofs.lemmas.List.{length-map}
use Rattle.senders.specs.Results.{ServedOf, taken_from}
use Rattle.senders.specs.TakenCommits.{confirmed_to}
use Rattle.senders.proofs.ReachLemmas.{AreReachedTo, around, none_reached, not_reached, of_another, of_this, one_more, reach_is}
use Rattle.senders.proofs.reaching.reach_in.Goals.{then-is_of+else-is_late, else-is_of}
use Rattle.senders.proofs.reaching.reach_in.Goals as goal

pub loop-one-init : goal.loop-one-init
loop-one-init g c = none_reached c.args.slot

pub returns-then-is_late-clause-late : goal.returns-then-is_late-clause-late
returns-then-is_late-clause-late g c =
    let shown : List ServedOf = map (λ (one : Bor ServedOf). one.now) c.args.starts.now in
    not_reached c.args.slot c.loop-one.reach (take c.loop-one.one-index shown) c.one-item.result.now
    c.loop-one.invariant c.if-is_of.ensures c.if-is_late.ensures.0 c.if-is_late.ensures.1 shown
    (drop (c.loop-one.one-index + 1) shown)
    (around (λ (one : Bor ServedOf). one.now) c.args.starts.now c.loop-one.one-index c.one-item.result (omega arith)
    c.one-item.is)

pub loop-one-preserved : goal.loop-one-preserved
loop-one-preserved g c =
    let place : ℕ = c.loop-one.one-index in
    let inside : place < length c.args.starts.now = omega arith in
    let shown : List ServedOf = map (λ (one : Bor ServedOf). one.now) c.args.starts.now in
    let one : ServedOf = c.one-item.result.now in
    let more : take (place + 1) shown ≡ take place shown ++ one ∷ [] =
    one_more (λ (one : Bor ServedOf). one.now) c.args.starts.now place c.one-item.result inside c.one-item.is in
    let Goal : ℕ → Type 0 = λ reach. AreReachedTo c.args.slot reach (take (place + 1) shown) in
    elim c.if-is_of.branch [
      | then-is_of+else-is_late w ↦
          let first : w.max.result ≡ max c.loop-one.reach w.commits_before.result = search rules in
          let next : w.max-reach.result ≡ max w.max.result w.commits_confirmed.result = search rules in
          let from : w.max.result ≡ max c.loop-one.reach (taken_from one) =
          first ∙ ap (max c.loop-one.reach) w.commits_before.ensures.is in
          let reach_is : w.max-reach.result ≡ max (max c.loop-one.reach (taken_from one)) (confirmed_to one) =
          next ∙ ap (λ (n : ℕ). max n w.commits_confirmed.result) from
          ∙ ap (max (max c.loop-one.reach (taken_from one))) w.commits_confirmed.ensures in
          subst Goal (sym (w.reach-is ∙ reach_is))
          (subst (AreReachedTo c.args.slot (max (max c.loop-one.reach (taken_from one)) (confirmed_to one))) (sym more)
          (of_this c.args.slot c.loop-one.reach (take place shown) one c.loop-one.invariant w.if-is_of.ensures
          w.if-is_late.ensures))
      | else-is_of w ↦
          subst Goal (sym w.reach-is)
          (subst (AreReachedTo c.args.slot c.loop-one.reach) (sym more)
          (of_another c.args.slot c.loop-one.reach (take place shown) one c.loop-one.invariant w.if-is_of.ensures))
    ]

pub returns-clause-reached : goal.returns-clause-reached
returns-clause-reached g c =
    let shown : List ServedOf = map (λ (one : Bor ServedOf). one.now) c.args.starts.now in
    (subst (AreReachedTo c.args.slot c.loop-one.reach) (take_all c.loop-one.one-index shown
    (omega (arith, length-map c.args.starts.now (λ (one : Bor ServedOf). one.now))))
    c.loop-one.invariant).so_far

pub returns-clause-reach : goal.returns-clause-reach
returns-clause-reach g c =
    let shown : List ServedOf = map (λ (one : Bor ServedOf). one.now) c.args.starts.now in
    reach_is c.args.slot c.loop-one.reach shown
    (subst (AreReachedTo c.args.slot c.loop-one.reach) (take_all c.loop-one.one-index shown
    (omega (arith, length-map c.args.starts.now (λ (one : Bor ServedOf). one.now))))
    c.loop-one.invariant)
