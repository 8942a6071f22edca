use Rattle.std.proofs.Common.{◌≡◌, List, All, get_or, set, take_all, ◌∙◌, ap, subst, arith}
use Rattle.std.proofs.lemmas.List.{set-get_or}
use Rattle.std.proofs.lemmas.List.Elements.{All-more}
use Rattle.publisher_desk.specs.Viewers.{ClosingOf, IsSeenIn}
use Rattle.senders.specs.Results.{IsWitnessed, ServedOf}
use Rattle.senders.proofs.closing.check_all.Goals as goal

pub loop-place-preserved : goal.loop-place-preserved
loop-place-preserved g c =
    let place = c.loop-place.place in
    let item : ServedOf = c.index-served-place.result in
    let there : get_or c.loop-place.served place item ≡ get_or c.args.served.now place item =
    ap (λ (list : List ServedOf). get_or list place item) c.loop-place.invariant.0 in (
      ap (set c.loop-place.served place) c.check.ensures.same ∙ set-get_or c.loop-place.served place item
          ∙ c.loop-place.invariant.0,
      c.check.ensures.closing ∙ c.loop-place.invariant.1,
      All-more (λ (one : ServedOf). IsSeenIn c.args.closing.now one.viewer) c.args.served.now place item (omega arith)
          c.loop-place.invariant.2
          (subst (λ (one : ServedOf). IsSeenIn c.args.closing.now one.viewer) there
          (subst (λ (closing : ClosingOf). IsSeenIn closing (get_or c.loop-place.served place item).viewer)
          c.loop-place.invariant.1 c.check.ensures.seen)),
      All-more (IsWitnessed g.P.Publishing.checked) c.args.served.now place item (omega arith)
          c.loop-place.invariant.3
          (subst (IsWitnessed g.P.Publishing.checked) there c.check.ensures.witnessed),
    )

pub returns-clause-seen : goal.returns-clause-seen
returns-clause-seen g c =
    subst (λ (served : List ServedOf). All (λ (one : ServedOf). IsSeenIn c.args.closing.now one.viewer) served)
    (take_all c.loop-place.place c.args.served.now (omega arith)) c.loop-place.invariant.2

pub returns-clause-witnessed : goal.returns-clause-witnessed
returns-clause-witnessed g c =
    subst (λ (served : List ServedOf). All (IsWitnessed g.P.Publishing.checked) served)
    (take_all c.loop-place.place c.args.served.now (omega arith)) c.loop-place.invariant.3
