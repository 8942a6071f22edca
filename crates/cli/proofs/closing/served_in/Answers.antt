use Rattle.std.proofs.Common.{◌≡◌, ◌∙◌, [], ◌++◌, ◌∷◌, All, List, map, ap, sym, subst, rules}
use Rattle.std.proofs.lemmas.List.Elements.{All-push}
use Rattle.senders.specs.Results.{ServedOf}
use Rattle.cli.proofs.LastLines.{one_more}
use Rattle.cli.specs.Connections.{HadMemory}
use Rattle.cli.specs.declared.connections.ConnectionPlace.{ConnectionPlace}
use Rattle.cli.specs.declared.connections.ConnectionPlace.TheVariants.{Ended}
use Rattle.cli.proofs.closing.served_in.Goals as goal

pub loop-place-preserved : goal.loop-place-preserved
loop-place-preserved g c =
    let one = c.in-Ended.served in
    let all = c.loop-place.all.items in
    let rest = c.next.new.self.rest.items in
    let memory : HadMemory one = search rules in
    let pushed : c.push.new.self.items ≡ all ++ one ∷ [] = search rules in
    let next : c.loop-place.place-iterator.rest.items ≡ Ended one ∷ rest = c.in-Some.ensures.steps.0
    ∙ ap (λ (p : ConnectionPlace _). p ∷ rest) c.in-Ended.is in (
      ap (λ (l : List ServedOf). map Ended l ++ rest) pushed ∙ (one_more all one rest
          ∙ (ap (λ (l : List (ConnectionPlace _)). map Ended all ++ l) (sym next) ∙ c.loop-place.invariant.0)),
      subst (λ (l : List ServedOf). All HadMemory l) (sym pushed) (All-push HadMemory all one c.loop-place.invariant.1 memory),
    )
