use Rattle.std.proofs.Common.{rules}
use Rattle.std.proofs.lemmas.List.Sorted.{IsPermutation-map, IsNonDecreasingBy-from_sort_by_key}
use Rattle.senders.specs.Results.{ServedOf}
use Rattle.senders.proofs.GatheringLemmas.{sorted_shown}
use Rattle.senders.proofs.reaching.sort_by_number.Goals as goal

pub returns-clause-all : goal.returns-clause-all
returns-clause-all g c = IsPermutation-map (λ one. one.now) _ _ c.sort_unstable_by_key.ensures.permutation

pub returns-clause-sorted : goal.returns-clause-sorted
returns-clause-sorted g c =
    sorted_shown (λ one. one.now) (λ (one : ServedOf). one.number) _
    (IsNonDecreasingBy-from_sort_by_key (λ one. one.now.number) _ c.sort_unstable_by_key.ensures.sorted
    (λ a r q k. search rules))
