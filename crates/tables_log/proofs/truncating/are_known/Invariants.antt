use Rattle.std.proofs.Common.{◌≡◌, drop}
use Rattle.std.specs.Prelude.{nat_lt}
use Rattle.std.specs.List.{list_all}
use Rattle.tables_log.proofs.truncating.are_known.Given as goal

abbrev pub invariant-loop-number : goal.invariant-loop-number
invariant-loop-number l =
    list_all (λ number. nat_lt number l.count) (drop l.number-index l.numbers)
    ≡ list_all (λ number. nat_lt number l.count) l.numbers
