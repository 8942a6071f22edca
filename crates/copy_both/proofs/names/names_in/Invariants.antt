use Rattle.std.proofs.Common.{◌≡◌, suc, length}
use Rattle.std.specs.Prelude.{map}
use Rattle.std.specs.Option.{option_map_or}
use Rattle.copy_both.specs.CommandTokens.{all_of, lone_name, names_in as spec}
use Rattle.copy_both.proofs.ListLoops.{after_all, parts_left}
use Rattle.copy_both.proofs.names.names_in.Given as goal

abbrev pub invariant-loop-rest : goal.invariant-loop-rest
invariant-loop-rest l = after_all l.names.items (all_of (map lone_name (parts_left l.rest))) ≡ spec l.fn.tokens

abbrev pub decreases-loop-rest : goal.decreases-loop-rest
decreases-loop-rest l = option_map_or (λ left. suc (length left.now)) l.rest 0
