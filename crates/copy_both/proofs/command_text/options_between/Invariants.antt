use Rattle.std.proofs.Common.{◌≡◌, suc, length}
use Rattle.std.specs.Prelude.{map}
use Rattle.std.specs.Option.{option_map_or}
use Rattle.copy_both.specs.CommandTokens.{all_of, separated}
use Rattle.copy_both.specs.CommandText.{option_in}
use Rattle.copy_both.proofs.ListLoops.{after_all, parts_left}
use Rattle.copy_both.proofs.command_text.options_between.Given as goal

abbrev pub invariant-loop-rest : goal.invariant-loop-rest
invariant-loop-rest l =
    after_all l.options.items (all_of (map option_in (parts_left l.rest))) ≡ separated option_in l.fn.tokens

abbrev pub decreases-loop-rest : goal.decreases-loop-rest
decreases-loop-rest l = option_map_or (λ left. suc (length left.now)) l.rest 0
