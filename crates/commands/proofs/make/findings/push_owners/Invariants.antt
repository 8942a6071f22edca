use Rattle.std.proofs.Common.{◌≡◌, [], ◌∷◌, ◌++◌, drop}
use Rattle.std.specs.Prelude.{codes}
use Rattle.std.specs.List.{flat_map}
use Rattle.std.specs.String.{string_bytes}
use Rattle.commands.specs.Make.Making.{owners_text}
use Rattle.commands.specs.Names.{spaced, subscriber_name}
use Rattle.commands.proofs.make.findings.push_owners.Given as goal

-- what is written, and the names that are left, each after a comma, make the text of all
abbrev pub invariant-loop-owner : goal.invariant-loop-owner
invariant-loop-owner l =
    string_bytes l.line ++ flat_map (λ owner. codes "," ++ subscriber_name l.subscriptions owner)
    (drop l.owner-index l.others)
    ≡ string_bytes l.fn.line ++ spaced (owners_text l.subscriptions l.owners ∷ [])
