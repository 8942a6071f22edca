use Rattle.std.proofs.Common.{sym, ◌∙◌, rules, arith}
use Rattle.std.proofs.lemmas.Grind.{common_steps}
use Rattle.row_owners.proofs.SparedLemmas.{none_concerned}
use Rattle.row_owners.proofs.own_changes.count_of.Goals as goal

pub returns-clause-exact : goal.returns-clause-exact
returns-clause-exact c = first_of (search rules, grind (arith, common_steps))

pub returns-clause-none : goal.returns-clause-none
returns-clause-none c = λ none.
    none_concerned c.args.sets.now c.args.subscriber c.args.changes c.if-subscriber-ge32.false
    (sym (returns-clause-exact c c.if-subscriber-ge32.false) ∙ none)
