use Rattle.std.proofs.Common.{ℕ, subst}
use Rattle.std.specs.Prelude.{Result}
use Rattle.copy_both.specs.Ears.{HearLeaves, ear_phase}
use Rattle.copy_both.specs.declared.heard.Heard.{Heard}
use Rattle.copy_both.specs.declared.link_fault.LinkFault.{LinkFault}
use Rattle.senders.proofs.MemoryLemmas.{memory_leaves}
use Rattle.senders.proofs.listener.hear_piece.Goals as goal

pub returns-else-has_start-clause-left : goal.returns-else-has_start-clause-left
returns-else-has_start-clause-left c =
    let phase = ear_phase c.args.ear.now in
    memory_leaves phase c.args.ear.now c.hear-heard.new.self c.args.book.now c.hear-heard.new.book
    c.args.piece.now c.args.sent c.in-Err-StatusAhead.field-0
    (subst
    (λ (heard : Result Heard LinkFault). HearLeaves phase c.args.ear.now c.hear-heard.new.self c.args.book.now
    c.hear-heard.new.book c.args.piece.now c.args.sent heard)
    c.in-Err-StatusAhead.is
    (subst (λ (sent : ℕ). HearLeaves phase c.args.ear.now c.hear-heard.new.self c.args.book.now
    c.hear-heard.new.book c.args.piece.now sent c.hear-heard.result)
    c.to_u64.ensures c.hear-heard.ensures.left))
