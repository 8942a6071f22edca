use Rattle.std.proofs.Common.{ap, subst, ◌∙◌, arith}
use Rattle.filter_tree.specs.Memory.{Answers}
use Rattle.pgoutput_msgs.specs.Reading.{decoded, msg_fault}
use Rattle.pgoutput_msgs.proofs.FaultLemmas.{is_true}
use Rattle.pgoutput_msgs.proofs.SpellingLaws.{are_decoded, nothing_follows, is_found}
use Rattle.pgoutput_msgs.proofs.decoding.decode.Goals as goal

pub returns-clause-found : goal.returns-clause-found
returns-clause-found c =
    is_found c.args.bytes.now c.whole.result (λ i. omega (arith, c.type_inv.bytes i)) c.whole.ensures

pub returns-clause-only : goal.returns-clause-only
returns-clause-only c = λ message fits e.
    subst (λ answer. Answers (λ m. m) msg_fault answer c.whole.result) (ap decoded e ∙ are_decoded message fits)
    c.whole.ensures

pub returns-clause-trailing : goal.returns-clause-trailing
returns-clause-trailing c = λ message next more fits e.
    subst (λ answer. Answers (λ m. m) msg_fault answer c.whole.result)
    (ap decoded e ∙ nothing_follows message next more fits) c.whole.ensures

pub returns-clause-fault : goal.returns-clause-fault
returns-clause-fault c =
    is_true c.args.bytes.now c.whole.result (λ i. omega (arith, c.type_inv.bytes i)) c.whole.ensures
