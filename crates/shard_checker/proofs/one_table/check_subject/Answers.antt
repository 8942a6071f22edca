use Rattle.std.proofs.Common.{rules, sym, subst}
use Rattle.shard_checker.specs.Candidates.{is_empty}
use Rattle.shard_checker.specs.Checks.{Checks}
use Rattle.shard_checker.specs.Refusal.{subject_view}
use Rattle.shard_checker.specs.Walking.{place_of}
use Rattle.shard_checker.proofs.WalkLemmas.{whole_is_due}
use Rattle.shard_checker.proofs.one_table.check_subject.Goals as goal

-- what is wrong with a node that waits is what is wrong with the certificate
pub returns-in_err-check_waiting : goal.returns-in_err-check_waiting
returns-in_err-check_waiting g c =
    let subject = c.args.subject.now in
    subst (λ refusal. Checks refusal c.from_residual-in_err-check_waiting.result)
    (sym (whole_is_due is_empty (subject_view subject) (g.C.Source.nodes c.args.cert.now)
    (place_of subject c.in_ok-walk.walk) (place_of subject c.visit.new.walk) c.in_ok-walk.ensures.place
    c.in_ok-visit.ensures.walks))
    (search rules)
