use Rattle.std.proofs.Common.{◌≡◌, List, drop, map, length, take, ap, sym, subst, ◌∙◌, arith}
use Rattle.std.specs.Arc.{arc_value}
use Rattle.std.specs.List.{take_while}
use Rattle.std.proofs.lemmas.List.{length-map}
use Rattle.replica_identity.specs.Plans.{PlanOf}
use Rattle.shard_checker.specs.CheckedView.{checked_view}
use Rattle.tables_log.specs.BookView.{book_log}
use Rattle.tables_log.specs.Commits.{CommitOf}
use Rattle.tables_log.specs.Routes.{ArePassed, commit_in, lacks, passed_over}
use Rattle.tables_log.specs.declared.routed.Routed.{Routed}
use Rattle.tables_log.proofs.RouteLemmas.{are_passed, few_passed, shows_passed}
use Rattle.tables_log.proofs.book.Book.passed_over.Goals as goal

pub returns-clause-shows : goal.returns-clause-shows
returns-clause-shows c =
    let plan : PlanOf = (checked_view (arc_value c.args.self.now.checked)).plan in
    c.in_ok-passed_over.ensures
    ∙ ap (λ (entries : List Routed). map commit_in (take_while (lacks c.args.subscriber) entries))
    (c.entries_after-entries.ensures ∙ ap (λ (log : List Routed). take 64 (drop c.args.done log))
    c.as_slice.ensures.value)
    ∙ shows_passed plan c.args.subscriber c.args.self.now.log.items c.args.done c.requires c.args.self.now.routed

pub returns-clause-passed : goal.returns-clause-passed
returns-clause-passed c =
    let plan : PlanOf = (checked_view (arc_value c.args.self.now.checked)).plan in
    subst (λ (commits : List CommitOf). ArePassed plan c.args.subscriber c.args.done commits)
    (sym (returns-clause-shows c))
    (are_passed plan c.args.subscriber (book_log c.args.self.now) c.args.done c.args.self.now.numbered)

pub returns-clause-within : goal.returns-clause-within
returns-clause-within c =
    let plan : PlanOf = (checked_view (arc_value c.args.self.now.checked)).plan in
    let shown : length (map (λ commit. arc_value commit) c.in_ok-passed_over.field-0.items)
    ≡ length (passed_over plan c.args.subscriber (book_log c.args.self.now) c.args.done) =
    ap length (returns-clause-shows c) in
    omega (
      arith,
      shown,
      length-map c.in_ok-passed_over.field-0.items (λ commit. arc_value commit),
      few_passed plan c.args.subscriber (book_log c.args.self.now) c.args.done,
    )
