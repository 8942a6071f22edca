use Rattle.std.proofs.Common.{◌≡◌, ◌∙◌, ℕ, ap, sym}
use Rattle.std.specs.Prelude.{Some, None}
use Rattle.senders.specs.Listening.{HasStarted}
use Rattle.senders.specs.Running.{EndedAtOnce, Streamed, Unstarted}
use Rattle.senders.proofs.serving.outcome_of.Goals as goal

pub serve_started-outcome-requires-clause-started : goal.serve_started-outcome-requires-clause-started
serve_started-outcome-requires-clause-started g c κs within =
    let has : HasStarted c.begin.new.listener =
    record { stream = c.in-Started.started; started_is = c.in-Started.ensures.begins.started_is } in has

pub returns-in-Refused-clause-serves : goal.returns-in-Refused-clause-serves
returns-in-Refused-clause-serves g c =
    Unstarted c.in-Refused.why c.in-Refused.ensures.begins c.answer.ensures c.unstarted-outcome.ensures.slot
    c.unstarted-outcome.ensures.start c.unstarted-outcome.ensures.taken
    (c.unstarted-outcome.ensures.end ∙ c.cause_of.ensures) (c.unstarted-outcome.ensures.fault ∙ c.fault_of.ensures)

pub returns-in-Refused-clause-permit : goal.returns-in-Refused-clause-permit
returns-in-Refused-clause-permit g c = sym c.unstarted-outcome.ensures.slot

pub returns-in-Refused-clause-refused : goal.returns-in-Refused-clause-refused
returns-in-Refused-clause-refused g c slot some =
    let none : None ≡ Some slot = sym c.unstarted-outcome.ensures.slot ∙ some in absurd cc

pub returns-in-Ended-clause-serves : goal.returns-in-Ended-clause-serves
returns-in-Ended-clause-serves g c =
    EndedAtOnce c.in-Ended.started c.in-Ended.why c.in-Ended.ensures.begins c.serve_ended-outcome.ensures.streams
    c.serve_ended-outcome.ensures.logged

pub returns-in-Ended-clause-permit : goal.returns-in-Ended-clause-permit
returns-in-Ended-clause-permit g c =
    ap (λ (slot : ℕ). Some slot) c.in-Ended.ensures.permit ∙ sym c.serve_ended-outcome.ensures.streams.slot_is

pub returns-in-Ended-clause-refused : goal.returns-in-Ended-clause-refused
returns-in-Ended-clause-refused g c slot some = c.serve_ended-outcome.ensures.refused

pub returns-in-Started-clause-serves : goal.returns-in-Started-clause-serves
returns-in-Started-clause-serves g c =
    Streamed c.in-Started.started c.begin.new.viewer (g.S.Source.left c.begin.new.reader) c.begin.new.listener
    c.in-Started.ensures.begins c.serve_started-outcome.ensures.runs c.serve_started-outcome.ensures.logged

pub returns-in-Started-clause-permit : goal.returns-in-Started-clause-permit
returns-in-Started-clause-permit g c =
    ap (λ (slot : ℕ). Some slot) c.in-Started.ensures.permit
    ∙ sym c.serve_started-outcome.ensures.runs.streams.slot_is

pub returns-in-Started-clause-refused : goal.returns-in-Started-clause-refused
returns-in-Started-clause-refused g c slot some = c.serve_started-outcome.ensures.refused
