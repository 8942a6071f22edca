use Rattle.std.proofs.Common.{rules, ◌≡◌, false}
use Rattle.std.specs.Prelude.{Err}
use Rattle.copy_both.specs.Hearing.{is_over}
use Rattle.copy_both.specs.Listening.{held_frames, FramesHeard}
use Rattle.copy_both.specs.Sessions.{served_by, hearing_view}
use Rattle.copy_both.proofs.ListeningLemmas.{keeps_all, keeps_on, same_served, listens_first, no_more, no_more_rests, goes_on, stops_at, heard_over, is_going, is_ended, still_counted}
use Rattle.copy_both.proofs.listening.hear_frames.Goals as goal

pub loop-frames-init : goal.loop-frames-init
loop-frames-init c = record {
  kept = keeps_all c.args.session.now c.args.book.now;
  listens =
      listens_first (served_by c.args.session.now c.args.book.now)
      (hearing_view c.args.session.now c.args.hearing.now c.args.book.now)
      c.args.frames.now;
  counted = c.requires.counted;
}

pub returns-in_default-clause-heard : goal.returns-in_default-clause-heard
returns-in_default-clause-heard c =
    no_more (served_by c.args.session.now c.args.book.now)
    (hearing_view c.args.session.now c.args.hearing.now c.args.book.now)
    (hearing_view c.loop-frames.session c.loop-frames.hearing c.loop-frames.book) c.args.frames.now
    c.loop-frames.frames c.in_ok-frame.field-0
    c.next.new.self c.loop-frames.invariant.listens c.in_default.not-Some c.in_ok-frame.ensures.given

pub returns-in_default-clause-rest : goal.returns-in_default-clause-rest
returns-in_default-clause-rest c = λ none.
    no_more_rests (served_by c.args.session.now c.args.book.now)
    (hearing_view c.args.session.now c.args.hearing.now c.args.book.now)
    (hearing_view c.loop-frames.session c.loop-frames.hearing c.loop-frames.book) c.args.frames.now
    c.loop-frames.frames c.in_ok-frame.field-0
    c.next.new.self c.loop-frames.invariant.listens c.in_default.not-Some c.in_ok-frame.ensures.given

pub returns-in_err-hear-clause-heard : goal.returns-in_err-hear-clause-heard
returns-in_err-hear-clause-heard c =
    let going : is_over (hearing_view c.loop-frames.session c.loop-frames.hearing c.loop-frames.book) ≡ false =
    is_going c.loop-frames.hearing.ended c.is_none.result c.is_none.ensures c.loop-frames-test.true in
    let stops : FramesHeard (served_by c.args.session.now c.args.book.now)
    (hearing_view c.args.session.now c.args.hearing.now c.args.book.now)
    (hearing_view c.hear.new.self c.hear.new.hearing c.hear.new.book) (held_frames c.args.frames.now)
    (Err c.in_err-hear.field-0.0) =
    stops_at c.in_err-hear.field-0.0 (served_by c.args.session.now c.args.book.now)
    (served_by c.loop-frames.session c.loop-frames.book)
    (hearing_view c.args.session.now c.args.hearing.now c.args.book.now)
    (hearing_view c.loop-frames.session c.loop-frames.hearing c.loop-frames.book)
    (hearing_view c.hear.new.self c.hear.new.hearing c.hear.new.book)
    c.args.frames.now c.loop-frames.frames c.next.new.self c.in_ok-frame.field-0 c.in-Some.frame
    c.loop-frames.invariant.listens
    (same_served c.args.session.now c.loop-frames.session c.args.book.now c.loop-frames.book
    c.loop-frames.invariant.kept)
    going c.in-Some.is c.in_ok-frame.ensures.given c.in_err-hear.ensures.heard in
    search rules

pub loop-frames-preserved : goal.loop-frames-preserved
loop-frames-preserved c = record {
  kept =
      keeps_on c.args.session.now c.loop-frames.session c.hear.new.self c.args.book.now c.loop-frames.book
      c.hear.new.book
      c.loop-frames.invariant.kept c.hear.ensures.kept;
  listens =
      goes_on (served_by c.args.session.now c.args.book.now) (served_by c.loop-frames.session c.loop-frames.book)
      (hearing_view c.args.session.now c.args.hearing.now c.args.book.now)
      (hearing_view c.loop-frames.session c.loop-frames.hearing c.loop-frames.book)
      (hearing_view c.hear.new.self c.hear.new.hearing c.hear.new.book)
      c.args.frames.now c.loop-frames.frames c.next.new.self c.in_ok-frame.field-0 c.in-Some.frame
      c.loop-frames.invariant.listens
      (same_served c.args.session.now c.loop-frames.session c.args.book.now c.loop-frames.book
      c.loop-frames.invariant.kept)
      (is_going c.loop-frames.hearing.ended c.is_none.result c.is_none.ensures c.loop-frames-test.true)
      c.in-Some.is c.in_ok-frame.ensures.given c.in_ok-hear.ensures.heard;
  counted =
      still_counted c.loop-frames.frames c.next.new.self c.in_ok-frame.field-0 c.in-Some.frame
      c.loop-frames.hearing.replies c.hear.new.hearing.replies
      c.in-Some.is c.in_ok-frame.ensures.given c.loop-frames.invariant.counted c.hear.ensures.counted;
}

pub loop-frames-preserved-in_ok-hear : goal.loop-frames-preserved-in_ok-hear
loop-frames-preserved-in_ok-hear c = record {
  kept =
      keeps_on c.args.session.now c.loop-frames.session c.hear.new.self c.args.book.now c.loop-frames.book
      c.hear.new.book
      c.loop-frames.invariant.kept c.hear.ensures.kept;
  listens =
      goes_on (served_by c.args.session.now c.args.book.now) (served_by c.loop-frames.session c.loop-frames.book)
      (hearing_view c.args.session.now c.args.hearing.now c.args.book.now)
      (hearing_view c.loop-frames.session c.loop-frames.hearing c.loop-frames.book)
      (hearing_view c.hear.new.self c.hear.new.hearing c.hear.new.book)
      c.args.frames.now c.loop-frames.frames c.next.new.self c.in_ok-frame.field-0 c.in-Some.frame
      c.loop-frames.invariant.listens
      (same_served c.args.session.now c.loop-frames.session c.args.book.now c.loop-frames.book
      c.loop-frames.invariant.kept)
      (is_going c.loop-frames.hearing.ended c.is_none.result c.is_none.ensures c.loop-frames-test.true)
      c.in-Some.is c.in_ok-frame.ensures.given c.in_ok-hear.ensures.heard;
  counted =
      still_counted c.loop-frames.frames c.next.new.self c.in_ok-frame.field-0 c.in-Some.frame
      c.loop-frames.hearing.replies c.hear.new.hearing.replies
      c.in-Some.is c.in_ok-frame.ensures.given c.loop-frames.invariant.counted c.hear.ensures.counted;
}

pub returns-clause-heard : goal.returns-clause-heard
returns-clause-heard c =
    heard_over (served_by c.args.session.now c.args.book.now)
    (hearing_view c.args.session.now c.args.hearing.now c.args.book.now)
    (hearing_view c.loop-frames.session c.loop-frames.hearing c.loop-frames.book) c.args.frames.now c.loop-frames.frames
    c.loop-frames.invariant.listens
    (is_ended c.loop-frames.hearing.ended c.is_none.result c.is_none.ensures c.loop-frames-test.false)
