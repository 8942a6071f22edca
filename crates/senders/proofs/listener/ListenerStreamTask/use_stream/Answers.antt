use Rattle.std.proofs.Common.{◌≡◌, ◌∙◌, ◌<◌, ◌≤◌, ℕ, List, Option, ap, is_some, length, refl, slice_index, subst, sym, take, arith}
use Rattle.filter_tree.specs.Memory.{Answers}
use Rattle.tables_log.specs.BookView.{book_log, book_slots}
use Rattle.tables_log.specs.Lsn.{end_lsn_of}
use Rattle.tables_log.specs.Slots.{confirmed_at}
use Rattle.copy_both.specs.Ears.{HearLeaves, ear_confirmed, ear_phase, ear_started, hear_answer}
use Rattle.copy_both.specs.Voices.{reported_fault}
use Rattle.copy_both.specs.declared.ear.Ear.{Ear}
use Rattle.copy_both.proofs.StartUses.{starts_take_slots}
use Rattle.publisher_desk.specs.SlotEvents.{AreSent, HaveEnded, ended_at, sent_at}
use Rattle.senders.specs.Hearing.{IsSentFrom, ended_started, sent_by, sent_started}
use Rattle.senders.specs.Listening.{NotesConfirmed, piece_of}
use Rattle.copy_both.proofs.RaisedSlots.{Raises, hearing_raises}
use Rattle.senders.proofs.EndedLemmas.{ahead_there, keeps_ended}
use Rattle.senders.proofs.SentLemmas.{keeps_sent}
use Rattle.senders.proofs.StartingLemmas.{acquires_for, compares_by, ear_kept, may_acquire, may_confirm, room_kept, slots_few}
use Rattle.senders.proofs.listener.ListenerStreamTask.use_stream.Goals as goal

module _ (c : goal.After-connections-1) where
  positions : (slot : ℕ) → slot < length c.confirmed_positions-confirmed.result
      → slice_index c.confirmed_positions-confirmed.result slot ≡ confirmed_at (book_slots c.args.book.now) slot
  positions slot low = c.confirmed_positions-confirmed.ensures slot
      (omega (arith, low))

  piece_heard : take c.args.self.now.filled c.deref.result.now ≡ piece_of c.args.self.now
  piece_heard = ap (take c.args.self.now.filled) c.deref.ensures.value

  sent_heard : c.sent_position-sent.result ≡ sent_by (ear_started c.args.self.now.ear) c.args.connections.now
  sent_heard = c.sent_position-sent.ensures
      ∙ ap (λ (started : Option (ℕ × ℕ)). sent_by started c.args.connections.now) c.stream-2.ensures

  few : length (book_slots c.args.book.now) ≤ length c.confirmed_positions-confirmed.result
  few = let all = slots_few c.args.book.now in omega (arith, all)

  was_is : c.is_some-was_started.result ≡ is_some (ear_started c.args.self.now.ear)
  was_is = c.is_some-was_started.ensures ∙ ap is_some c.stream.ensures

  raised : Raises (sent_by (ear_started c.args.self.now.ear) c.args.connections.now) (ear_started c.args.self.now.ear)
      (ear_started c.hear_piece-heard.new.ear) (book_slots c.args.book.now) (book_slots c.hear_piece-heard.new.book)
      (ear_confirmed c.args.self.now.ear) (ear_confirmed c.hear_piece-heard.new.ear)
  raised = subst (λ (sent : ℕ). Raises sent (ear_started c.args.self.now.ear) (ear_started c.hear_piece-heard.new.ear)
      (book_slots c.args.book.now) (book_slots c.hear_piece-heard.new.book) (ear_confirmed c.args.self.now.ear)
      (ear_confirmed c.hear_piece-heard.new.ear)) sent_heard
      (hearing_raises c.args.self.now.ear c.hear_piece-heard.new.ear c.args.book.now c.hear_piece-heard.new.book
      _ _ c.hear_piece-heard.result c.hear_piece-heard.ensures.left)

pub returns-clause-did : goal.returns-clause-did
returns-clause-did c =
    let same = ear_kept c.args.self.now _ c.acquire-acquired.new.self c.args.book.now c.hear_piece-heard.new.book
    c.is_some-was_started.result c.confirmed_positions-confirmed.result c.args.number (was_is c) (positions c) (few c)
    c.args.connections.now (raised c) refl refl c.acquire-acquired.result c.acquire-acquired.ensures in
    let compares = compares_by c.args.self.now _ c.acquire-acquired.new.self c.args.book.now c.hear_piece-heard.new.book
    c.is_some-was_started.result c.confirmed_positions-confirmed.result c.args.number (was_is c) (positions c) (few c)
    c.args.connections.now (raised c) refl refl c.acquire-acquired.result c.acquire-acquired.ensures in (
      record {
        answer = subst (λ (piece : List ℕ). Answers (λ heard. heard) reported_fault (hear_answer c.args.self.now.ear
            c.args.book.now piece (sent_by (ear_started c.args.self.now.ear) c.args.connections.now))
            c.hear_piece-heard.result) (piece_heard c)
            (subst (λ (sent : ℕ). Answers (λ heard. heard) reported_fault (hear_answer c.args.self.now.ear
            c.args.book.now (take c.args.self.now.filled c.deref.result.now) sent) c.hear_piece-heard.result)
            (sent_heard c) c.hear_piece-heard.ensures.answer);
        left = subst (λ (ear : Ear). HearLeaves (ear_phase c.args.self.now.ear) c.args.self.now.ear ear c.args.book.now
            c.hear_piece-heard.new.book (piece_of c.args.self.now)
            (sent_by (ear_started c.args.self.now.ear) c.args.connections.now) c.hear_piece-heard.result) (sym same)
            (subst (λ (piece : List ℕ). HearLeaves (ear_phase c.args.self.now.ear) c.args.self.now.ear
            c.hear_piece-heard.new.ear c.args.book.now c.hear_piece-heard.new.book piece
            (sent_by (ear_started c.args.self.now.ear) c.args.connections.now) c.hear_piece-heard.result)
            (piece_heard c)
            (subst (λ (sent : ℕ). HearLeaves (ear_phase c.args.self.now.ear) c.args.self.now.ear
            c.hear_piece-heard.new.ear c.args.book.now c.hear_piece-heard.new.book
            (take c.args.self.now.filled c.deref.result.now) sent c.hear_piece-heard.result)
            (sent_heard c) c.hear_piece-heard.ensures.left));
        reaches = λ ahead. subst (λ (ear : Ear). IsSentFrom (ear_started ear)
            (end_lsn_of (length (book_log c.args.book.now)))) (sym same)
            (c.hear_piece-heard.ensures.reaches ahead);
        room = room_kept c.args.self.now _ c.acquire-acquired.new.self c.args.book.now c.hear_piece-heard.new.book
            c.is_some-was_started.result c.confirmed_positions-confirmed.result c.args.number (was_is c) (positions c)
            (few c) c.args.connections.now (raised c) refl refl c.acquire-acquired.result c.acquire-acquired.ensures;
        compares = record { from = compares.from; stays = compares.stays };
      },
      acquires_for c.args.self.now _ c.acquire-acquired.new.self c.args.book.now c.hear_piece-heard.new.book
          c.is_some-was_started.result c.confirmed_positions-confirmed.result c.args.number (was_is c) (positions c)
          (few c) c.args.connections.now (raised c) refl refl c.acquire-acquired.result c.acquire-acquired.ensures,
      λ ahead stream some. c.confirmation-confirmed.ensures.ahead (c.is_status_ahead-is_ahead.ensures.is ahead) stream
          (c.stream-3.ensures ∙ some),
    )

pub returns-clause-acquires : goal.returns-clause-acquires
returns-clause-acquires c =
    may_acquire c.args.self.now _ c.acquire-acquired.new.self c.args.book.now c.hear_piece-heard.new.book
    c.is_some-was_started.result c.confirmed_positions-confirmed.result c.args.number (was_is c) (positions c) (few c)
    c.args.connections.now (raised c) refl refl c.acquire-acquired.result c.acquire-acquired.ensures
    (starts_take_slots c.args.self.now.ear c.hear_piece-heard.new.ear c.args.book.now c.hear_piece-heard.new.book
    _ _ c.hear_piece-heard.result c.hear_piece-heard.ensures.left)

pub returns-clause-confirms : goal.returns-clause-confirms
returns-clause-confirms c =
    let same = ear_kept c.args.self.now _ c.acquire-acquired.new.self c.args.book.now c.hear_piece-heard.new.book
    c.is_some-was_started.result c.confirmed_positions-confirmed.result c.args.number (was_is c) (positions c) (few c)
    c.args.connections.now (raised c) refl refl c.acquire-acquired.result c.acquire-acquired.ensures in
    may_confirm c.args.self.now _ c.acquire-acquired.new.self c.args.book.now c.hear_piece-heard.new.book
    c.is_some-was_started.result c.confirmed_positions-confirmed.result c.args.number (was_is c) (positions c) (few c)
    c.args.connections.now (raised c) refl refl c.acquire-acquired.result c.acquire-acquired.ensures c.confirmation-confirmed.result
    (subst (λ (started : Option (ℕ × ℕ)). NotesConfirmed started c.confirmed_positions-confirmed.result
    (book_slots c.hear_piece-heard.new.book) c.confirmation-confirmed.result)
    (c.stream-3.ensures ∙ ap ear_started same) c.confirmation-confirmed.ensures.notes)

pub returns-clause-sent : goal.returns-clause-sent
returns-clause-sent c =
    keeps_sent c.is_some-was_started.result c.confirmed_positions-confirmed.result c.args.number _
    c.acquire-acquired.new.self c.acquire-acquired.result c.acquire-acquired.ensures c.args.connections.now
    c.note_heard-was_over.new.connections
    (subst (λ (started : Option (ℕ × ℕ)). AreSent (sent_started started c.is_some-was_started.result
    (sent_at c.args.connections.now)) c.note_heard-was_over.new.connections) c.stream-4.ensures
    c.note_heard-was_over.ensures.sent)

pub returns-clause-ended : goal.returns-clause-ended
returns-clause-ended c =
    keeps_ended c.is_some-was_started.result c.confirmed_positions-confirmed.result c.args.number _
    c.acquire-acquired.new.self c.acquire-acquired.result c.confirmation-confirmed.result c.acquire-acquired.ensures
    c.args.connections.now c.note_heard-was_over.new.connections
    (subst (λ (started : Option (ℕ × ℕ)). HaveEnded (ended_started started c.is_some-was_started.result
    (ended_at c.args.connections.now)) c.note_heard-was_over.new.connections) c.stream-4.ensures
    c.note_heard-was_over.ensures.ended)
    (ahead_there c.confirmation-confirmed.result c.is_status_ahead-is_ahead.result _ _ c.stream-3.result
    c.stream-4.result (c.stream-3.ensures ∙ sym c.stream-4.ensures) c.note_heard-was_over.new.connections
    c.confirmation-confirmed.ensures.marks c.confirmation-confirmed.ensures.notes
    (λ yes stream some. c.note_heard-was_over.ensures.ahead (c.is_status_ahead-is_ahead.ensures.only yes) stream some))
