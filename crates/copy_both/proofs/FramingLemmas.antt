-- Messages are framed one after another.
use Rattle.std.proofs.Common.{◌≡◌, ℕ, ◌+◌, ◌<◌, ◌≤◌, Option, Some, None, List, [], ◌∷◌, ◌++◌, length, length-append, take, drop, refl, sym, ap, ◌∙◌, append_assoc, append-nil, arith}
use Rattle.std.specs.Prelude.{All, map}
use Rattle.std.specs.Int.{to_be_bytes, w32, w64}
use Rattle.std.proofs.lemmas.List.{take_at, take_all, drop_at, drop_all}
use Rattle.std.proofs.lemmas.List.Concat.{flat_map-cons}
use Rattle.std.proofs.lemmas.List.Elements.{All-nil, All-cons}
use Rattle.copy_frames.specs.Contents.{xlog_data_body}
use Rattle.copy_frames.specs.declared.xlog_data.XLogData.{XLogData}
use Rattle.pgoutput_msgs.specs.Ranges.{HasTexts, IsMaybeOldText}
use Rattle.pgoutput_msgs.specs.Sinks.{TakesEach}
use Rattle.pgoutput_msgs.specs.Spelling.{spelling_of, maybe_delete_spelling}
use Rattle.pgoutput_msgs.specs.Telling.{begin_msg, commit_msg, enclosed, oid_of, old_of, maybe_old_of, message_of, named_in}
use Rattle.pgoutput_msgs.specs.declared.message.Msg.{Msg}
use Rattle.pgoutput_msgs.specs.declared.message.Msg.TheVariants as m
use Rattle.pgoutput_msgs.proofs.SentLemmas.{plain_delete}
use Rattle.table_changes.specs.Records as r
use Rattle.tables_log.specs.Sendable.{IsSendablePart, IsTableNumber}
use Rattle.pgoutput_msgs.proofs.SinkLemmas.{takes_both, takes_message}
use Rattle.tables_log.specs.Commits.{CommitOf}
use borrow.Rule.Slice.PartMut.{put_mid}
use Rattle.copy_both.specs.Voices.{taken_of}
use Rattle.copy_both.specs.declared.taken.Taken.TheVariants.{Skipped, Sent}
use Rattle.copy_both.specs.Framing.{frames_with, opening, AddsFrame}
use Rattle.copy_both.specs.Streams.{Carries, spelled}
use Rattle.copy_both.specs.declared.frames.Frames.{Frames}

-- ---- one frame

pub body_with : (head : XLogData) (message : List ℕ) → xlog_data_body head [] ++ message ≡ xlog_data_body head message
body_with head message =
    let start = to_be_bytes w64 head.start in
    let end = to_be_bytes w64 head.end in
    let clock = to_be_bytes w64 head.clock in
    ap (λ (x : List ℕ). 119 ∷ x)
    (append_assoc start (end ++ (clock ++ [])) message ∙ ap (λ (x : List ℕ). start ++ x)
    (append_assoc end (clock ++ []) message ∙ ap (λ (x : List ℕ). end ++ x)
    (ap (λ (x : List ℕ). x ++ message) (append-nil clock))))

-- what was opened and has its message
pub opened_with : (old opened written : List ℕ) (head : XLogData) (message : List ℕ) → opened ≡ old ++ opening head
    → written ≡ opened ++ message
    → written ≡ old ++ 100 ∷ 0 ∷ 0 ∷ 0 ∷ 0 ∷ xlog_data_body head message
opened_with old opened written head message begins wrote =
    wrote ∙ ap (λ (x : List ℕ). x ++ message) begins ∙ append_assoc old (opening head) message
    ∙ ap (λ (x : List ℕ). old ++ 100 ∷ 0 ∷ 0 ∷ 0 ∷ 0 ∷ x) (body_with head message)

-- where the length is filled in after the frame was opened
pub closed_with : (front body length_bytes : List ℕ) (start : ℕ) → length front ≡ start
    → put_mid (start + 1) 4 (front ++ 100 ∷ 0 ∷ 0 ∷ 0 ∷ 0 ∷ body) length_bytes ≡ front ++ 100 ∷ (length_bytes ++ body)
closed_with front body length_bytes start at =
    let first : List ℕ = front ++ 100 ∷ [] in
    let rest : List ℕ = 0 ∷ 0 ∷ 0 ∷ 0 ∷ body in
    let long : length first ≡ start + 1 = omega (arith, length-append front (100 ∷ []), at) in
    ap (λ (x : List ℕ). put_mid (start + 1) 4 x length_bytes) (sym (append_assoc front (100 ∷ []) rest))
    ∙ ap (λ (x : List ℕ). x ++ (length_bytes ++ drop 4 (drop (start + 1) (first ++ rest))))
    (take_at first rest (start + 1) long)
    ∙ ap (λ (x : List ℕ). first ++ (length_bytes ++ drop 4 x)) (drop_at first rest (start + 1) long)
    ∙ append_assoc front (100 ∷ []) (length_bytes ++ body)

-- this way it is written back into the output
pub written_back : (items shown copied front body : List ℕ) (len start count : ℕ) → len ≡ length items → shown ≡ items
    → count ≡ 4 → length front ≡ start
    → items ≡ front ++ 100 ∷ 0 ∷ 0 ∷ 0 ∷ 0 ∷ body → copied ≡ to_be_bytes w32 (length body + 4)
    → take len (put_mid (start + 1) count shown copied
    ++ drop (length (put_mid (start + 1) count shown copied)) items) ≡ front ++ 100
    ∷ (to_be_bytes w32 (length body + 4) ++ body)
written_back items shown copied front body len start count long show four at is wrote =
    let bytes : List ℕ = to_be_bytes w32 (length body + 4) in
    let closed : List ℕ = front ++ 100 ∷ (bytes ++ body) in
    let mid : put_mid (start + 1) count shown copied ≡ closed =
    ap (λ (n : ℕ). put_mid (start + 1) n shown copied) four ∙ ap (λ (x : List ℕ). put_mid (start + 1) 4 shown x) wrote
    ∙ ap (λ (x : List ℕ). put_mid (start + 1) 4 x bytes) (show ∙ is) ∙ closed_with front body bytes start at in
    let same : length items ≡ length closed =
    omega (
      arith,
      ap length is,
      length-append front (100 ∷ 0 ∷ 0 ∷ 0 ∷ 0 ∷ body),
      length-append front (100 ∷ (bytes ++ body)),
    ) in
    ap (λ (x : List ℕ). take len (x ++ drop (length x) items)) mid
    ∙ ap (λ (x : List ℕ). take len (closed ++ x)) (drop_all (length closed) items (omega (arith, same)))
    ∙ ap (take len) (append-nil closed) ∙ take_all len closed (omega (arith, same, long))

pub frame_room : (old written : List ℕ) (head : XLogData) (message : List ℕ)
    → written ≡ old ++ 100 ∷ 0 ∷ 0 ∷ 0 ∷ 0 ∷ xlog_data_body head message
    → length written ≡ length old + (length message + 30)
frame_room old written head message is =
    let start = to_be_bytes w64 head.start in
    let end = to_be_bytes w64 head.end in
    let clock = to_be_bytes w64 head.clock in
    omega (
      arith,
      ap length is,
      length-append old (100 ∷ 0 ∷ 0 ∷ 0 ∷ 0 ∷ xlog_data_body head message),
      length-append start (end ++ (clock ++ message)),
      length-append end (clock ++ message),
      length-append clock message,
    )

-- there is room in a frame for the length of its message
pub frame_short : (old opened written : List ℕ) (start : ℕ) (head : XLogData) (message : List ℕ) → start ≡ length old
    → opened ≡ old ++ opening head → written ≡ opened ++ message
    → length message ≤ 13108011 → length written < start + 2147483648
frame_short old opened written start head message at begins wrote short =
    omega (
      arith,
      at,
      short,
      frame_room old written head message (opened_with old opened written head message begins wrote),
    )

-- a frame that was opened, has its message and is closed was added
pub frame_added : (old new : Frames) (opened written : List ℕ) (start : ℕ) (message : Msg) → new.head ≡ old.head
    → start ≡ length old.bytes.items
    → opened ≡ old.bytes.items ++ opening old.head → written ≡ opened ++ spelling_of message
    → ((front body : List ℕ) → length front ≡ start → written ≡ front ++ 100 ∷ 0 ∷ 0 ∷ 0 ∷ 0 ∷ body
    → new.bytes.items ≡ front ++ 100 ∷ (to_be_bytes w32 (length body + 4) ++ body))
    → HasTexts message → AddsFrame old new message
frame_added old new opened written start message head at begins wrote closes texts = record {
  head = head;
  appended = closes old.bytes.items (xlog_data_body old.head (spelling_of message)) (sym at)
      (opened_with old.bytes.items opened written old.head (spelling_of message) begins wrote);
  texts = texts;
}

-- a frame that was added after room was made was added
pub added_in_room : (old roomy new : Frames) (message : Msg) → roomy.head ≡ old.head
    → roomy.bytes.items ≡ old.bytes.items → AddsFrame roomy new message → AddsFrame old new message
added_in_room old roomy new message head bytes adds = record {
  head = adds.head ∙ head;
  appended = adds.appended ∙ ap (λ (front : List ℕ). front ++ spelled (Carries roomy.head message)) bytes
      ∙ ap (λ (head : XLogData). old.bytes.items ++ spelled (Carries head message)) head;
  texts = adds.texts;
}

-- the Delete of what is recorded of a row, if something is
pub gone_added : (old new : Frames) (opened written : List ℕ) (start table : ℕ) (part : Option r.PartOf)
    → named_in (r.Delete table part) ≡ table ∷ [] → new.head ≡ old.head
    → start ≡ length old.bytes.items → opened ≡ old.bytes.items ++ opening old.head
    → written ≡ opened ++ maybe_delete_spelling (oid_of table) (maybe_old_of part)
    → ((front body : List ℕ) → length front ≡ start → written ≡ front ++ 100 ∷ 0 ∷ 0 ∷ 0 ∷ 0 ∷ body
    → new.bytes.items ≡ front ++ 100 ∷ (to_be_bytes w32 (length body + 4) ++ body))
    → IsMaybeOldText (maybe_old_of part) → TakesEach AddsFrame old new (message_of (r.Delete table part))
gone_added old new opened written start table None named head at begins wrote closes texts = absurd cc
gone_added old new opened written start table (Some part) named head at begins wrote closes texts =
    takes_message AddsFrame old new (m.Delete (oid_of table) (old_of part))
    (frame_added old new opened written start (m.Delete (oid_of table) (old_of part)) head at begins wrote closes texts)

pub gone_short : (table : ℕ) (part : Option r.PartOf) → IsTableNumber table → IsSendablePart part
    → length (maybe_delete_spelling (oid_of table) (maybe_old_of part)) ≤ 13108011
gone_short table None number old = omega arith
gone_short table (Some part) number old = (plain_delete table part number old).short

-- ---- frames one after another

frames_cons : (head : XLogData) (message : Msg) (messages : List Msg)
    → frames_with head (message ∷ messages) ≡ spelled (Carries head message) ++ frames_with head messages
frames_cons head message messages = flat_map-cons spelled (Carries head message) (map (Carries head) messages)

pub record AddsFrames (old new : Frames) (messages : List Msg) : Type 0 where
  pub head : new.head ≡ old.head
  pub appended : new.bytes.items ≡ old.bytes.items ++ frames_with old.head messages
  pub texts : All HasTexts messages

pub all_framed : (old new : Frames) (messages : List Msg) → TakesEach AddsFrame old new messages
    → AddsFrames old new messages
all_framed old new [] is = record {
  head = ap (λ (frames : Frames). frames.head) is;
  appended = ap (λ (frames : Frames). frames.bytes.items) is ∙ sym (append-nil old.bytes.items);
  texts = All-nil HasTexts;
}
all_framed old new (message ∷ messages) took =
    let next = took.0 in
    let one = took.1 in
    let others = all_framed next new messages took.2 in
    record {
      head = others.head ∙ one.head;
      appended = others.appended ∙ ap (λ (x : List ℕ). x ++ frames_with next.head messages) one.appended
          ∙ append_assoc old.bytes.items (spelled (Carries old.head message)) (frames_with next.head messages)
          ∙ ap (λ (head : XLogData). old.bytes.items
          ++ (spelled (Carries old.head message) ++ frames_with head messages)) one.head
          ∙ ap (λ (x : List ℕ). old.bytes.items ++ x) (sym (frames_cons old.head message messages));
      texts = All-cons HasTexts message messages one.texts others.texts;
    }

-- frames are not empty
pub some_bytes : (head : XLogData) (message : Msg) (messages : List Msg)
    → 0 < length (frames_with head (message ∷ messages))
some_bytes head message messages =
    omega (
      arith,
      ap length (frames_cons head message messages),
      length-append (spelled (Carries head message)) (frames_with head messages),
    )

-- ---- the frames of a commit

-- if nothing was added after Begin, the commit has no message
pub none_framed : (commit : CommitOf) (begin filled : Frames) (said : List Msg) → TakesEach AddsFrame begin filled said
    → length filled.bytes.items ≡ length begin.bytes.items
    → enclosed commit said ≡ []
none_framed commit begin filled [] took same = refl
none_framed commit begin filled (message ∷ messages) took same =
    let all = all_framed begin filled (message ∷ messages) took in
    absurd (omega (
      arith,
      same,
      ap length all.appended,
      length-append begin.bytes.items (frames_with begin.head (message ∷ messages)),
      some_bytes begin.head message messages,
    ))

-- otherwise all its messages are in frames
pub commit_framed : (commit : CommitOf) (new begin filled ended : Frames) (said : List Msg)
    → AddsFrame new begin (begin_msg commit)
    → TakesEach AddsFrame begin filled said → (length filled.bytes.items ≡ length begin.bytes.items → ⊥)
    → AddsFrame filled ended (commit_msg commit)
    → AddsFrames new ended (enclosed commit said)
commit_framed commit new begin filled ended [] one took more last =
    absurd (more (ap (λ (frames : Frames). length frames.bytes.items) took))
commit_framed commit new begin filled ended (message ∷ messages) one took more last =
    all_framed new ended (begin_msg commit ∷ (message ∷ messages) ++ commit_msg commit ∷ []) (
      begin,
      one,
      takes_both AddsFrame begin filled ended (message ∷ messages) (commit_msg commit ∷ []) took
          (ended, last, refl),
    )

-- ---- the result of a commit

pub skipped_if : (head : XLogData) (number : ℕ) (messages : List Msg) → length (frames_with head messages) ≡ 0
    → taken_of number messages ≡ Skipped number
skipped_if head number [] none = refl
skipped_if head number (message ∷ messages) none = absurd (omega (arith, none, some_bytes head message messages))

pub sent_if : (head : XLogData) (number : ℕ) (messages : List Msg) → (length (frames_with head messages) ≡ 0 → ⊥)
    → taken_of number messages ≡ Sent number
sent_if head number [] some = absurd (some refl)
sent_if head number (message ∷ messages) some = refl
