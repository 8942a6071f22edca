-- What CopyData carries while a stream runs, and the frames that begin and end it ("55.4. Streaming Replication
-- Protocol", "55.7. Message Formats").
use Rattle.std.specs.Prelude.{ℕ, ◌==◌, Bool, true, false, not, if◌then◌else◌, nat_le, List, [], ◌∷◌, ◌++◌, length, take, drop, slice_index, Option, Some, None}
use Rattle.std.specs.Int.{to_be_bytes, from_be_bytes, w64}
use Rattle.copy_frames.specs.declared.keepalive.Keepalive.{Keepalive}
use Rattle.copy_frames.specs.declared.status.Status.{Status}
use Rattle.copy_frames.specs.declared.xlog_data.XLogData.{XLogData}
use Rattle.copy_frames.specs.Frames.{framed}

-- ---- how it is spelled: a number has 64 bits, the high byte first

abbrev pub flag : Bool → ℕ
flag true = 1
flag false = 0

-- the format of the whole is text, and there are no columns
abbrev pub copy_both_response : List ℕ
copy_both_response = framed (record { kind = 87; body = 0 ∷ 0 ∷ 0 ∷ [] })

abbrev pub copy_done : List ℕ
copy_done = framed (record { kind = 99; body = [] })

abbrev pub copy_data : List ℕ → List ℕ
copy_data body = framed (record { kind = 100; body = body })

-- `w`, and then a message
abbrev pub xlog_data_body : XLogData → List ℕ → List ℕ
xlog_data_body head message =
    119 ∷ (to_be_bytes w64 head.start
    ++ (to_be_bytes w64 head.end ++ (to_be_bytes w64 head.clock ++ message)))

-- `k`
abbrev pub keepalive_body : Keepalive → List ℕ
keepalive_body keepalive =
    107 ∷ (to_be_bytes w64 keepalive.position ++ (to_be_bytes w64 keepalive.clock ++ (flag keepalive.wants_reply ∷ [])))

-- `r`
abbrev pub status_body : Status → List ℕ
status_body status =
    114 ∷ (to_be_bytes w64 status.written
    ++ (to_be_bytes w64 status.flushed ++ (to_be_bytes w64 status.applied
    ++ (to_be_bytes w64 status.clock ++ (flag status.wants_reply ∷ [])))))

-- ---- what is read of it, after the byte for its kind

abbrev pub number_at : ℕ → List ℕ → ℕ
number_at place bytes = from_be_bytes w64 (take 8 (drop place bytes))

-- any byte other than zero is yes
abbrev pub flag_at : ℕ → List ℕ → Bool
flag_at place bytes = not (slice_index bytes place == 0)

-- the head, of 25 bytes, and the message
abbrev pub xlog_data_in : List ℕ → Option (XLogData × List ℕ)
xlog_data_in body =
    if nat_le 25 (length body) then
    Some (record { start = number_at 1 body; end = number_at 9 body; clock = number_at 17 body }, drop 25 body)
    else None

abbrev pub keepalive_in : List ℕ → Option Keepalive
keepalive_in body =
    if length body == 18 then
    Some (record { position = number_at 1 body; clock = number_at 9 body; wants_reply = flag_at 17 body })
    else None

abbrev pub status_in : List ℕ → Option Status
status_in body =
    if length body == 34 then
    Some (record {
      written = number_at 1 body;
      flushed = number_at 9 body;
      applied = number_at 17 body;
      clock =
          number_at 25 body;
      wants_reply = flag_at 33 body;
    })
    else None
