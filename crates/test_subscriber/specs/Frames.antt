-- What a subscriber does with the frames of a connection: PostgreSQL 15, 55.4. Streaming Replication Protocol, 55.7.
-- Message Formats (CopyBothResponse, ErrorResponse, CopyData), and 55.8. Error and Notice Message Fields.
use Rattle.std.specs.Prelude.{ℕ, ◌-◌, ◌==◌, ◌&&◌, ◌||◌, max, nat_le, if◌then◌else◌, List, [], ◌∷◌, ◌++◌, length, take, drop, slice_index, codes, Option, Some, None, Result, Ok, Err}
use Rattle.std.specs.Str.{bytes_eq}
use Rattle.copy_frames.specs.Contents.{xlog_data_in, keepalive_in}
use Rattle.copy_frames.specs.Frames.{FrameCut, Rest, Bad, Then}
use Rattle.copy_frames.specs.declared.fault.FrameFault.TheVariants.{BadLength}
use Rattle.copy_frames.specs.declared.frame.Frame.{Frame}
use Rattle.copy_frames.specs.declared.keepalive.Keepalive.{Keepalive}
use Rattle.copy_frames.specs.declared.xlog_data.XLogData.{XLogData}
use Rattle.pgoutput_msgs.specs.Reading.{decoded}
use Rattle.pgoutput_msgs.specs.declared.error.MsgError.{MsgError}
use Rattle.pgoutput_msgs.specs.declared.error.MsgError.TheVariants as e
use Rattle.pgoutput_msgs.specs.declared.message.Msg.{Msg}
use Rattle.test_subscriber.specs.Hearing.{MachineResult, hear}
use Rattle.test_subscriber.specs.Machine.{Machine}
use Rattle.test_subscriber.specs.declared.fault.SubFault.{SubFault}
use Rattle.test_subscriber.specs.declared.fault.SubFault.TheVariants as f
use Rattle.test_subscriber.specs.declared.phase.Phase.{Phase}
use Rattle.test_subscriber.specs.declared.phase.Phase.TheVariants.{Shut, Waiting, Idle, Busy}

-- ---- the answer to the command that starts the stream

-- the code of an ErrorResponse with a severity, twice, a code of five characters and a text, each followed by a zero
-- byte
abbrev pub code_in : List ℕ → Option (List ℕ)
code_in body =
    if nat_le 24 (length body)
    && (bytes_eq (take 15 body) (codes "SERROR" ++ (0 ∷ (codes "VERROR" ++ (0 ∷ codes "C"))))
    && (bytes_eq (take 2 (drop 20 body)) (0 ∷ 77 ∷ []) && bytes_eq (drop (length body - 2) body) (0 ∷ 0 ∷ [])))
    then Some (slice_index body 15 ∷ slice_index body 16 ∷ slice_index body 17 ∷ slice_index body 18
    ∷ slice_index body 19 ∷ []) else None

abbrev pub refused_start : Option (List ℕ) → SubFault
refused_start None = f.OutOfPlace
refused_start (Some code) = f.Refused code

abbrev pub started : Machine → Machine
started machine = record machine { phase = Idle }

-- CopyBothResponse says that the format of the whole is text and that there are no columns
abbrev pub hear_response : List ℕ → Machine → MachineResult
hear_response body machine = if bytes_eq body (0 ∷ 0 ∷ 0 ∷ []) then Ok (started machine) else Err f.OutOfPlace

-- CopyBothResponse or ErrorResponse
abbrev pub hear_start : Frame → Machine → MachineResult
hear_start frame machine =
    if frame.kind == 87 then hear_response frame.body machine
    else (if frame.kind == 69 then Err (refused_start (code_in frame.body)) else Err f.OutOfPlace)

-- ---- the stream

-- a keepalive raises the position, but not in a transaction
abbrev pub raised : Phase → ℕ → ℕ → ℕ
raised Shut number at = at
raised Waiting number at = at
raised Idle number at = max at number
raised (Busy begin) number at = at

abbrev pub kept_alive : Keepalive → Machine → Machine
kept_alive keepalive machine = record machine {
  position = raised machine.phase keepalive.position machine.position;
  wants_reply = machine.wants_reply || keepalive.wants_reply;
}

abbrev pub hear_keepalive : Option Keepalive → Machine → MachineResult
hear_keepalive None machine = Err (f.Frame BadLength)
hear_keepalive (Some keepalive) machine = Ok (kept_alive keepalive machine)

-- the fault of bytes that spell no message, and out of memory
abbrev pub fault_of : MsgError → SubFault
fault_of (e.Unknown found) = f.Msg (e.Unknown found)
fault_of e.Toast = f.Msg e.Toast
fault_of e.BadCount = f.Msg e.BadCount
fault_of e.Short = f.Msg e.Short
fault_of e.BadText = f.Msg e.BadText
fault_of e.Trailing = f.Msg e.Trailing
fault_of e.OutOfMemory = f.OutOfMemory

abbrev pub message_of : Result Msg MsgError → Result Msg SubFault
message_of (Err fault) = Err (f.Msg fault)
message_of (Ok message) = Ok message

abbrev pub hear_decoded : Result Msg MsgError → Machine → MachineResult
hear_decoded (Err fault) machine = Err (f.Msg fault)
hear_decoded (Ok message) machine = hear message machine

abbrev pub hear_data : Option (XLogData × List ℕ) → Machine → MachineResult
hear_data None machine = Err (f.Frame BadLength)
hear_data (Some read) machine = hear_decoded (decoded read.1) machine

-- what CopyData carries, by its first byte: `w` or `k`
abbrev pub hear_content : List ℕ → Machine → MachineResult
hear_content body machine =
    if length body == 0 then Err f.OutOfPlace
    else (if slice_index body 0 == 119 then hear_data (xlog_data_in body) machine
    else (if slice_index body 0 == 107 then hear_keepalive (keepalive_in body) machine else Err f.OutOfPlace))

abbrev pub hear_stream : Frame → Machine → MachineResult
hear_stream frame machine = if frame.kind == 100 then hear_content frame.body machine else Err f.OutOfPlace

-- ---- frames

abbrev pub hear_frame_in : Phase → Frame → Machine → MachineResult
hear_frame_in Shut frame machine = Err f.Closed
hear_frame_in Waiting frame machine = hear_start frame machine
hear_frame_in Idle frame machine = hear_stream frame machine
hear_frame_in (Busy begin) frame machine = hear_stream frame machine

abbrev pub hear_frame : Frame → Machine → MachineResult
hear_frame frame machine = hear_frame_in machine.phase frame machine

-- ---- bytes that are cut into frames

-- the machine after the frames that were heard, and the fault at which it stops, if it stops
pub record MachineHeard : Type 0 where
  pub machine : Machine
  pub fault : Option SubFault

abbrev pub heard_then : Machine → MachineResult → (Machine → MachineHeard) → MachineHeard
heard_then machine (Err fault) more = record { machine = machine; fault = Some fault }
heard_then machine (Ok next) more = more next

abbrev pub hear_cut : FrameCut → Machine → MachineHeard
hear_cut (Rest bytes) machine = record { machine = machine; fault = None }
hear_cut (Bad fault bytes) machine = record { machine = machine; fault = Some (f.Frame fault) }
hear_cut (Then frame more) machine = heard_then machine (hear_frame frame machine) (hear_cut more)
