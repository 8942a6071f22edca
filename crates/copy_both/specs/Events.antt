-- What a client sends while a stream runs: a status in CopyData, or the end by CopyDone, CopyFail or Terminate ("55.4.
-- Streaming Replication Protocol", "55.7. Message Formats").
use Rattle.std.specs.Prelude.{ℕ, Bool, ◌==◌, ◌||◌, if◌then◌else◌, List, slice_get, Option, Some, None, Result, Ok, Err}
use Rattle.copy_frames.specs.Contents.{status_in}
use Rattle.copy_frames.specs.declared.status.Status.{Status}
use Rattle.copy_both.specs.declared.event.Event.{Event}
use Rattle.copy_both.specs.declared.event.Event.TheVariants as event
use Rattle.copy_both.specs.declared.link_fault.LinkFault.{LinkFault}
use Rattle.copy_both.specs.declared.link_fault.LinkFault.TheVariants.{BadLength, Unexpected}

-- a status has 34 bytes
abbrev pub read_event : Option Status → Result Event LinkFault
read_event None = Err BadLength
read_event (Some status) = Ok (event.Status status)

abbrev pub status_event : List ℕ → Result Event LinkFault
status_event body = read_event (status_in body)

-- CopyData by its first byte, `r` for a status; an empty one by its kind, `d`
abbrev pub headed_event : Option ℕ → List ℕ → Result Event LinkFault
headed_event None body = Err (Unexpected 100)
headed_event (Some byte) body = if byte == 114 then status_event body else Err (Unexpected byte)

abbrev pub data_event : List ℕ → Result Event LinkFault
data_event body = headed_event (slice_get body 0) body

-- `c` is CopyDone, `f` CopyFail and `X` Terminate
abbrev pub is_end : ℕ → Bool
is_end kind = kind == 99 || (kind == 102 || kind == 88)

-- `d` is CopyData
abbrev pub event_of : ℕ → List ℕ → Result Event LinkFault
event_of kind body =
    if kind == 100 then data_event body else
    if is_end kind then Ok (event.End kind) else
    Err (Unexpected kind)
