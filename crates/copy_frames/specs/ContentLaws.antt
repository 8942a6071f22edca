-- What is carried in CopyData is read as it was spelled.
use Rattle.std.specs.Prelude.{◌≡◌, ℕ, ◌<◌, ◌^◌, List, Some}
use Rattle.copy_frames.specs.declared.keepalive.Keepalive.{Keepalive}
use Rattle.copy_frames.specs.declared.status.Status.{Status}
use Rattle.copy_frames.specs.declared.xlog_data.XLogData.{XLogData}
use Rattle.copy_frames.specs.Contents.{xlog_data_body, xlog_data_in, keepalive_body, keepalive_in, status_body, status_in}

abbrev pub XLogDataIsRead : Type 0
XLogDataIsRead = (head : XLogData) (message : List ℕ) → head.start < 2 ^ 64 → head.end < 2 ^ 64 → head.clock < 2 ^ 64
    → xlog_data_in (xlog_data_body head message) ≡ Some (head, message)

abbrev pub KeepaliveIsRead : Type 0
KeepaliveIsRead = (keepalive : Keepalive) → keepalive.position < 2 ^ 64 → keepalive.clock < 2 ^ 64
    → keepalive_in (keepalive_body keepalive) ≡ Some keepalive

abbrev pub StatusIsRead : Type 0
StatusIsRead = (status : Status) → status.written < 2 ^ 64 → status.flushed < 2 ^ 64 → status.applied < 2 ^ 64
    → status.clock < 2 ^ 64
    → status_in (status_body status) ≡ Some status
