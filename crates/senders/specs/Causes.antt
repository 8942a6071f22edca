-- Which cause of an end is reported: the first that was met, except that out of memory is reported whatever came
-- first (the project's own).
use Rattle.std.specs.Prelude.{Bool, true, false, ◌||◌, Option, Some, None}
use Rattle.copy_both.specs.declared.link_fault.LinkFault.TheVariants as fault
use Rattle.senders.specs.declared.end.End.{End}
use Rattle.senders.specs.declared.end.End.TheVariants as end
use Rattle.senders.specs.Refusing.{cause_by}
use Rattle.senders.specs.declared.listener_end.ListenerEnd.{ListenerEnd}
use Rattle.senders.specs.declared.listener_end.ListenerEnd.TheVariants as listener_end
use Rattle.senders.specs.declared.sender_end.SenderEnd.{SenderEnd}
use Rattle.senders.specs.declared.sender_end.SenderEnd.TheVariants as sender_end

abbrev pub end_by : SenderEnd → End
end_by sender_end.ConnectionEnded = end.Link fault.OutOfMemory
end_by sender_end.Finished = end.Finished
end_by sender_end.WriteFault = end.WriteFault
end_by sender_end.OutOfMemory = end.Link fault.OutOfMemory

-- the client ended it by the bytes that started the stream, so that only out of memory comes before that
abbrev pub unopened_by : SenderEnd → ListenerEnd → End
unopened_by sender_end.ConnectionEnded why = end_by sender_end.ConnectionEnded
unopened_by sender_end.Finished why = end_by sender_end.Finished
unopened_by sender_end.WriteFault why = cause_by why
unopened_by sender_end.OutOfMemory why = end_by sender_end.OutOfMemory

-- the sender was refused memory
abbrev pub is_refused : SenderEnd → Bool
is_refused sender_end.ConnectionEnded = false
is_refused sender_end.Finished = false
is_refused sender_end.WriteFault = false
is_refused sender_end.OutOfMemory = true

-- the sender's cause goes before the listener's: it came first, and the listener was not refused memory
abbrev pub goes_first : Bool → ListenerEnd → Bool
goes_first is_first (listener_end.Fault fault.OutOfMemory) = false
goes_first is_first other = is_first

abbrev pub chosen_by : SenderEnd → Bool → ListenerEnd → End
chosen_by stop true why = end_by stop
chosen_by stop false why = cause_by why

-- the sender's, if it was refused memory or goes first, or if the listener has none
abbrev pub chosen : SenderEnd → Bool → Option ListenerEnd → End
chosen stop is_first None = end_by stop
chosen stop is_first (Some why) = chosen_by stop (is_refused stop || goes_first is_first why) why
