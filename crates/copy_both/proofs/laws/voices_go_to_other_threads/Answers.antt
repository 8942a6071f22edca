use denote.Param.Send.{param_send, arg_send}
use Rattle.copy_both.proofs.Crossing.{voice_send}
use Rattle.copy_both.proofs.laws.voices_go_to_other_threads.Goals as goal

pub goes_to_another_thread-requires-send-T : goal.goes_to_another_thread-requires-send-T
goes_to_another_thread-requires-send-T c κs = search (voice_send, param_send, arg_send)
