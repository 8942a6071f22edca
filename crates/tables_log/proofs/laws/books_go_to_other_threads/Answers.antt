use denote.Param.Send.{param_send, arg_send}
use Rattle.tables_log.proofs.Crossing.{book_send}
use Rattle.tables_log.proofs.laws.books_go_to_other_threads.Goals as goal

pub goes_to_another_thread-requires-send-T : goal.goes_to_another_thread-requires-send-T
goes_to_another_thread-requires-send-T c κs = search (book_send, param_send, arg_send)
