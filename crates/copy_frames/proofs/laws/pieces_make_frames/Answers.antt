use Rattle.copy_frames.proofs.HistoryLemmas.{frame_is_given}
use Rattle.copy_frames.proofs.laws.pieces_make_frames.Goals as goal

pub returns-clause-gives : goal.returns-clause-gives
returns-clause-gives c = frame_is_given
