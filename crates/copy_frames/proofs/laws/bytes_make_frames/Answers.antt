use Rattle.copy_frames.proofs.WholeLemmas.{bytes_are_frames, only_of_these}
use Rattle.copy_frames.proofs.laws.bytes_make_frames.Goals as goal

pub returns-clause-made : goal.returns-clause-made
returns-clause-made c = bytes_are_frames

pub returns-clause-only : goal.returns-clause-only
returns-clause-only c = only_of_these
