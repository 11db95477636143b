use Rattle.std.proofs.Common.{refl}
use Rattle.apply_core.proofs.CopyLaws.{chunk_marks, chunk_wants}
use Rattle.apply_core.proofs.board.Board.copy_with_marks.Goals as goal

pub returns-in_default-clause-step : goal.returns-in_default-clause-step
returns-in_default-clause-step c = chunk_wants c.args.self.now c.args.s c.args.c _ c.in_ok-chunk.ensures.chunk

pub returns-clause-marks : goal.returns-clause-marks
returns-clause-marks c = chunk_marks _ _ refl c.args.s c.args.c _ c.in_ok-chunk.ensures.chunk _ c.in-Ok.ensures
