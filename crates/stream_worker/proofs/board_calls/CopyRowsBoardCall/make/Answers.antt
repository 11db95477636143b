use Rattle.stream_worker.proofs.board_calls.CopyRowsBoardCall.make.Goals as goal

pub returns-clause-step : goal.returns-clause-step
returns-clause-step c = c.copy_with_marks.ensures.step

pub returns-clause-gives : goal.returns-clause-gives
returns-clause-gives c = c.copy_with_marks.ensures.marks
