use Rattle.stream_worker.proofs.board_calls.CloseBoardCall.make.Goals as goal

pub returns-clause-step : goal.returns-clause-step
returns-clause-step c = c.close_snapshot.ensures
