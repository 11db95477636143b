use Rattle.stream_worker.proofs.board_calls.OpenAtBoardCall.make.Goals as goal

pub returns-clause-step : goal.returns-clause-step
returns-clause-step c = c.open_snapshot.ensures
