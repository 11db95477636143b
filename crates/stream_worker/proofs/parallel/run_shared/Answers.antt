use Rattle.stream_worker.proofs.RunsLeaveSeats.{opened-seated}
use Rattle.stream_worker.proofs.BoardsBehindRuns.{run-seats, run-fed, run-outcome, run-lowest}
use Rattle.stream_worker.proofs.parallel.run_shared.Goals as goal

pub run_seats-requires-after_bounds : goal.run_seats-requires-after_bounds
run_seats-requires-after_bounds g c κs within = opened-seated c.args.feeds.now c.args.board c.requires c.in-Ok.shared c.in-Ok.seats.items c.in-Ok.ensures.opened

pub end-board-requires-clause-seats : goal.end-board-requires-clause-seats
end-board-requires-clause-seats g c = run-seats c.args.feeds.now c.args.board c.requires c.in-Ok.shared c.in-Ok.seats.items c.in-Ok.ensures.opened c.in_ok-rans.rans.items c.in_ok-rans.ensures.count c.in_ok-rans.ensures.ran c.in_ok-seats.seats.items c.in_ok-seats.ensures.seats

pub returns-clause-board : goal.returns-clause-board
returns-clause-board g c = run-fed c.args.feeds.now c.args.board c.requires c.in-Ok.shared c.in-Ok.seats.items c.in-Ok.ensures.opened c.in_ok-rans.rans.items c.in_ok-rans.ensures.count c.in_ok-rans.ensures.ran c.in_ok-seats.seats.items c.in_ok-seats.ensures.seats c.end-board.result c.is_lawful.ensures c.end-board.ensures.states c.end-board.ensures.seen c.end-board.ensures.many

pub returns-clause-outcome : goal.returns-clause-outcome
returns-clause-outcome g c = run-outcome c.args.feeds.now c.args.board c.requires c.in-Ok.shared c.in-Ok.seats.items c.in-Ok.ensures.opened c.in_ok-rans.rans.items c.in_ok-rans.ensures.count c.in_ok-rans.ensures.ran c.in_ok-seats.seats.items c.in_ok-seats.ensures.seats c.end-board.result c.is_lawful.ensures c.end-board.ensures.states c.end-board.ensures.seen c.end-board.ensures.many c.in_ok-seats.refusal c.in_ok-seats.ensures.lowest

pub returns-clause-lowest : goal.returns-clause-lowest
returns-clause-lowest g c = run-lowest c.args.feeds.now c.args.board c.requires c.in-Ok.shared c.in-Ok.seats.items c.in-Ok.ensures.opened c.in_ok-rans.rans.items c.in_ok-rans.ensures.count c.in_ok-rans.ensures.ran c.in_ok-seats.seats.items c.in_ok-seats.ensures.seats c.end-board.result c.is_lawful.ensures c.end-board.ensures.states c.end-board.ensures.seen c.end-board.ensures.many c.in_ok-seats.refusal c.in_ok-seats.ensures.lowest
