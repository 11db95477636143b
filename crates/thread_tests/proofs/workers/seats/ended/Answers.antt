use Rattle.std.proofs.Common.{rules, ◌≡◌, List, [], ◌∷◌, sym, subst}
use Rattle.stream_worker.specs.declared.seat.Seat.{Seat}
use Rattle.stream_worker.specs.SeatOf.{AreApartSeats}
use Rattle.thread_tests.proofs.Pairs.{two_seats}
use Rattle.thread_tests.proofs.workers.seats.ended.Goals as goal

pub end-board-requires-clause-seats : goal.end-board-requires-clause-seats
end-board-requires-clause-seats g c =
    let is : c.in-Ok.seats.items ≡ c.args.two ∷ c.args.one ∷ [] = search rules in
    subst (λ (l : List Seat). AreApartSeats c.args.shared l) (sym is) (two_seats c.args.shared c.args.one c.args.two c.requires.one c.requires.two)
