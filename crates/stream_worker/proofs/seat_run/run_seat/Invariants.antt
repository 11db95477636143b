use Rattle.stream_worker.proofs.seat_run.run_seat.Given as goal

-- the reader's channel is of the seat's own feed, behind what its stream has read
abbrev pub ghosts-beside_reader : goal.ghosts-beside_reader
ghosts-beside_reader g a = record { feed = a.feed.now; read = a.seat.cursor.read }
