use Rattle.worker_rounds.proofs.round.round_with.Given as goal

-- the round begins with this board and its feeds
abbrev pub ghosts-round_of : goal.ghosts-round_of
ghosts-round_of g a = record { fed = record { board = a.board; feeds = a.feeds.now }; most = a.most }
