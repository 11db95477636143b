use Rattle.thread_tests.proofs.workers.readers.sends_the_rest.Given as goal

-- the channel is of this feed, behind so many groups
abbrev pub ghosts-sent : goal.ghosts-sent
ghosts-sent g a = record { feed = a.feed.now; read = a.read }
