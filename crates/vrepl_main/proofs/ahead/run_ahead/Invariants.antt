use Rattle.std.proofs.Common.{◌≡◌}
use Rattle.vrepl_main.proofs.ahead.run_ahead.Given as goal

-- the feeds are the same
abbrev pub invariant-loop-stream : goal.invariant-loop-stream
invariant-loop-stream g l = l.fed.feeds ≡ l.fn.fed.feeds
