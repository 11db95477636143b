use Rattle.std.proofs.Common.{◌≡◌}
use Rattle.apply_core.specs.Ended.{OthersStay}
use Rattle.vrepl_main.proofs.ahead.stream_ahead.Given as goal

-- the feeds are the same, and the other streams are as they were
abbrev pub invariant-loop-step : goal.invariant-loop-step
invariant-loop-step g l = (l.fed.feeds ≡ l.fn.fed.feeds) × OthersStay l.s l.fn.fed.board l.fed.board
