use Rattle.std.proofs.Common.{◌≡◌}
use Rattle.apply_core.specs.Ended.{AreAsBefore}
use Rattle.vrepl_main.proofs.ahead.named_ahead.Given as goal

-- the feeds are the same, and the streams that aren't named are as they were
abbrev pub invariant-loop-i : goal.invariant-loop-i
invariant-loop-i g l = (l.fed.feeds ≡ l.fn.fed.feeds) × AreAsBefore l.streams l.fn.fed.board l.fed.board
