use Rattle.std.proofs.Common.{◌≡◌, take}
use Rattle.vrepl_main.specs.Adding.{at}
use Rattle.vrepl_main.specs.ScriptPrinting.{HasReplied}
use Rattle.vrepl_main.proofs.lines.take_lines.Given as goal

-- the replies to the steps so far are added, and the feeds are the same
abbrev pub invariant-loop-step : goal.invariant-loop-step
invariant-loop-step g l =
    HasReplied l.fn.fed.feeds l.fn.plan l.fn.fed.board (take l.step-index l.steps) l.fed.board (at (g.W.Out.written l.fn.out) l.fn.text) (at (g.W.Out.written l.out) l.text)
    × (l.fed.feeds ≡ l.fn.fed.feeds)
