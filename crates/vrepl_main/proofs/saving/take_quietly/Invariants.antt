use Rattle.std.proofs.Common.{◌≡◌, ◌≤◌, take}
use Rattle.vrepl_main.specs.SavedBoard.{IsBehind}
use Rattle.vrepl_main.proofs.saving.take_quietly.Given as goal

-- the steps so far are taken, and none wanted memory; the feeds are the same
abbrev pub invariant-loop-step : goal.invariant-loop-step
invariant-loop-step l = IsBehind l.fn.fed.feeds l.fn.fed.board (take l.step-index l.steps) l.refused l.fed.board × (l.fed.feeds ≡ l.fn.fed.feeds) × (l.refused ≤ l.step-index)
