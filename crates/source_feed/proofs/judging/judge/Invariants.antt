use Rattle.std.proofs.Common.{◌≡◌, drop}
use Rattle.std.specs.Result.{result_err}
use Rattle.source_feed.specs.Touches.{touches_of}
use Rattle.source_feed.proofs.judging.judge.Given as goal

-- the changes that follow decide as all of them do
abbrev pub invariant-loop-change : goal.invariant-loop-change
invariant-loop-change l =
    result_err (touches_of l.plan l.group.number (drop l.change-index l.changes)) ≡ result_err (touches_of l.plan l.group.number l.changes)
