use Rattle.std.proofs.Common.{◌≡◌, ◌≤◌, length, take}
use Rattle.std.specs.Vec.{vec_len, vec_capacity}
use Rattle.board_laws.specs.Schedule.{IsRun}
use Rattle.apply_core.specs.Ended.{IsFedBoard}
use Rattle.apply_core.proofs.schedule.fed_replies.Given as goal

-- the steps so far have these replies and leave this board, which reads its feeds, and there is room for the others'
abbrev pub invariant-loop-s : goal.invariant-loop-s
invariant-loop-s l = IsRun l.feeds l.fn.board (take l.s-index l.steps) l.replies.items l.board × (vec_len l.replies ≡ l.s-index) × (length l.steps ≤ vec_capacity l.replies) × IsFedBoard l.feeds l.board
