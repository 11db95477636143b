use Rattle.std.proofs.Common.{◌≡◌, ◌≢◌, ℕ, slice_get}
use Rattle.apply_core.specs.Ended.{IsFedBoard}
use Rattle.apply_core.specs.Courses.{left_on}
use Rattle.apply_core.proofs.alone.run_stream.Given as goal

-- every stream reads its feed, and those of other numbers are as they were
abbrev pub invariant-loop : goal.invariant-loop
invariant-loop l = IsFedBoard l.feeds l.board × ((t : ℕ) → t ≢ l.s → slice_get l.board.streams t ≡ slice_get l.initial.board.streams t)

abbrev pub decreases-loop : goal.decreases-loop
decreases-loop l = left_on l.feeds l.board l.s l.course.to_copy
