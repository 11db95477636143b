-- A group that is offered while the board is held (this profile).
use Rattle.std.specs.Prelude.{◌≡◌, Option, IfSome}
use Rattle.source_feed.specs.Touches.{PreparedValue}
use Rattle.board_laws.specs.Meaning.{State}
use Rattle.stream_worker.specs.declared.board_calls.OfPlan.{OfPlan}
use Rattle.stream_worker.specs.declared.board_calls.OfPlan.TheVariants.{Any, Own}

-- it is of the plan that is told: of any, or of the stream's, where there is one
abbrev pub IsOfThatPlan : OfPlan → PreparedValue → Option State → Type 0
IsOfThatPlan (Any alloc) group before = Unit {0}
IsOfThatPlan Own group before = IfSome before (λ state. group.plan ≡ state.plan)
