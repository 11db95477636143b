-- What can happen to one stream of a board.
use Rattle.std.specs.Prelude.{ℕ}
use Rattle.stream_core.specs.declared.step.Step.{Step}
use Rattle.stream_core.specs.declared.step.Step.TheVariants.{Offer, Advance, OpenAt, CopyRows, Close, Restart}
use Rattle.source_feed.specs.Touches.{PreparedValue}

-- a group is offered, the next group is applied, a snapshot is opened at a group, up to so many rows are
-- copied, the snapshot is closed, the stream starts again behind its applied group
pub data Event : Type 0 where
  offer : PreparedValue → Event
  advance : Event
  open_at : ℕ → Event
  copy_rows : ℕ → Event
  close : Event
  restart : Event

-- the step of the step table
abbrev pub step_of : Event → Step
step_of (offer group) = Offer group.number
step_of advance = Advance
step_of (open_at m) = OpenAt m
step_of (copy_rows c) = CopyRows c
step_of close = Close
step_of restart = Restart

-- a fact of the group that is offered, where one is
abbrev pub OnOffer : (PreparedValue → Type 0) → Event → Type 0
OnOffer P (offer group) = P group
OnOffer P event = Unit {0}
