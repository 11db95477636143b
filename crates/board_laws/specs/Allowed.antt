-- What a stream's own state says of a step: that it may be made, or why not.
use Rattle.std.specs.Prelude.{◌≡◌, ◌≢◌, ◌⊎◌, ◌+◌, ◌-◌, ◌≤◌, List, [], length, Some, Err, IsOk, slice_get}
use Rattle.std.specs.Option.{option_map_or}
use Rattle.stream_core.specs.declared.refusal.CoreRefusal.{CoreRefusal}
use Rattle.stream_core.specs.StepTable.{decided}
use Rattle.source_feed.specs.GroupOrder.{IsProperPart}
use Rattle.source_feed.specs.GroupValue.{Position}
use Rattle.source_feed.specs.Touches.{PreparedValue}
use Rattle.board_laws.specs.Meaning.{State}
use Rattle.board_laws.specs.Lawful.{standing_of}
use Rattle.board_laws.specs.Event.{Event, offer, step_of}

-- ---- an offered group and the groups that are read

-- the position that was read last; at first the empty set
abbrev pub last_position : List PreparedValue → Position
last_position list = option_map_or (λ group. group.position) (slice_get list (length list - 1)) []

-- the group was read before: it is in the list at its number
pub record IsRead (list : List PreparedValue) (group : PreparedValue) : Type 0 where
  pub within : group.number ≤ length list
  pub same : slice_get list (group.number - 1) ≡ Some group

-- the group is the next one: its number is, and its position goes on from the last one
pub record IsNext (list : List PreparedValue) (group : PreparedValue) : Type 0 where
  pub number : group.number ≡ length list + 1
  pub growing : IsProperPart (last_position list) group.position

-- the group is of another history: at its number the list has another group, or it has the next number and its
-- position doesn't go on from the last one
abbrev pub Diverges : List PreparedValue → PreparedValue → Type 0
Diverges list group =
    ((group.number ≤ length list) × (slice_get list (group.number - 1) ≢ Some group))
    ⊎ ((group.number ≡ length list + 1) × (¬ IsProperPart (last_position list) group.position))

-- ---- a step

-- an offered group is of the stream's plan
abbrev pub IsOwnPlan : State → Event → Type 0
IsOwnPlan state (offer group) = group.plan ≡ state.plan
IsOwnPlan state event = Unit {0}

-- an offered group is of another history
abbrev pub IsDiverged : State → Event → Type 0
IsDiverged state (offer group) = Diverges state.list group
IsDiverged state event = ⊥

-- an offered group was read before, or is the next one
abbrev pub IsInPlace : State → Event → Type 0
IsInPlace state (offer group) = IsRead state.list group ⊎ IsNext state.list group
IsInPlace state event = Unit {0}

-- nothing that the stream has itself is against the step
pub record IsAllowed (state : State) (event : Event) : Type 0 where
  pub plan : IsOwnPlan state event
  pub place : IsInPlace state event
  pub table : IsOk (decided (standing_of state) (step_of event))

-- the step table refuses the step, by its first refusal, and nothing comes before it
pub record IsRefusedByTable (state : State) (event : Event) (refusal : CoreRefusal) : Type 0 where
  pub plan : IsOwnPlan state event
  pub history : ¬ IsDiverged state event
  pub table : decided (standing_of state) (step_of event) ≡ Err refusal
