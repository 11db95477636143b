-- Why it can't be said up to which group a feed is compacted (this profile).
use Rattle.std.specs.Prelude.{◌≡◌, ◌⊎◌, ℕ, List, length, Option, None, Some, Ok, Err}
use Rattle.filter_rule.specs.PlanValue.{PlanValue}
use Rattle.gtid_set.specs.Text.{position_of_text, NamesSeveral}
use Rattle.gtid_set.specs.declared.fault.GtidFault.{GtidFault}
use Rattle.gtid_set.specs.declared.fault.GtidFault.TheVariants as gtid
use Rattle.source_feed.specs.GroupValue.{Position}
use Rattle.source_feed.specs.Planned.{FeedValue}
use Rattle.source_feed.specs.Positions.{IsNumberAt}
use Rattle.checkpoint_core.specs.Fault.{HasParts}
use Rattle.checkpoint_laws.specs.Saved.{SavedStream}
use Rattle.compact_limit.specs.Least.{StopsAtFirst}
use Rattle.compact_limit.specs.Limit.{SaysOf, StandsAt, IsNamed}
use Rattle.compact_limit.specs.declared.fault.LimitFault.{LimitFault}
use Rattle.compact_limit.specs.declared.fault.LimitFault.TheVariants.{BadPosition, PositionUnknown, CheckpointBad, Memory}

-- what a fault says of the inputs: want of memory says nothing
abbrev pub meant_of : LimitFault → Option LimitFault
meant_of Memory = None
meant_of fault = Some fault

-- what a refused position is
abbrev pub refusal_of_position : GtidFault → LimitFault
refusal_of_position gtid.Memory = Memory
refusal_of_position cause = BadPosition cause

-- no group of a feed has the position, and it isn't the empty one
abbrev pub IsOfNoGroup : FeedValue → Position → Type 0
IsOfNoGroup feed position = (number : ℕ) → ¬ IsNumberAt feed position number

-- the position that is named is at fault: its text means none, or no group has it
abbrev pub IsUnnamed : FeedValue → Option (List ℕ) → LimitFault → Type 0
IsUnnamed feed None fault = ⊥
IsUnnamed feed (Some text) (BadPosition cause) = position_of_text text ≡ Err cause
IsUnnamed feed (Some text) PositionUnknown = (position : Position) × (position_of_text text ≡ Ok position) × IsOfNoGroup feed position
IsUnnamed feed (Some text) fault = ⊥

-- a checkpoint is at fault: its bytes say nothing of the stream, or no group has the position that they say
abbrev pub IsUnplaced : List PlanValue → FeedValue → ℕ → List ℕ → LimitFault → Type 0
IsUnplaced plans feed stream checkpoint CheckpointBad = (one : SavedStream) → ¬ SaysOf plans stream checkpoint one
IsUnplaced plans feed stream checkpoint PositionUnknown = (one : SavedStream) × SaysOf plans stream checkpoint one × IsOfNoGroup feed one.position
IsUnplaced plans feed stream checkpoint fault = ⊥

-- what stands in the way first: of the position that is named, and else of the first checkpoint that is at fault
abbrev pub IsRefusedLimit : List PlanValue → FeedValue → ℕ → Option (List ℕ) → List (List ℕ) → LimitFault → Type 0
IsRefusedLimit plans feed stream at checkpoints fault =
    IsUnnamed feed at fault ⊎ ((named : ℕ) × IsNamed feed at named × StopsAtFirst (StandsAt plans feed stream) (IsUnplaced plans feed stream) checkpoints fault)

-- ---- want of memory

-- the text of the position that is named has no fault and names several intervals
abbrev pub HasSeveral : Option (List ℕ) → Type 0
HasSeveral None = ⊥
HasSeveral (Some text) = NamesSeveral text

-- a checkpoint is read further than how many parts it has: as many as there are plans
abbrev pub IsReadFurther : List PlanValue → List ℕ → LimitFault → Type 0
IsReadFurther plans checkpoint fault = HasParts checkpoint (length plans)

-- Where memory may be wanted: for the text of the position that is named; or else for the first checkpoint of which it isn't
-- known where its stream stands.
abbrev pub WantsMemory : List PlanValue → FeedValue → ℕ → Option (List ℕ) → List (List ℕ) → Type 0
WantsMemory plans feed stream at checkpoints =
    HasSeveral at ⊎ ((named : ℕ) × IsNamed feed at named × StopsAtFirst (StandsAt plans feed stream) (IsReadFurther plans) checkpoints Memory)
