-- What stands in a feed that is refused, said of the whole list of its events.
use Rattle.std.specs.Prelude.{◌≡◌, ℕ, ◌^◌, ◌<◌, ◌≤◌, List, ◌∷◌, ◌++◌, ◌⊎◌, length, reverse, slice_get, true, Some, None, Ok}
use Rattle.proto_wire.specs.Reading.{Reading}
use Rattle.vevent.specs.EventValue.{EventValue}
use Rattle.source_feed.specs.declared.fault.FeedFault.{FeedFault}
use Rattle.filter_rule.specs.PlanValue.{PlanValue}
use Rattle.source_feed.specs.declared.fault.FeedFault.TheVariants.{FeedTooLong, FieldsDiffer, OpenAtEnd}
use Rattle.source_feed.specs.SourceValue.{SourceValue}
use Rattle.source_feed.specs.EventList.{events_of_feed}
use Rattle.source_feed.specs.PastEvents.{PastEvents, is_open}
use Rattle.source_feed.specs.GroupValue.{GroupValue}
use Rattle.source_feed.specs.Groups.{first_fault, fault_at, groups}
use Rattle.source_feed.specs.Planned.{source_of, differs}

-- an event has the fault, and none of the events before it has one
pub record AtEvent (source : SourceValue) (events : List EventValue) (fault : FeedFault) : Type 0 where
  pub earlier : PastEvents
  pub event : EventValue
  pub behind : List EventValue
  pub split : events ≡ reverse earlier ++ event ∷ behind
  pub before : first_fault source earlier ≡ None
  pub here : fault_at source earlier event ≡ Some fault

-- no event has a fault, and the events end by it: a broken message, or what is no event; or they end
-- inside a transaction
pub record AtEnd (source : SourceValue) (events : Reading EventValue FeedFault) (fault : FeedFault) : Type 0 where
  pub before : first_fault source (reverse events.items) ≡ None
  pub here : (events.fault ≡ Some fault) ⊎ ((events.fault ≡ None) × (is_open (reverse events.items) ≡ true) × (fault ≡ OpenAtEnd))

-- what a refusal says stands in the feed
abbrev pub StandsIn : List ℕ → SourceValue → FeedFault → Type 0
StandsIn feed source fault = ((fault ≡ FeedTooLong) × (2 ^ 31 ≤ length feed))
    ⊎ ((length feed < 2 ^ 31) × (AtEvent source (events_of_feed feed).items fault ⊎ AtEnd source (events_of_feed feed) fault))

-- the groups are defined, and an event is a FIELD of a planned table whose columns aren't the plan's
pub record HasDifferent (feed : List ℕ) (plan : PlanValue) : Type 0 where
  pub all : List GroupValue
  pub defined : groups feed (source_of plan) ≡ Ok all
  pub place : ℕ
  pub event : EventValue
  pub there : slice_get (events_of_feed feed).items place ≡ Some event
  pub differs : differs plan event ≡ true

-- what a refusal under a plan says stands in the feed
abbrev pub StandsUnder : List ℕ → PlanValue → FeedFault → Type 0
StandsUnder feed plan fault = StandsIn feed (source_of plan) fault ⊎ ((fault ≡ FieldsDiffer) × HasDifferent feed plan)
