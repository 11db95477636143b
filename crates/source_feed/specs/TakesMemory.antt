-- Where a reader of a feed may want memory (this profile).
use Rattle.std.specs.Prelude.{◌≡◌, ℕ, List, [], ◌∷◌, ◌⊎◌, Bool, true, false, None}
use Rattle.std.specs.List.{list_any}
use Rattle.vevent.specs.EventValue.{EventValue, Gtid, Field, Vgtid}
use Rattle.source_feed.specs.SourceValue.{SourceValue}
use Rattle.source_feed.specs.EventList.{events_of_feed}
use Rattle.source_feed.specs.PastEvents.{PastEvents}
use Rattle.source_feed.specs.Groups.{fault_at}

-- a table of a FIELD is kept, and so is a position; a row is kept behind a FIELD alone, and a group behind a position
abbrev pub takes_memory : EventValue → Bool
takes_memory (Field name columns) = true
takes_memory (Gtid text) = true
takes_memory (Vgtid entries) = true
takes_memory event = false

-- one of some events is reached, no event before it being at fault, that takes memory or has one before it that does
abbrev pub WantsFrom : SourceValue → PastEvents → List EventValue → Type 0
WantsFrom source earlier [] = ⊥
WantsFrom source earlier (event ∷ events) =
    (list_any takes_memory (event ∷ earlier) ≡ true) ⊎ ((fault_at source earlier event ≡ None) × WantsFrom source (event ∷ earlier) events)

-- a reader of the feed may want memory
abbrev pub WantsMemory : List ℕ → SourceValue → Type 0
WantsMemory feed source = WantsFrom source [] (events_of_feed feed).items
