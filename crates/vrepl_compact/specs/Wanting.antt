-- Where memory may be wanted of what `compact` is given (this profile).
use Rattle.std.specs.Prelude.{ℕ, List, ◌⊎◌, Option, Some, IsOk}
use Rattle.filter_rule.specs.PlanValue.{PlanValue}
use Rattle.source_feed.specs.Planned.{groups_under, source_of}
use Rattle.source_feed.specs.TakesMemory.{WantsMemory}

-- Behind a workflow that has the stream, and a feed whose bytes are there: as a feed's opening wants it, or where the feed opens.
abbrev pub MayWantMemory : Option PlanValue → Option (List ℕ) → Type 0
MayWantMemory (Some plan) (Some bytes) = WantsMemory bytes (source_of plan) ⊎ IsOk (groups_under bytes plan)
MayWantMemory plan given = ⊥
