-- How a group under a plan keeps its changes.
use Rattle.std.specs.Prelude.{List, [], ◌∷◌}
use Rattle.source_feed.specs.Planned.{PlannedChangeValue}
use Rattle.source_feed.specs.declared.changes.Changes.{Changes}
use Rattle.source_feed.specs.declared.changes.Changes.TheVariants.{One, Many}

-- the changes in their order
abbrev pub listed : Changes → List PlannedChangeValue
listed (One only) = only ∷ []
listed (Many many) = many.items
