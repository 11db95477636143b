-- What stands ready of a feed before it is asked for (this profile).
use Rattle.std.specs.Prelude.{◌≡◌, ◌⊎◌, ℕ, ◌<◌, List, [], ◌∷◌, Option, Some, Ok}
use Rattle.source_feed.specs.Planned.{FeedValue}
use Rattle.source_feed.specs.Touches.{PreparedValue, prepared_at}

-- the feed's group, prepared, of the number that it names
abbrev pub IsGroupOf : FeedValue → PreparedValue → Type 0
IsGroupOf feed group = prepared_at feed group.number ≡ Ok group

-- of groups that are known to stand ready the first is given, and the others are left; where none is known to, any may be given
abbrev pub IsFirst : List PreparedValue → Option PreparedValue → List PreparedValue → Type 0
IsFirst [] given left = left ≡ []
IsFirst (group ∷ later) given left = (given ≡ Some group) × (left ≡ later)

-- the group of this number is known to stand ready, behind groups of lower numbers alone, and these behind it
abbrev pub StandsReady : ℕ → List PreparedValue → List PreparedValue → Type 0
StandsReady number [] behind = ⊥
StandsReady number (group ∷ later) behind =
    ((group.number ≡ number) × (later ≡ behind)) ⊎ ((group.number < number) × StandsReady number later behind)
