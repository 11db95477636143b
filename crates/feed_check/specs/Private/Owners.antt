-- The feeds that touch keys, on their way.
use Rattle.std.specs.Prelude.{ℕ, Bool, Option, Some, if◌then◌else◌}
use Rattle.pk_copy.specs.KeyValue.{KeyValue}
use Rattle.source_feed.specs.Touches.{TouchValue}

-- a touch by stream i
abbrev pub touched_by : ℕ → TouchValue → KeyValue × Option ℕ
touched_by i touch = (touch.0, Some i)

-- stream i, where its feed touches a key, or else the other one
abbrev pub owner_after : ℕ → Bool → Option ℕ → Option ℕ
owner_after i touched other = if touched then Some i else other
