-- The bytes of a feed that grows (this profile).
use Rattle.std.specs.Prelude.{◌≡◌, ℕ, List, length}
use Rattle.std.specs.List.{flat_map}
use Rattle.source_feed.specs.Growing.{IsEndOf}
use Rattle.source_feed.specs.Planned.{FeedValue}
use Rattle.live_core.specs.declared.source.Source.{Source}

-- the bytes: those of the pieces, one behind the other
abbrev pub bytes_of : Source → List ℕ
bytes_of source = flat_map (λ piece. piece.now) source.pieces.items

-- the feed is of these bytes, and how many they are is known
pub record IsOfSource (feed : FeedValue) (source : Source) : Type 0 where
  pub end : IsEndOf (bytes_of source) feed source.end
  pub many : source.taken ≡ length (bytes_of source)
