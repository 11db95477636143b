-- A feed and its source that have grown by a piece.
use Rattle.std.specs.Prelude.{◌≡◌, ◌≤◌, ◌++◌, ℕ, List, length, take, drop, Some, None, slice_get, slice_set}
use Rattle.source_feed.specs.Growing.{IsSettledFront, fault_so_far}
use Rattle.source_feed.specs.Planned.{FeedValue}
use Rattle.apply_core.specs.Growing.{IsLonger}
use Rattle.live_core.specs.declared.source.Source.{Source}
use Rattle.live_core.specs.Source.{IsOfSource, bytes_of}

-- a source has the bytes that it had
pub record IsAsBefore (old new : Source) : Type 0 where
  pub bytes : bytes_of new ≡ bytes_of old
  pub taken : new.taken ≡ old.taken
  pub end : new.end ≡ old.end

-- so many bytes of a piece are put behind those of a source, and the feed of stream s, which is of it, is longer
pub record SourceTakes (s : ℕ) (piece : List ℕ) (taken : ℕ) (old_feeds new_feeds : List FeedValue) (old new : Source) : Type 0 where
  pub within : taken ≤ length piece
  pub bytes : bytes_of new ≡ bytes_of old ++ take taken piece
  pub before : FeedValue
  pub there : slice_get old_feeds s ≡ Some before
  pub settled : IsSettledFront (bytes_of old ++ piece) (bytes_of old ++ take taken piece) (drop taken piece)
  pub sound : fault_so_far before.plan (bytes_of old ++ piece) ≡ None
  pub after : FeedValue
  pub longer : IsLonger before after
  pub known : IsOfSource after new
  pub feeds : new_feeds ≡ slice_set old_feeds s after
