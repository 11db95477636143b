-- The shards of checkpoints, and the least position of each (this profile).
use Rattle.std.specs.Prelude.{ℕ, Bool, List, [], ◌∷◌, ◌++◌, Option, if◌then◌else◌}
use Rattle.std.specs.List.{list_any}
use Rattle.std.specs.Str.{bytes_eq}
use Rattle.gtid_set.specs.declared.interval.Interval.{Interval}
use Rattle.checkpoint_places.specs.Least.{least_of}
use Rattle.checkpoint_places.specs.Stands.{CheckpointStandValue, StreamStandValue}

abbrev pub has_shard : List (List ℕ) → List ℕ → Bool
has_shard shards shard = list_any (bytes_eq shard) shards

-- one more, unless it is there
abbrev pub with_shard : List (List ℕ) → List ℕ → List (List ℕ)
with_shard shards shard = if has_shard shards shard then shards else shards ++ shard ∷ []

-- those of streams more
abbrev pub with_streams : List (List ℕ) → List StreamStandValue → List (List ℕ)
with_streams shards [] = shards
with_streams shards (stream ∷ streams) = with_streams (with_shard shards stream.shard) streams

-- those of checkpoints more
abbrev pub shards_from : List (List ℕ) → List CheckpointStandValue → List (List ℕ)
shards_from shards [] = shards
shards_from shards (stand ∷ stands) = shards_from (with_streams shards stand.streams) stands

-- the positions of a shard's streams
abbrev pub positions_in : List ℕ → List StreamStandValue → List (List Interval)
positions_in shard [] = []
positions_in shard (stream ∷ streams) = if bytes_eq shard stream.shard then stream.position ∷ positions_in shard streams else positions_in shard streams

-- the same of checkpoints
abbrev pub positions_of : List ℕ → List CheckpointStandValue → List (List Interval)
positions_of shard [] = []
positions_of shard (stand ∷ stands) = positions_in shard stand.streams ++ positions_of shard stands

-- the position of a shard's streams that lies within all of them, if one does
abbrev pub least_in : List ℕ → List CheckpointStandValue → Option (List Interval)
least_in shard stands = least_of (positions_of shard stands)
