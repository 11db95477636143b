-- What is said has no float as JSON.
use Rattle.std.proofs.Common.{◌≡◌, ℕ, ◌+◌, false, List, [], ◌∷◌, Option, None, Some, refl, map}
use Rattle.gtid_set.specs.declared.interval.Interval.{Interval}
use Rattle.serde_json.specs.Data.{Data}
use Rattle.serde_json.specs.View.{items_of}
use Rattle.serde_json.specs.Written.{has_float, items_have_float}
use Rattle.checkpoint_places.specs.Stands.{CheckpointStandValue, StreamStandValue}
use Rattle.status_said.specs.Json.{table_data, stream_data, checkpoint_data, checkpoints_from, position_data, least_data, status_data}
use Rattle.status_said.specs.Lines.{file_name}
use Rattle.status_said.specs.Shards.{shards_from, least_in}

list_no_float : {X : Type 0} (f : X → Data) → ((x : X) → has_float (f x) ≡ false) → (xs : List X) → items_have_float (items_of (map f xs)) ≡ false
list_no_float f none [] = refl
list_no_float f none (x ∷ xs) = rw (none x, list_no_float f none xs) refl

stream_no_float : (stream : StreamStandValue) → has_float (stream_data stream) ≡ false
stream_no_float stream = rw (list_no_float table_data (λ table. refl) stream.tables) refl

checkpoint_no_float : (name : List ℕ) (stand : CheckpointStandValue) → has_float (checkpoint_data name stand) ≡ false
checkpoint_no_float name stand = rw (list_no_float stream_data stream_no_float stand.streams) refl

checkpoints_no_float : (names : List (List ℕ)) (i : ℕ) (stands : List CheckpointStandValue) → items_have_float (items_of (checkpoints_from names i stands)) ≡ false
checkpoints_no_float names i [] = refl
checkpoints_no_float names i (stand ∷ stands) = rw (checkpoint_no_float (file_name names i) stand, checkpoints_no_float names (i + 1) stands) refl

position_no_float : (position : Option (List Interval)) → has_float (position_data position) ≡ false
position_no_float None = refl
position_no_float (Some position) = refl

least_no_float : (stands : List CheckpointStandValue) (shard : List ℕ) → has_float (least_data stands shard) ≡ false
least_no_float stands shard = rw (position_no_float (least_in shard stands)) refl

pub status_no_float : (names : List (List ℕ)) (stands : List CheckpointStandValue) → has_float (status_data names stands) ≡ false
status_no_float names stands =
    rw (checkpoints_no_float names 0 stands, list_no_float (least_data stands) (least_no_float stands) (shards_from [] stands)) refl
