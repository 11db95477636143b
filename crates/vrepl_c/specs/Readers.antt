-- What bytes mean that C gives as a text, or the number of their refusal (this profile).
use Rattle.std.specs.Prelude.{ℕ, ◌==◌, List, Bool, true, false, Option, Some, None, Result, Ok, Err, if◌then◌else◌}
use Rattle.std.specs.List.{slice_split}
use Rattle.std.specs.Result.{result_map_both}
use Rattle.std.specs.Option.{ok_or}
use Rattle.std.specs.Str.{is_utf8}
use Rattle.list_laws.specs.Outcome.{◌>>=◌, each}
use Rattle.gtid_set.specs.declared.interval.Interval.{Interval}
use Rattle.gtid_set.specs.Fault as gtid
use Rattle.gtid_set.specs.Text.{position_of_text}
use Rattle.vindex.specs.Bounds.{Bounds}
use Rattle.vindex.specs.FaultNumber as range
use Rattle.vindex.specs.KeyspaceId.{vindex_of_name, id_of}
use Rattle.vindex.specs.RangeText.{key_range_of_text}

-- bytes as a text, where they are UTF-8
unfoldable pub text_of : List ℕ → Option (List ℕ)
text_of bytes = if is_utf8 bytes then Some bytes else None

-- the position that a text means
abbrev pub position_of : List ℕ → Result (List Interval) ℕ
position_of bytes = ok_or (text_of bytes) 24 >>= λ text. result_map_both (λ set. set) gtid.number_of_fault (position_of_text text)

-- the positions that two texts mean
abbrev pub both_of : List ℕ → List ℕ → Result (List Interval × List Interval) ℕ
both_of one other = position_of one >>= λ first. position_of other >>= λ second. Ok (first, second)

-- the range that a text writes
abbrev pub range_in : List ℕ → Result Bounds ℕ
range_in text = ok_or (key_range_of_text text) 41

-- the same of bytes
abbrev pub range_of : List ℕ → Result Bounds ℕ
range_of bytes = ok_or (text_of bytes) 41 >>= range_in

-- a text between commas
abbrev pub parts_of : List ℕ → List (List ℕ)
parts_of text = slice_split (λ byte. byte == 44) text

-- the ranges that texts write, each one
abbrev pub ranges_in : List (List ℕ) → Result (List Bounds) ℕ
ranges_in texts = each range_in texts

-- the ranges that a text writes, parted by commas
abbrev pub ranges_of : List ℕ → Result (List Bounds) ℕ
ranges_of bytes = ok_or (text_of bytes) 41 >>= λ text. ranges_in (parts_of text)

-- the keyspace id of a value, NULL or bytes, under the vindex of a name
abbrev pub id_under : List ℕ → Option (List ℕ) → Result (List ℕ) ℕ
id_under name value =
    ok_or (text_of name) 42 >>= λ text. ok_or (vindex_of_name text) 42 >>= λ vindex. result_map_both (λ id. id) range.number_of_fault (id_of vindex value)

-- a value as C gives it
abbrev pub value_of : Bool → List ℕ → Option (List ℕ)
value_of true bytes = None
value_of false bytes = Some bytes
