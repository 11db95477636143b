-- The text of a stream and of the whole, part by part: what stands between its lists.
use Rattle.std.specs.Prelude.{ℕ, ◌-◌, List, ◌++◌, Bool, true, false, codes, decimal, length, slice_get}
use Rattle.json.specs.Print.{quoted}
use Rattle.serde_json.specs.Written.{compact_text}
use Rattle.feed_check.specs.Checked.{CheckedValue}
use Rattle.check_said.specs.Json.{position_data}

-- up to its findings
abbrev pub first_part : List ℕ → List ℕ
first_part file = codes "{\"file\":" ++ (quoted file ++ codes ",\"findings\":")

-- between its findings and its moves
abbrev pub groups_part : CheckedValue → List ℕ
groups_part check =
    codes ",\"first\":" ++ (compact_text (position_data (slice_get check.history 0)) ++ (codes ",\"groups\":" ++ (decimal (length check.history)
    ++ (codes ",\"last\":" ++ (compact_text (position_data (slice_get check.history (length check.history - 1))) ++ codes ",\"moves\":")))))

-- between its moves and the events that are passed over
abbrev pub shard_part : CheckedValue → List ℕ
shard_part check = codes ",\"shard\":" ++ (quoted check.plan.shard ++ codes ",\"skipped\":")

-- between those and its tables
abbrev pub stream_part : ℕ → List ℕ
stream_part i = codes ",\"stream\":" ++ (decimal i ++ codes ",\"tables\":")

-- up to the notes of the whole
abbrev pub begin_part : Bool → List ℕ
begin_part true = codes "{\"noted\":true,\"notes\":"
begin_part false = codes "{\"noted\":false,\"notes\":"

-- the end of the whole
abbrev pub end_part : Bool → List ℕ
end_part true = codes ",\"warned\":true}"
end_part false = codes ",\"warned\":false}"
