-- How many there may be of each (this profile's limits).
use Rattle.std.specs.Prelude.{ℕ, ◌&&◌, nat_le, length, Bool, Result, Ok, Err, if◌then◌else◌}
use Rattle.std.specs.List.{list_all}
use Rattle.filter_rule.specs.Faults.{Fault, limit}
use Rattle.filter_rule.specs.Document.{TableSaid, DocumentSaid}

abbrev pub is_up_to : ℕ → ℕ → Bool
is_up_to most n = nat_le 1 n && nat_le n most

-- 1 to 256 columns, and 1 to 8 key columns
abbrev pub is_table_within : TableSaid → Bool
is_table_within t = is_up_to 256 (length t.columns) && is_up_to 8 (length t.key)

-- 1 to 64 tables and streams too
abbrev pub is_within : DocumentSaid → Bool
is_within d = is_up_to 64 (length d.streams) && is_up_to 64 (length d.tables) && list_all is_table_within d.tables

-- a vindex beyond the four that the file says it uses is `hash`
abbrev pub known_vindexes : DocumentSaid → Result DocumentSaid Fault
known_vindexes d = if d.uses_no_other then Ok d else Err limit

abbrev pub within_limits : DocumentSaid → Result DocumentSaid Fault
within_limits d = if is_within d then Ok d else Err limit
