-- Where the streams of a checkpoint stand, by its bytes alone (this profile).
use Rattle.std.specs.Prelude.{ℕ, ◌-◌, ◌^◌, min, Bool, false, List, [], ◌∷◌, length, take, drop, codes, Option, None, Some, option_and_then, option_map, if◌then◌else◌}
use Rattle.std.specs.Option.{option_map_or}
use Rattle.std.specs.Result.{result_ok}
use Rattle.std.specs.Str.{bytes_eq}
use Rattle.gtid_set.specs.Position.{same_set}
use Rattle.gtid_set.specs.Text.{position_of_text}
use Rattle.gtid_set.specs.declared.interval.Interval.{Interval}
use Rattle.proto_wire.specs.Frame.{frames_of}
use Rattle.vevent.specs.CheckpointPart.{TablePartValue, StreamPartValue, mark_of_number, stream_part_at}
use Rattle.vevent.specs.declared.checkpoint_part.TableMark.{TableMark}

-- ---- where it stands

-- a table: its name, how far it is copied, and how many rows of it there are
pub record TableStandValue : Type 0 where
  pub name : List ℕ
  pub mark : TableMark
  pub rows : ℕ

-- a stream: its shard, its position and its tables
pub record StreamStandValue : Type 0 where
  pub shard : List ℕ
  pub position : List Interval
  pub tables : List TableStandValue

pub record CheckpointStandValue : Type 0 where
  pub version : ℕ
  pub streams : List StreamStandValue

-- ---- by its bytes

-- what a function makes of each of a list, if it makes something of all
abbrev pub all_of : {A B : Type 0} → (A → Option B) → List A → Option (List B)
all_of f [] = Some []
all_of f (x ∷ xs) = option_and_then (λ y. option_map (λ ys. y ∷ ys) (all_of f xs)) (f x)

-- so many, at most 2^64 - 1
abbrev pub counted : ℕ → ℕ
counted n = min n (2 ^ 64 - 1)

-- a text means this position
abbrev pub is_at : List Interval → List ℕ → Bool
is_at position text = option_map_or (λ found. same_set found position) (result_ok (position_of_text text)) false

-- a table of a stream at this position
abbrev pub table_at : List Interval → TablePartValue → Option TableStandValue
table_at position part =
    if is_at position part.answer.gtid then option_map (λ mark. record { name = part.name; mark = mark; rows = counted (length part.answer.rows) }) (mark_of_number part.mark) else None

abbrev pub tables_at : List Interval → List TablePartValue → Option (List TableStandValue)
tables_at position parts = all_of (table_at position) parts

-- the position of the first table
abbrev pub first_position : List TablePartValue → Option (List Interval)
first_position [] = None
first_position (part ∷ parts) = result_ok (position_of_text part.answer.gtid)

-- a stream by its part, of which all tables have the position of the first
abbrev pub stream_of : StreamPartValue → Option StreamStandValue
stream_of part = option_and_then (λ position. option_map (λ tables. record { shard = part.shard; position = position; tables = tables }) (tables_at position part.tables)) (first_position part.tables)

abbrev pub stream_at : List ℕ → Option StreamStandValue
stream_at message = option_and_then stream_of (result_ok (stream_part_at message))

-- nothing where there is a fault
abbrev pub unless_fault : {F A : Type 0} → Option F → Option A → Option A
unless_fault None found = found
unless_fault (Some fault) found = None

-- the streams of parts, each behind its length
abbrev pub streams_at : List ℕ → Option (List StreamStandValue)
streams_at bytes = unless_fault (frames_of bytes).fault (all_of stream_at (frames_of bytes).items)

-- the version by the first eight bytes, and what stands behind them
abbrev pub version_of : List ℕ → Option ℕ
version_of head = if bytes_eq head (codes "VREPLCP2") then Some 2 else if bytes_eq head (codes "VREPLCP1") then Some 1 else None

abbrev pub opened_at : List ℕ → Option (ℕ × List ℕ)
opened_at bytes = option_map (λ version. (version, drop 8 bytes)) (version_of (take 8 bytes))

-- where the streams of a checkpoint stand; nothing where the bytes are none of any workflow
abbrev pub stands_at : List ℕ → Option CheckpointStandValue
stands_at bytes = option_and_then (λ opened. option_map (λ streams. record { version = opened.0; streams = streams }) (streams_at opened.1)) (opened_at bytes)
