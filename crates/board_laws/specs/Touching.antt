-- What a step does to the rows of the target, key by key: nothing, or what it leaves there.
use Rattle.std.specs.Prelude.{Option, Some, None, slice_get, if◌then◌else◌}
use Rattle.std.specs.Option.{option_map, option_and_then}
use Rattle.pk_copy.specs.KeyOrder.{key_cmp}
use Rattle.pk_copy.specs.KeyValue.{KeyValue}
use Rattle.pk_copy.specs.Marks.{Marks, is_inside}
use Rattle.target_tables.specs.Touches.{last_at}
use Rattle.source_feed.specs.History.{RowValue, KeptRow, passing, kept_of}
use Rattle.source_feed.specs.Image.{ImageRows, row_in}
use Rattle.source_feed.specs.Touches.{PreparedValue}
use Rattle.board_laws.specs.Meaning.{State}
use Rattle.board_laws.specs.Event.{Event, offer, advance, open_at, copy_rows, close, restart}
use Rattle.board_laws.specs.Chunk.{rows_taken}

-- ---- of whole rows

-- a group leaves at a copied key what its last touch of it leaves, a row that passes the filter or nothing; at any
-- other key it does nothing
abbrev pub passed_by : Marks → PreparedValue → KeyValue → Option (Option RowValue)
passed_by marks group key = if is_inside marks key then option_map (option_and_then passing) (last_at key_cmp group.touches key) else None

-- a chunk leaves its rows at their keys
abbrev pub put_by : ImageRows → KeyValue → Option (Option RowValue)
put_by rows key = option_map Some (row_in rows key)

-- what a step does at a key
abbrev pub passed_touch : State → Event → KeyValue → Option (Option RowValue)
passed_touch state (offer group) key = None
passed_touch state advance key = option_and_then (λ group. passed_by state.marks group key) (slice_get state.list state.applied)
passed_touch state (open_at m) key = None
passed_touch state (copy_rows c) key = put_by (rows_taken state c) key
passed_touch state close key = None
passed_touch state restart key = None

-- ---- of the kept columns, with which a row enters the target

-- a group leaves at a copied key the kept columns of what it leaves there
abbrev pub left_by : Marks → PreparedValue → KeyValue → Option (Option KeptRow)
left_by marks group key = option_map (option_map (kept_of group.plan key)) (passed_by marks group key)

-- a step does at a key what it does of whole rows, with the kept columns of a row
abbrev pub touch_of : State → Event → KeyValue → Option (Option KeptRow)
touch_of state event key = option_map (option_map (kept_of state.plan key)) (passed_touch state event key)
