-- What a feed says of the tables of a source (this profile): a table with columns had rows, or may have; and how far it goes.
use Rattle.std.specs.Prelude.{ℕ, ◌-◌, List, [], ◌∷◌, length, map, replicate, slice_get, slice_set, Option, None, Some, Result, Ok, Err, if◌then◌else◌}
use Rattle.list_laws.specs.Outcome.{◌>>=◌}
use Rattle.item_readers.specs.Reading.{Reading}
use Rattle.gtid_set.specs.declared.interval.Interval.{Interval}
use Rattle.row_view.specs.FieldValue.{FieldValue}
use Rattle.vevent.specs.EventValue.{EventValue, Field}
use Rattle.source_feed.specs.declared.fault.FeedFault.{FeedFault}
use Rattle.source_feed.specs.declared.fault.FeedFault.TheVariants.{FieldsDiffer, NoGroup}
use Rattle.source_feed.specs.EventList.{events_of_feed}
use Rattle.source_feed.specs.GroupValue.{GroupValue}
use Rattle.source_feed.specs.Groups.{groups}
use Rattle.source_feed.specs.Planned.{same_columns}
use Rattle.source_feed.specs.SourceValue.{table_in_source}
use Rattle.log_feed.specs.declared.table.Stage.{Stage}
use Rattle.log_feed.specs.declared.table.Stage.TheVariants.{Filled}
use Rattle.log_feed.specs.Table.{TableValue, field_of, table_of}
use Rattle.log_laws.specs.Source.{SourceTables, source_of}

-- the columns of a table are the source's
abbrev pub said_there : List FieldValue → List Stage → Option (ℕ × TableValue) → Result (List Stage) FeedFault
said_there columns stages None = Ok stages
said_there columns stages (Some x) = if same_columns (map field_of x.1.columns) columns then Ok (slice_set stages x.0 Filled) else Err FieldsDiffer

-- an event says the columns of a table, or nothing of tables
abbrev pub event_said : SourceTables → EventValue → List Stage → Result (List Stage) FeedFault
event_said s (Field name columns) stages = said_there columns stages (table_of (table_in_source (source_of s) name) s.tables)
event_said s event stages = Ok stages

unfoldable pub events_said : SourceTables → List EventValue → List Stage → Result (List Stage) FeedFault
events_said s [] stages = Ok stages
events_said s (event ∷ events) stages = event_said s event stages >>= λ new. events_said s events new

-- up to a fault
abbrev pub to_end : Option FeedFault → List Stage → Result (List Stage) FeedFault
to_end None stages = Ok stages
to_end (Some fault) stages = Err fault

abbrev pub reading_said : SourceTables → Reading EventValue FeedFault → List Stage → Result (List Stage) FeedFault
reading_said s r stages = events_said s r.items stages >>= λ new. to_end r.fault new

-- what the whole feed says, where this is said of a table that it doesn't have
abbrev pub feed_said : SourceTables → Stage → List ℕ → Result (List Stage) FeedFault
feed_said s unsaid feed = reading_said s (events_of_feed feed) (replicate (length s.tables) unsaid)

-- the position of the last group; an empty feed has none
abbrev pub reached_at : Option GroupValue → List ℕ → Result (List Interval) FeedFault
reached_at (Some g) feed = Ok g.position
reached_at None [] = Ok []
reached_at None (b ∷ feed) = Err (NoGroup 0)

abbrev pub reached_in : List ℕ → List GroupValue → Result (List Interval) FeedFault
reached_in feed all = reached_at (slice_get all (length all - 1)) feed

-- the position that a feed reaches
unfoldable pub feed_end : SourceTables → List ℕ → Result (List Interval) FeedFault
feed_end s feed = groups feed (source_of s) >>= λ all. reached_in feed all
