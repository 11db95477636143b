-- How an event of the program is seen.
use Rattle.vevent.specs.declared.event.Event.{Event}
use Rattle.vevent.specs.declared.event.Event.TheVariants as events
use Rattle.vevent.specs.EventValue.{EventValue, Gtid, Begin, Commit, Rollback, Row, Field, Vgtid, Ignored}

-- an event by its type, with the values of what it lends
abbrev pub event_value : Event → EventValue
event_value (events.Gtid position) = Gtid position.now
event_value events.Begin = Begin
event_value events.Commit = Commit
event_value events.Rollback = Rollback
event_value (events.Row e) = Row e.table_name e.changes
event_value (events.Field e) = Field e.table_name e.fields
event_value (events.Vgtid entries) = Vgtid entries
event_value (events.Ignored which) = Ignored which
