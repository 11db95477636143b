-- The types of events that this profile reads, by their numbers (`binlogdata.proto`, VEventType).
use Rattle.std.specs.Prelude.{ℕ, ◌==◌, if◌then◌else◌, Option, Some, None}
use Rattle.vevent.specs.declared.ignored.IgnoredEvent.TheVariants.{Ddl, Other, Heartbeat, Version, Savepoint}
use Rattle.vevent.specs.declared.kind.EventKind.{EventKind}
use Rattle.vevent.specs.declared.kind.EventKind.TheVariants.{Gtid, Begin, Commit, Rollback, Row, Field, Vgtid, Ignored}

-- the type of a number, the whole varint; of other numbers none
abbrev pub kind_of : ℕ → Option EventKind
kind_of n =
    if n == 1 then Some Gtid else
    if n == 2 then Some Begin else
    if n == 3 then Some Commit else
    if n == 4 then Some Rollback else
    if n == 5 then Some (Ignored Ddl) else
    if n == 11 then Some (Ignored Other) else
    if n == 12 then Some Row else
    if n == 13 then Some Field else
    if n == 14 then Some (Ignored Heartbeat) else
    if n == 15 then Some Vgtid else
    if n == 17 then Some (Ignored Version) else
    if n == 19 then Some (Ignored Savepoint) else
    None
