-- The positions with which a log begins (MariaDB's knowledge base, "GTID_LIST_EVENT"; MySQL internals manual,
-- "PREVIOUS_GTIDS_LOG_EVENT").
use Rattle.std.specs.Prelude.{ℕ, zero, suc, ◌-◌, ◌%◌, ◌^◌, ◌==◌, if◌then◌else◌, List, [], ◌∷◌, Option, Some, None, Result, Ok, Err}
use Rattle.list_laws.specs.Outcome.{◌>>=◌}
use Rattle.gtid_set.specs.declared.interval.Interval.{Interval}
use Rattle.gtid_set.specs.Position.{union_of}
use Rattle.log_events.specs.Number.{number}
use Rattle.log_events.specs.Event.{LogEvent}
use Rattle.log_tables.specs.Part.{front_at}
use Rattle.log_groups.specs.declared.class.EventClass.{EventClass}
use Rattle.log_groups.specs.declared.class.EventClass.TheVariants as class
use Rattle.log_groups.specs.Class.{class_of}
use Rattle.log_places.specs.declared.fault.PlaceFault.{PlaceFault}
use Rattle.log_places.specs.declared.fault.PlaceFault.TheVariants.{Tagged, NoNumber, NoList}
use Rattle.log_places.specs.declared.lists.Spans.{Spans}
use Rattle.log_places.specs.declared.lists.Spans.TheVariants.{OfDomains, OfUuid}
use Rattle.log_places.specs.Fault.{of_part}
use Rattle.log_places.specs.Added.{uuid_of, domain_uuid, span}

-- a position so far, and the bytes behind it
abbrev pub Listed : Type 0
Listed = List Interval × List ℕ

-- a step that is made so many times, up to the first fault
unfoldable pub times : (Listed → Result Listed PlaceFault) → ℕ → Listed → Result Listed PlaceFault
times step zero x = Ok x
times step (suc n) x = step x >>= λ y. times step n y

-- The numbers in 16 bytes: of MariaDB the domain in 4, a server in 4 and the last number in 8; of MySQL the first one in
-- 8, and in 8 the one behind the last.
abbrev pub span_in : Spans → List ℕ → Result Interval PlaceFault
span_in OfDomains bytes = span (domain_uuid (number 0 4 bytes)) 1 (number 8 8 bytes)
span_in (OfUuid uuid) bytes = span uuid (number 0 8 bytes) (number 8 8 bytes - 1)

unfoldable pub span_at : Spans → Listed → Result Listed PlaceFault
span_at which x = of_part (front_at 16 x.1) >>= λ bytes. span_in which bytes.0 >>= λ i. Ok (union_of x.0 (i ∷ []), bytes.1)

-- ---- of MariaDB

-- the count in 4 bytes, of which the highest four bits are flags; so many entries
unfoldable pub maria_list : List ℕ → Result (List Interval) PlaceFault
maria_list body = of_part (front_at 4 body) >>= λ head. times (span_at OfDomains) (number 0 4 head.0 % 2 ^ 28) ([], head.1) >>= λ x. Ok x.0

-- ---- of MySQL

abbrev pub uuid_there : Option ℕ → Result ℕ PlaceFault
uuid_there None = Err NoNumber
uuid_there (Some uuid) = Ok uuid

-- a uuid: its 16 bytes, the count of its spans in 8, and these
unfoldable pub uuid_at : Listed → Result Listed PlaceFault
uuid_at x = of_part (front_at 24 x.1) >>= λ head. uuid_there (uuid_of head.0) >>= λ uuid. times (span_at (OfUuid uuid)) (number 16 8 head.0) (x.0, head.1)

-- the count in 8 bytes, so many uuids; where the last byte of it isn't 0 they may have tags
unfoldable pub mysql_list : List ℕ → Result (List Interval) PlaceFault
mysql_list body =
    of_part (front_at 8 body) >>= λ head. if number 7 1 head.0 == 0 then (times uuid_at (number 0 8 head.0) ([], head.1) >>= λ x. Ok x.0) else Err Tagged

-- ---- of an event

abbrev pub list_by : EventClass → List ℕ → Result (List Interval) PlaceFault
list_by class.MariaList body = maria_list body
list_by class.MysqlList body = mysql_list body
list_by class.Query body = Err NoList
list_by class.Xid body = Err NoList
list_by class.Description body = Err NoList
list_by class.TableMap body = Err NoList
list_by (class.Rows kind second) body = Err NoList
list_by class.MariaGtid body = Err NoList
list_by class.MysqlGtid body = Err NoList
list_by class.XaPrepare body = Err NoList
list_by class.Skipped body = Err NoList
list_by (class.Refused number) body = Err NoList

-- the positions that an event lists, the first one behind a format description
unfoldable pub list_of : LogEvent → Result (List Interval) PlaceFault
list_of event = list_by (class_of event.kind event.flags) event.body
