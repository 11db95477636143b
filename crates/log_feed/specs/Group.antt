-- What a feed tells of a transaction's changes, under the tables that it has (this profile).
use Rattle.std.specs.Prelude.{ℕ, ◌+◌, if◌then◌else◌, List, [], ◌∷◌, ◌++◌, map, slice_set, Option, None, Some, Result, Ok, Err}
use Rattle.std.specs.Str.{bytes_eq}
use Rattle.list_laws.specs.Outcome.{◌>>=◌}
use Rattle.vevent.specs.EventValue.{EventValue, Begin, Commit, Vgtid}
use Rattle.vevent.specs.WrittenEvent.{written_event}
use Rattle.log_tables.specs.TableMap.{MapValue}
use Rattle.log_rows.specs.declared.change.RowsKind.{RowsKind}
use Rattle.log_rows.specs.Head.{HeadValue}
use Rattle.log_groups.specs.Body.{QueryValue}
use Rattle.log_groups.specs.Transaction.{DoneValue, RowsOf, Altered}
use Rattle.log_feed.specs.declared.fault.ChangeFault.{ChangeFault}
use Rattle.log_feed.specs.declared.table.Stage.{Stage}
use Rattle.log_feed.specs.declared.table.Stage.TheVariants.{Filled}
use Rattle.log_feed.specs.Fault.{in_table}
use Rattle.log_feed.specs.Table.{TableValue, table_of, stage_at}
use Rattle.log_feed.specs.Statement.{alters_to}
use Rattle.log_feed.specs.Rows.{events_of_rows}

-- the tables of a schema, and what the logs so far say of each
pub record WriterValue : Type 0 where
  pub schema : List ℕ
  pub tables : List TableValue
  pub stages : List Stage

-- ---- one change

-- a statement that alters tables: what the table at a place is behind it
abbrev pub altered_at : ℕ → List ℕ → QueryValue → TableValue → List Stage → Result (List Stage) ChangeFault
altered_at t schema q table stages = in_table t (alters_to schema table.name q (stage_at stages t)) >>= λ stage. Ok (slice_set stages t stage)

-- what each table is behind it, from the one at a place on
unfoldable pub altered_from : ℕ → List ℕ → QueryValue → List TableValue → List Stage → Result (List Stage) ChangeFault
altered_from t schema q [] stages = Ok stages
altered_from t schema q (table ∷ tables) stages = altered_at t schema q table stages >>= λ new. altered_from (t + 1) schema q tables new

-- the events so far and the stages behind them
abbrev pub Told : Type 0
Told = List EventValue × List Stage

-- rows of the table at a place: it has rows from then on
abbrev pub rows_there : ℕ → RowsKind → MapValue → HeadValue → List Stage → TableValue → Result Told ChangeFault
rows_there t kind m head stages table = in_table t (events_of_rows kind m head table (stage_at stages t)) >>= λ events. Ok (events, slice_set stages t Filled)

-- rows of a table of another name are no events
abbrev pub rows_at : RowsKind → MapValue → HeadValue → List Stage → Option (ℕ × TableValue) → Result Told ChangeFault
rows_at kind m head stages None = Ok ([], stages)
rows_at kind m head stages (Some x) = rows_there x.0 kind m head stages x.1

-- what is told of a change, where the stages are these; rows of another schema are no events
unfoldable pub told_of : List ℕ → List TableValue → DoneValue → List Stage → Result Told ChangeFault
told_of schema tables (RowsOf kind m head) stages = if bytes_eq m.schema schema then rows_at kind m head stages (table_of m.name tables) else Ok ([], stages)
told_of schema tables (Altered q) stages = altered_from 0 schema q tables stages >>= λ new. Ok ([], new)

-- ---- a transaction

-- what is told of changes in order
unfoldable pub told_of_all : List ℕ → List TableValue → List DoneValue → List Stage → Result Told ChangeFault
told_of_all schema tables [] stages = Ok ([], stages)
told_of_all schema tables (d ∷ changes) stages = told_of schema tables d stages >>= λ x. told_of_all schema tables changes x.1 >>= λ y. Ok (x.0 ++ y.0, y.1)

-- events as their bytes
abbrev pub in_bytes : List EventValue → List (List ℕ)
in_bytes events = map written_event events

-- what is told, as bytes behind those of other events, and the stages behind it
abbrev pub with_told : Result Told ChangeFault → List (List ℕ) → Result (List (List ℕ) × List Stage) ChangeFault
with_told (Ok x) old = Ok (old ++ in_bytes x.0, x.1)
with_told (Err fault) old = Err fault

-- the position of a shard
abbrev pub place_event : List ℕ → List ℕ → List ℕ → EventValue
place_event keyspace shard text = Vgtid (record { keyspace = keyspace; shard = shard; gtid = text } ∷ [])

-- a transaction of events, or the position alone where it has none
abbrev pub group_of : List EventValue → EventValue → List EventValue
group_of [] place = place ∷ []
group_of (e ∷ events) place = Begin ∷ ((e ∷ events) ++ (place ∷ Commit ∷ []))
