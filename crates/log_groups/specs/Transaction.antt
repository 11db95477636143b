-- The transactions of a log (MariaDB's knowledge base, "GTID_EVENT"; MySQL manual, "Replication Event Checksum and
-- GTIDs"): a position, what stands in the transaction, and its end.
use Rattle.std.specs.Prelude.{◌≡◌, ℕ, ◌==◌, ◌⊎◌, if◌then◌else◌, List, [], ◌∷◌, ◌++◌, Option, Some, None, Result, Ok, Err}
use Rattle.list_laws.specs.Outcome.{◌>>=◌}
use Rattle.item_readers.specs.Reading.{Reading, reading_of, Spells}
use Rattle.log_tables.specs.TableMap.{MapValue, map_value}
use Rattle.log_rows.specs.declared.change.RowsKind.{RowsKind}
use Rattle.log_rows.specs.Head.{HeadValue, head_value}
use Rattle.log_groups.specs.declared.statement.Statement.{Statement}
use Rattle.log_groups.specs.declared.statement.Statement.TheVariants.{Begins, Commits, RollsBack, Saves, BacksTo, XaCommits, XaRollsBack, Alters, AltersAndBegins, Harmless}
use Rattle.log_groups.specs.declared.fault.GroupFault.{GroupFault}
use Rattle.log_groups.specs.declared.fault.GroupFault.TheVariants.{Outside, NoTable, NoSavepoint, Unended}
use Rattle.log_groups.specs.declared.done.Waits.{Waits}
use Rattle.log_groups.specs.declared.done.Waits.TheVariants.{ForOne, ForEither}
use Rattle.log_groups.specs.declared.done.Done as done_of
use Rattle.log_groups.specs.declared.done.Done.TheVariants as done
use Rattle.log_groups.specs.Body.{QueryValue, query_value}
use Rattle.log_groups.specs.Statement.{saved_name, back_name}
use Rattle.log_groups.specs.Step.{GtidValue, Maria, Mysql, EndingValue, Committed, RolledBack, XaCommitted, XaRolledBack, StepValue, Begin, Map, Rows, Ends, Said, LogStep}
use Rattle.log_groups.specs.Keeping.{Kept, with_change, with_mark, back_to, mark_of}

-- ---- what a transaction does

-- rows of a table, by its map; or a statement that changes tables
pub data DoneValue : Type 0 where
  RowsOf : RowsKind → MapValue → HeadValue → DoneValue
  Altered : QueryValue → DoneValue

abbrev pub done_value : done_of.Done → DoneValue
done_value (done.Rows kind m h) = RowsOf kind (map_value m) (head_value h)
done_value (done.Altered q) = Altered (query_value q)

-- a transaction: its position, what it does as far as no savepoint takes it back, and its end
pub record TransactionValue : Type 0 where
  pub gtid : GtidValue
  pub changes : List DoneValue
  pub ending : EndingValue

-- ---- a transaction so far

-- whether its first statement is still to come, what it keeps, and which tables its numbers stand for
pub record SoFar : Type 0 where
  pub waits : Option Waits
  pub kept : Kept DoneValue
  pub maps : List MapValue

-- Behind its position: a transaction of MariaDB has begun, or is one statement; one of MySQL begins by its first
-- statement, or is that.
abbrev pub waits_behind : GtidValue → Option Waits
waits_behind (Maria g) = if g.alone then Some ForOne else None
waits_behind (Mysql g) = Some ForEither

abbrev pub begun : Option Waits → SoFar
begun waits = record { waits = waits; kept = record { changes = []; marks = [] }; maps = [] }

abbrev pub opened : SoFar → SoFar
opened now = record { waits = None; kept = now.kept; maps = now.maps }

abbrev pub with_done : SoFar → DoneValue → SoFar
with_done now d = record { waits = None; kept = with_change now.kept d; maps = now.maps }

abbrev pub with_save : SoFar → List ℕ → SoFar
with_save now name = record { waits = now.waits; kept = with_mark now.kept name; maps = now.maps }

abbrev pub with_back : SoFar → ℕ → SoFar
with_back now k = record { waits = now.waits; kept = back_to now.kept k; maps = now.maps }

abbrev pub with_map : SoFar → MapValue → SoFar
with_map now m = record { waits = now.waits; kept = now.kept; maps = now.maps ++ m ∷ [] }

-- the latest map of a number
abbrev pub map_from : ℕ → List MapValue → Option MapValue → Option MapValue
map_from number [] found = found
map_from number (m ∷ maps) found = map_from number maps (if m.table == number then Some m else found)

abbrev pub map_of : ℕ → List MapValue → Option MapValue
map_of number maps = map_from number maps None

-- ---- what a step does to it

-- it goes on, or ends with these changes
pub data Turn : Type 0 where
  Goes : SoFar → Turn
  Ended : List DoneValue → EndingValue → Turn

abbrev pub rows_turn : SoFar → RowsKind → HeadValue → Option MapValue → Result Turn GroupFault
rows_turn now kind head (Some m) = Ok (Goes (with_done now (RowsOf kind m head)))
rows_turn now kind head None = Err NoTable

abbrev pub back_turn : SoFar → Option ℕ → Result Turn GroupFault
back_turn now (Some k) = Ok (Goes (with_back now k))
back_turn now None = Err NoSavepoint

-- a statement in the midst of it
abbrev pub said_within : SoFar → Statement → QueryValue → Result Turn GroupFault
said_within now Commits q = Ok (Ended now.kept.changes Committed)
said_within now RollsBack q = Ok (Ended now.kept.changes RolledBack)
said_within now Saves q = Ok (Goes (with_save now (saved_name q.text)))
said_within now BacksTo q = back_turn now (mark_of (back_name q.text) now.kept.marks)
said_within now Alters q = Ok (Goes (with_done now (Altered q)))
said_within now Harmless q = Ok (Goes now)
said_within now s q = Err Outside

abbrev pub turn_within : SoFar → StepValue → Result Turn GroupFault
turn_within now (Begin g) = Err Outside
turn_within now (Map m) = Ok (Goes (with_map now m))
turn_within now (Rows kind head) = rows_turn now kind head (map_of head.table now.maps)
turn_within now (Ends e) = Ok (Ended now.kept.changes e)
turn_within now (Said s q) = said_within now s q

-- its first statement: it begins the transaction, where it may, or is all of it
abbrev pub opens : Waits → SoFar → Result Turn GroupFault
opens ForOne now = Err Outside
opens ForEither now = Ok (Goes now)

abbrev pub said_first : Waits → SoFar → Statement → QueryValue → Result Turn GroupFault
said_first waits now Begins q = opens waits (opened now)
said_first waits now AltersAndBegins q = opens waits (with_done now (Altered q))
said_first waits now Alters q = Ok (Ended (now.kept.changes ++ Altered q ∷ []) Committed)
said_first waits now Harmless q = Ok (Ended now.kept.changes Committed)
said_first waits now XaCommits q = Ok (Ended now.kept.changes XaCommitted)
said_first waits now XaRollsBack q = Ok (Ended now.kept.changes XaRolledBack)
said_first waits now s q = Err Outside

abbrev pub turn_first : Waits → SoFar → StepValue → Result Turn GroupFault
turn_first waits now (Said s q) = said_first waits now s q
turn_first waits now step = Err Outside

abbrev pub turn_by : Option Waits → SoFar → StepValue → Result Turn GroupFault
turn_by None now step = turn_within now step
turn_by (Some waits) now step = turn_first waits now step

-- what a step does to a transaction, or why it can't stand there
unfoldable pub turn_at : SoFar → StepValue → Result Turn GroupFault
turn_at now step = turn_by now.waits now step

abbrev pub turn_of : SoFar → LogStep → Result Turn GroupFault
turn_of now (Ok step) = turn_at now step
turn_of now (Err fault) = Err fault

-- ---- as a relation

-- these steps lead a transaction from one to the other
abbrev pub Reaches : SoFar → List LogStep → SoFar → Type 0
Reaches old [] new = new ≡ old
Reaches old (step ∷ steps) new = (now : SoFar) × (turn_of old step ≡ Ok (Goes now)) × Reaches now steps new

-- the steps are this transaction: its position, those that lead to its end, and the one that ends it
pub record IsTransaction (steps : List LogStep) (t : TransactionValue) : Type 0 where
  pub middle : List LogStep
  pub last : LogStep
  pub end : SoFar
  pub is : steps ≡ Ok (Begin t.gtid) ∷ (middle ++ last ∷ [])
  pub reaches : Reaches (begun (waits_behind t.gtid)) middle end
  pub ends : turn_of end last ≡ Ok (Ended t.changes t.ending)

-- a step that is no position
abbrev pub IsOther : StepValue → Type 0
IsOther (Begin g) = ⊥
IsOther step = Unit {0}

-- why a transaction doesn't go on with these steps
abbrev pub Stops : SoFar → List LogStep → GroupFault → Type 0
Stops now [] fault = fault ≡ Unended
Stops now (step ∷ steps) fault = turn_of now step ≡ Err fault

-- Why no transaction stands at the front: there is no step; it isn't read, or is no position; or behind a position and
-- steps that lead on, the next doesn't or is missing.
abbrev pub NoTransaction : List LogStep → GroupFault → Type 0
NoTransaction steps fault = ((steps ≡ []) × (fault ≡ Unended))
    ⊎ ((rest : List LogStep) × (steps ≡ Err fault ∷ rest))
    ⊎ ((step : StepValue) × (rest : List LogStep) × (steps ≡ Ok step ∷ rest) × IsOther step × (fault ≡ Outside))
    ⊎ ((g : GtidValue) × (middle : List LogStep) × (rest : List LogStep) × (now : SoFar) × (steps ≡ Ok (Begin g) ∷ (middle ++ rest)) × Reaches (begun (waits_behind g)) middle now × Stops now rest fault)

-- the steps are these transactions, and then the end or this fault
abbrev pub AreTransactions : List LogStep → Reading TransactionValue GroupFault → Type 0
AreTransactions steps r = Spells IsTransaction NoTransaction steps r.items r.fault

-- ---- as a function

abbrev pub by_turn : {A : Type 0} → Turn → (SoFar → A) → (List DoneValue → EndingValue → A) → A
by_turn (Goes now) go end = go now
by_turn (Ended changes ending) go end = end changes ending

-- what a transaction does from here on, how it ends, and the steps after it
unfoldable pub goes_at : SoFar → List LogStep → Result ((List DoneValue × EndingValue) × List LogStep) GroupFault
goes_at now [] = Err Unended
goes_at now (step ∷ steps) = turn_of now step >>= λ t. by_turn t (λ new. goes_at new steps) (λ changes ending. Ok ((changes, ending), steps))

-- the transaction at the front, and the steps after it
unfoldable pub transaction_at : List LogStep → Result (TransactionValue × List LogStep) GroupFault
transaction_at [] = Err Unended
transaction_at (Err fault ∷ steps) = Err fault
transaction_at (Ok (Begin g) ∷ steps) = goes_at (begun (waits_behind g)) steps >>= λ x. Ok (record { gtid = g; changes = x.0.0; ending = x.0.1 }, x.1)
transaction_at (Ok step ∷ steps) = Err Outside

-- the transactions of steps, and the fault that ends them
abbrev pub transactions_of : List LogStep → Reading TransactionValue GroupFault
transactions_of steps = reading_of transaction_at steps
