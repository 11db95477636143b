-- The transactions of a log's first events: what one event more makes of them, with which event one of them begins, and
-- with which they are at fault.
use Rattle.std.specs.Prelude.{◌≡◌, ◌⊎◌, ℕ, ◌+◌, ◌<◌, List, [], ◌∷◌, ◌++◌, length, take, Option, None, Some}
use Rattle.item_readers.specs.Reading.{Reading}
use Rattle.log_events.specs.declared.fault.EventFault.{EventFault}
use Rattle.log_events.specs.Event.{LogEvent}
use Rattle.log_groups.specs.declared.fault.GroupFault.{GroupFault}
use Rattle.log_groups.specs.declared.fault.GroupFault.TheVariants.{Event, Unended, Twice, NotPrepared, StillPrepared}
use Rattle.log_groups.specs.Step.{steps_in, steps_of}
use Rattle.log_groups.specs.Transaction.{TransactionValue, transactions_of}
use Rattle.log_groups.specs.Group.{GroupValue, WaitingValue, groups_behind}

-- those of the first so many events
abbrev pub told_by : List LogEvent → ℕ → Reading TransactionValue GroupFault
told_by events many = transactions_of (steps_in (take many events) None)

-- ---- with one event more

-- the events so far are at no fault, where the last transaction may be open
abbrev pub MayGoOn : Option GroupFault → Type 0
MayGoOn None = Unit {0}
MayGoOn (Some Unended) = Unit {0}
MayGoOn (Some fault) = ⊥

-- a fault of an event that is read, and not of what is missing behind the last one, nor of whole transactions
abbrev pub IsOfEvent : GroupFault → Type 0
IsOfEvent (Event fault) = ⊥
IsOfEvent Unended = ⊥
IsOfEvent Twice = ⊥
IsOfEvent NotPrepared = ⊥
IsOfEvent StillPrepared = ⊥
IsOfEvent fault = Unit {0}

-- One event more changes nothing, as all do behind a fault; or begins a transaction; or is at fault; or ends the one that
-- is open. None both begins and ends one.
abbrev pub GoesOn : (old new : Reading TransactionValue GroupFault) → Type 0
GoesOn old new = (new ≡ old)
    ⊎ ((old.fault ≡ None) × (new ≡ record { items = old.items; fault = Some Unended }))
    ⊎ (MayGoOn old.fault × (fault : GroupFault) × IsOfEvent fault × (new ≡ record { items = old.items; fault = Some fault }))
    ⊎ ((old.fault ≡ Some Unended) × (t : TransactionValue) × (new ≡ record { items = old.items ++ t ∷ []; fault = None }))

-- The end of the events changes nothing. What isn't read there is at fault, where none was so far.
abbrev pub EndsAs : (old : Reading TransactionValue GroupFault) → Option EventFault → (new : Reading TransactionValue GroupFault) → Type 0
EndsAs old None new = new ≡ old
EndsAs old (Some fault) new = (MayGoOn old.fault × (new ≡ record { items = old.items; fault = Some (Event fault) }))
    ⊎ ((other : GroupFault) × IsOfEvent other × (old.fault ≡ Some other) × (new ≡ old))

-- there are none before the first event, and each one goes on so, up to the end
pub record EventsGoOn (events : Reading LogEvent EventFault) : Type 0 where
  pub first : told_by events.items 0 ≡ record { items = []; fault = None }
  pub each : (many : ℕ) → GoesOn (told_by events.items many) (told_by events.items (many + 1))
  pub end : EndsAs (told_by events.items (length events.items)) events.fault (transactions_of (steps_of events))

-- ---- where they stand

-- so many transactions, and behind them the end or this fault
abbrev pub Counts : Reading TransactionValue GroupFault → ℕ → Option GroupFault → Type 0
Counts r transactions end = (length r.items ≡ transactions) × (r.fault ≡ end)

-- behind so many transactions none is open, and with the next event one is
pub record BeginsBehind (events : List LogEvent) (transactions : ℕ) : Type 0 where
  pub many : ℕ
  pub within : many < length events
  pub before : Counts (told_by events many) transactions None
  pub behind : Counts (told_by events (many + 1)) transactions (Some Unended)

-- behind so many transactions the events are at no fault, and with the next one at this
pub record FailsBehind (events : List LogEvent) (transactions : ℕ) (fault : GroupFault) : Type 0 where
  pub many : ℕ
  pub within : many < length events
  pub end : Option GroupFault
  pub sofar : MayGoOn end
  pub before : Counts (told_by events many) transactions end
  pub behind : Counts (told_by events (many + 1)) transactions (Some fault)

-- where the fault of a log's transactions stands: behind its events; at the beginning of the last transaction, behind
-- which the log ends; or at an event. Those of whole transactions are none.
abbrev pub StandsBehind : Reading LogEvent EventFault → ℕ → GroupFault → Type 0
StandsBehind events transactions (Event fault) = events.fault ≡ Some fault
StandsBehind events transactions Unended = (events.fault ≡ None) × BeginsBehind events.items transactions
StandsBehind events transactions Twice = ⊥
StandsBehind events transactions NotPrepared = ⊥
StandsBehind events transactions StillPrepared = ⊥
StandsBehind events transactions fault = FailsBehind events.items transactions fault

-- each transaction begins with an event, and their fault stands so
pub record TransactionsStand (events : Reading LogEvent EventFault) : Type 0 where
  pub begins : (n : ℕ) → n < length (transactions_of (steps_of events)).items → BeginsBehind events.items n
  pub fails : (fault : GroupFault) → (transactions_of (steps_of events)).fault ≡ Some fault → StandsBehind events (length (transactions_of (steps_of events)).items) fault

-- and with one event alone
pub record PlacesAreOne (events : List LogEvent) : Type 0 where
  pub begins : (n : ℕ) (one other : BeginsBehind events n) → one.many ≡ other.many
  pub fails : (n k : ℕ) (fault wrong : GroupFault) (one : FailsBehind events n fault) (other : FailsBehind events k wrong) → IsOfEvent fault → IsOfEvent wrong → one.many ≡ other.many

-- ---- their groups

-- there is one of each transaction, up to one that can't be prepared or ended
abbrev pub GroupsStand : Type 0
GroupsStand =
    (waiting : List WaitingValue) (r : Reading TransactionValue GroupFault) (groups : Reading GroupValue GroupFault) → (groups_behind waiting r).reading ≡ groups
    → ((length groups.items ≡ length r.items) × (groups.fault ≡ r.fault))
    ⊎ ((length groups.items < length r.items) × ((groups.fault ≡ Some Twice) ⊎ (groups.fault ≡ Some NotPrepared)))
