-- What the calls answer and leave that read a group. Of want of memory nothing is told.
use Rattle.std.specs.Prelude.{◌≡◌, ◌<◌, ℕ, List, [], ◌∷◌, length, map, get_or, remove, Option, Some, None, Result, Ok, Err}
use Rattle.item_readers.specs.Reading.{Reading}
use Rattle.log_groups.specs.declared.fault.GroupFault.{GroupFault}
use Rattle.log_groups.specs.declared.fault.GroupError.{GroupError}
use Rattle.log_groups.specs.declared.fault.GroupError.TheVariants.{Memory, Fault}
use Rattle.log_groups.specs.declared.group.Group as group_type
use Rattle.log_groups.specs.declared.waiting.Waiting as waiting_type
use Rattle.log_groups.specs.Body.{XidValue, xid_value}
use Rattle.log_groups.specs.Step.{gtid_value}
use Rattle.log_groups.specs.Transaction.{DoneValue, done_value, TransactionValue}
use Rattle.log_groups.specs.Group.{GroupValue, WaitingValue, waiting_at, without, Settled, GroupsRead, groups_behind}

-- how a group of the program is seen, and what waits
abbrev pub group_value : group_type.Group → GroupValue
group_value g = record { gtid = gtid_value g.gtid; changes = map done_value g.changes.items }

abbrev pub waiting_value : waiting_type.Waiting → WaitingValue
waiting_value w = record { xid = xid_value w.xid; changes = map done_value w.changes.items }

-- where something waits under an id
abbrev pub FindsWaiting : {W : Type 0} → (W → WaitingValue) → List W → XidValue → Option ℕ → Type 0
FindsWaiting view ws x None = waiting_at x (map view ws) ≡ None
FindsWaiting {W} view ws x (Some i) =
    (i < length ws) × ((d : W) → waiting_at x (map view ws) ≡ Some (view (get_or ws i d)).changes) × (without x (map view ws) ≡ map view (remove ws i))

-- what waited under an id is taken out
abbrev pub TakesWaiting : List WaitingValue → XidValue → Option (List DoneValue) → List WaitingValue → Type 0
TakesWaiting old x None new = (waiting_at x old ≡ None) × (new ≡ old)
TakesWaiting old x (Some changes) new = (waiting_at x old ≡ Some changes) × (new ≡ without x old)

-- a transaction was settled: its changes, and what waits behind it, where these waited before it
abbrev pub SettlesAs : Settled → List WaitingValue → Result (List DoneValue) GroupError → List WaitingValue → Type 0
SettlesAs definition old (Ok changes) new = definition ≡ Ok (changes, new)
SettlesAs definition old (Err Memory) new = Unit {0}
SettlesAs definition old (Err (Fault fault)) new = (definition ≡ Err fault) × (new ≡ old)

-- the group at the front is taken off; these wait then, and these transactions are still to come
abbrev pub FindsGroup : GroupsRead → Result (Option GroupValue) GroupError → List WaitingValue → Reading TransactionValue GroupFault → Type 0
FindsGroup old (Ok (Some g)) waiting r =
    (old.reading.items ≡ g ∷ (groups_behind waiting r).reading.items) × (old.reading.fault ≡ (groups_behind waiting r).reading.fault) × ((groups_behind waiting r).waiting ≡ old.waiting)
FindsGroup old (Ok None) waiting r = (old.reading.items ≡ []) × (old.reading.fault ≡ None) × (groups_behind waiting r ≡ old)
FindsGroup old (Err Memory) waiting r = Unit {0}
FindsGroup old (Err (Fault fault)) waiting r = (old.reading.items ≡ []) × (old.reading.fault ≡ Some fault) × (waiting ≡ old.waiting)

-- the groups still to come, where one wasn't read
abbrev pub unless_refused : Option GroupFault → List WaitingValue → Reading TransactionValue GroupFault → GroupsRead
unless_refused None waiting r = groups_behind waiting r
unless_refused (Some fault) waiting r = record { reading = record { items = []; fault = Some fault }; waiting = waiting }

-- a log of the program: the groups still to come, and how many of its bytes aren't read yet
pub record GroupsValue : Type 0 where
  pub groups : GroupsRead
  pub left : ℕ

-- The next group is taken off the front. After the end the end is answered again, and after a fault the same fault.
abbrev pub NextGroup : GroupsRead → Result (Option GroupValue) GroupError → GroupsRead → Type 0
NextGroup old (Ok (Some g)) new = (old.reading.items ≡ g ∷ new.reading.items) × (old.reading.fault ≡ new.reading.fault) × (new.waiting ≡ old.waiting)
NextGroup old (Ok None) new = (old.reading.items ≡ []) × (old.reading.fault ≡ None) × (new ≡ old)
NextGroup old (Err Memory) new = Unit {0}
NextGroup old (Err (Fault fault)) new = (old.reading.items ≡ []) × (old.reading.fault ≡ Some fault) × (new ≡ old)
