-- The groups of a log: what is committed at each position (MySQL manual, "XA Transaction States"). What an XA
-- transaction did that is prepared waits for a later transaction, in this log or in a later one, which commits it or rolls
-- it back by its id.
use Rattle.std.specs.Prelude.{◌==◌, ◌&&◌, nat_lt, if◌then◌else◌, List, [], ◌∷◌, ◌++◌, length, Bool, is_some, Option, Some, None, Result, Ok, Err}
use Rattle.std.specs.List.{list_any}
use Rattle.std.specs.Str.{bytes_eq}
use Rattle.list_laws.specs.Outcome.{◌>>=◌}
use Rattle.item_readers.specs.Reading.{Reading}
use Rattle.log_groups.specs.declared.fault.GroupFault.{GroupFault}
use Rattle.log_groups.specs.declared.fault.GroupFault.TheVariants.{Twice, NotPrepared}
use Rattle.log_groups.specs.Body.{XidValue}
use Rattle.log_groups.specs.Step.{GtidValue, Maria, Mysql, EndingValue, Committed, RolledBack, Prepared, XaCommitted, XaRolledBack}
use Rattle.log_groups.specs.Transaction.{DoneValue, TransactionValue}

-- a position, and what is committed there
pub record GroupValue : Type 0 where
  pub gtid : GtidValue
  pub changes : List DoneValue

-- an XA transaction that is prepared
pub record WaitingValue : Type 0 where
  pub xid : XidValue
  pub changes : List DoneValue

abbrev pub same_xid : XidValue → XidValue → Bool
same_xid a b = (a.format == b.format) && bytes_eq a.global b.global && bytes_eq a.branch b.branch

-- what waits under an id, and what waits without that
abbrev pub waiting_at : XidValue → List WaitingValue → Option (List DoneValue)
waiting_at x [] = None
waiting_at x (w ∷ waiting) = if same_xid w.xid x then Some w.changes else waiting_at x waiting

abbrev pub without : XidValue → List WaitingValue → List WaitingValue
without x [] = []
without x (w ∷ waiting) = if same_xid w.xid x then waiting else w ∷ without x waiting

-- the id that stands with a position
abbrev pub xid_with : GtidValue → Option XidValue
xid_with (Maria g) = g.xid
xid_with (Mysql g) = None

-- ---- of one transaction

-- what it commits, and what waits behind it
abbrev pub Settled : Type 0
Settled = Result (List DoneValue × List WaitingValue) GroupFault

abbrev pub prepares : XidValue → List DoneValue → List WaitingValue → Settled
prepares x changes waiting = if is_some (waiting_at x waiting) then Err Twice else Ok ([], waiting ++ record { xid = x; changes = changes } ∷ [])

-- the end of one that is prepared, by the id that stands with the position
abbrev pub taken : XidValue → List WaitingValue → Option (List DoneValue) → Settled
taken x waiting None = Err NotPrepared
taken x waiting (Some changes) = Ok (changes, without x waiting)

abbrev pub ends_waiting : Option XidValue → List WaitingValue → Settled
ends_waiting None waiting = Err NotPrepared
ends_waiting (Some x) waiting = taken x waiting (waiting_at x waiting)

abbrev pub settle_by : EndingValue → GtidValue → List DoneValue → List WaitingValue → Settled
settle_by Committed g changes waiting = Ok (changes, waiting)
settle_by RolledBack g changes waiting = Ok ([], waiting)
settle_by (Prepared x) g changes waiting = prepares x changes waiting
settle_by XaCommitted g changes waiting = ends_waiting (xid_with g) waiting
settle_by XaRolledBack g changes waiting = ends_waiting (xid_with g) waiting >>= λ x. Ok ([], x.1)

unfoldable pub settle : List WaitingValue → TransactionValue → Settled
settle waiting t = settle_by t.ending t.gtid t.changes waiting

-- ---- of a log

-- groups one behind another, the fault that ends them, if one does, and what waits where they end
pub record GroupsRead : Type 0 where
  pub reading : Reading GroupValue GroupFault
  pub waiting : List WaitingValue

abbrev pub put_group : GtidValue → List WaitingValue → Settled → (List WaitingValue → GroupsRead) → GroupsRead
put_group g waiting (Ok x) others =
    let rest = others x.1 in
    record {
      reading = record { items = record { gtid = g; changes = x.0 } ∷ rest.reading.items; fault = rest.reading.fault };
      waiting = rest.waiting;
    }
put_group g waiting (Err fault) others = record { reading = record { items = []; fault = Some fault }; waiting = waiting }

-- the groups of transactions behind which this ends them, where these wait before the first
unfoldable pub groups_in : List WaitingValue → List TransactionValue → Option GroupFault → GroupsRead
groups_in waiting [] end = record { reading = record { items = []; fault = end }; waiting = waiting }
groups_in waiting (t ∷ transactions) end = put_group t.gtid waiting (settle waiting t) (λ left. groups_in left transactions end)

-- the groups of a log's transactions, where these wait before it: one for each, with its position
abbrev pub groups_behind : List WaitingValue → Reading TransactionValue GroupFault → GroupsRead
groups_behind waiting r = groups_in waiting r.items r.fault

-- ---- behind the last log

-- nothing may wait there but what changes nothing
abbrev pub has_changes : WaitingValue → Bool
has_changes w = nat_lt 0 (length w.changes)

abbrev pub still_waits : List WaitingValue → Bool
still_waits waiting = list_any has_changes waiting
