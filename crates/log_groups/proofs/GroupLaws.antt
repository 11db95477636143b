-- A log's groups are as many as its transactions, or one of these is at fault.
use Rattle.std.proofs.Common.{◌≡◌, ◌⊎◌, inl, inr, ◌<◌, List, [], ◌∷◌, length, Option, None, Some, Ok, Err, refl, sym, ap, arith}
use Rattle.std.specs.Prelude.{Bool, true, false, is_some, if◌then◌else◌}
use Rattle.list_laws.specs.Outcome.{◌>>=◌}
use Rattle.item_readers.specs.Reading.{Reading}
use Rattle.log_groups.specs.declared.fault.GroupFault.{GroupFault}
use Rattle.log_groups.specs.declared.fault.GroupFault.TheVariants.{Twice, NotPrepared}
use Rattle.log_groups.specs.Body.{XidValue}
use Rattle.log_groups.specs.Step.{GtidValue, EndingValue, Committed, RolledBack, Prepared, XaCommitted, XaRolledBack}
use Rattle.log_groups.specs.Transaction.{DoneValue, TransactionValue}
use Rattle.log_groups.specs.Group.{GroupValue, WaitingValue, waiting_at, xid_with, Settled, taken, ends_waiting, settle_by, settle, put_group, groups_in}
use Rattle.log_groups.specs.Cuts.{GroupsStand}

abbrev IsOfWhole : GroupFault → Type 0
IsOfWhole fault = (fault ≡ Twice) ⊎ (fault ≡ NotPrepared)

prepared_twice : (b : Bool) (good : List DoneValue × List WaitingValue) (fault : GroupFault) → ◌≡◌ {A = Settled} (if b then Err Twice else Ok good) (Err fault) → IsOfWhole fault
prepared_twice true good fault e = inl cc
prepared_twice false good fault e = cc

taken_fault : (x : XidValue) (waiting : List WaitingValue) (found : Option (List DoneValue)) (fault : GroupFault) → taken x waiting found ≡ Err fault → IsOfWhole fault
taken_fault x waiting None fault e = inr cc
taken_fault x waiting (Some changes) fault e = cc

ends_fault : (x : Option XidValue) (waiting : List WaitingValue) (fault : GroupFault) → ends_waiting x waiting ≡ Err fault → IsOfWhole fault
ends_fault None waiting fault e = inr cc
ends_fault (Some x) waiting fault e = taken_fault x waiting (waiting_at x waiting) fault e

back_fault : (r : Settled) (fault : GroupFault) → ◌≡◌ {A = Settled} (r >>= λ x. Ok ([], x.1)) (Err fault) → r ≡ Err fault
back_fault (Ok x) fault e = cc
back_fault (Err other) fault e = cc

settle_fault : (ending : EndingValue) (g : GtidValue) (changes : List DoneValue) (waiting : List WaitingValue) (fault : GroupFault) → settle_by ending g changes waiting ≡ Err fault → IsOfWhole fault
settle_fault Committed g changes waiting fault e = cc
settle_fault RolledBack g changes waiting fault e = cc
settle_fault (Prepared x) g changes waiting fault e = prepared_twice (is_some (waiting_at x waiting)) _ fault e
settle_fault XaCommitted g changes waiting fault e = ends_fault (xid_with g) waiting fault e
settle_fault XaRolledBack g changes waiting fault e = ends_fault (xid_with g) waiting fault (back_fault (ends_waiting (xid_with g) waiting) fault e)

-- so many groups, and so ended
abbrev Stand : List TransactionValue → Option GroupFault → Reading GroupValue GroupFault → Type 0
Stand transactions end r = ((length r.items ≡ length transactions) × (r.fault ≡ end)) ⊎ ((length r.items < length transactions) × ((r.fault ≡ Some Twice) ⊎ (r.fault ≡ Some NotPrepared)))

more_stand : (t : TransactionValue) (transactions : List TransactionValue) (end : Option GroupFault) (g : GroupValue) (r : Reading GroupValue GroupFault) → Stand transactions end r → Stand (t ∷ transactions) end (record { items = g ∷ r.items; fault = r.fault })
more_stand t transactions end g r (inl (same, e)) = inl (omega (arith, same), e)
more_stand t transactions end g r (inr (less, e)) = inr (omega (arith, less), e)

fault_stand : (t : TransactionValue) (transactions : List TransactionValue) (end : Option GroupFault) (fault : GroupFault) → IsOfWhole fault → Stand (t ∷ transactions) end (record { items = []; fault = Some fault })
fault_stand t transactions end fault (inl e) = inr (omega arith, inl (ap (λ (f : GroupFault). Some f) e))
fault_stand t transactions end fault (inr e) = inr (omega arith, inr (ap (λ (f : GroupFault). Some f) e))

settled_stand : (waiting : List WaitingValue) (t : TransactionValue) (transactions : List TransactionValue) (end : Option GroupFault) → ((left : List WaitingValue) → Stand transactions end (groups_in left transactions end).reading)
    → (r : Settled) → settle waiting t ≡ r → Stand (t ∷ transactions) end (put_group t.gtid waiting r (λ left. groups_in left transactions end)).reading
unfolding settle
settled_stand waiting t transactions end others (Ok x) e = more_stand t transactions end (record { gtid = t.gtid; changes = x.0 }) (groups_in x.1 transactions end).reading (others x.1)
settled_stand waiting t transactions end others (Err fault) e = fault_stand t transactions end fault (settle_fault t.ending t.gtid t.changes waiting fault e)

groups_stand : (waiting : List WaitingValue) (transactions : List TransactionValue) (end : Option GroupFault) → Stand transactions end (groups_in waiting transactions end).reading
unfolding groups_in
groups_stand waiting [] end = inl (refl, refl)
groups_stand waiting (t ∷ transactions) end = settled_stand waiting t transactions end (λ left. groups_stand left transactions end) (settle waiting t) refl

pub groups-stand : GroupsStand
groups-stand waiting r groups e = rw (sym e) (groups_stand waiting r.items r.fault)
