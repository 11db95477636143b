-- Worked rows: what one event can't do.
use Rattle.std.proofs.Common.{inl, inr, List, [], ◌∷◌, Option, None, Some, ap}
use Rattle.item_readers.specs.Reading.{Reading}
use Rattle.log_groups.specs.declared.fault.GroupFault.{GroupFault}
use Rattle.log_groups.specs.declared.fault.GroupFault.TheVariants.{Outside}
use Rattle.log_groups.specs.Transaction.{TransactionValue}
use Rattle.log_groups.specs.Cuts.{GoesOn}

abbrev fault_of : Reading TransactionValue GroupFault → Option GroupFault
fault_of r = r.fault

abbrev items_of : Reading TransactionValue GroupFault → List TransactionValue
items_of r = r.items

-- begin a transaction and end it
begins_and_ends : (t : TransactionValue) → GoesOn (record { items = []; fault = None }) (record { items = t ∷ []; fault = None }) → ⊥
begins_and_ends t (inl e) = let items = ap items_of e in cc
begins_and_ends t (inr (inl (rests, e))) = let fault = ap fault_of e in cc
begins_and_ends t (inr (inr (inl (goes, fault, of_event, e)))) = let none = ap fault_of e in cc
begins_and_ends t (inr (inr (inr (going, u, e)))) = cc

-- take a fault back
takes_back : GoesOn (record { items = []; fault = Some Outside }) (record { items = []; fault = None }) → ⊥
takes_back (inl e) = let fault = ap fault_of e in cc
takes_back (inr (inl (rests, e))) = cc
takes_back (inr (inr (inl (goes, fault, of_event, e)))) = goes
takes_back (inr (inr (inr (going, u, e)))) = cc
