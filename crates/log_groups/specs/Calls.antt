-- What the calls answer and leave that read a transaction. Of want of memory nothing is told.
use Rattle.std.specs.Prelude.{◌≡◌, ◌≢◌, List, [], ◌∷◌, map, Option, Some, None, Result, Ok, Err}
use Rattle.item_readers.specs.Reading.{Reading}
use Rattle.log_groups.specs.declared.fault.GroupFault.{GroupFault}
use Rattle.log_groups.specs.declared.fault.GroupError.{GroupError}
use Rattle.log_groups.specs.declared.fault.GroupError.TheVariants.{Memory, Fault}
use Rattle.log_groups.specs.declared.transaction.Transaction as transaction_type
use Rattle.log_groups.specs.Step.{EndingValue, LogStep, gtid_value, ending_value}
use Rattle.log_groups.specs.Transaction.{done_value, TransactionValue, SoFar, Turn, Goes, Ended, transaction_at}

-- how a transaction of the program is seen
abbrev pub transaction_value : transaction_type.Transaction → TransactionValue
transaction_value t = record { gtid = gtid_value t.gtid; changes = map done_value t.changes.items; ending = ending_value t.ending }

-- a step was taken: the transaction goes on, or ends
abbrev pub Turns : Result Turn GroupFault → SoFar → Result (Option EndingValue) GroupError → Type 0
Turns definition new (Ok None) = definition ≡ Ok (Goes new)
Turns definition new (Ok (Some ending)) = definition ≡ Ok (Ended new.kept.changes ending)
Turns definition new (Err Memory) = Unit {0}
Turns definition new (Err (Fault fault)) = definition ≡ Err fault

-- the transaction at the front was read
abbrev pub FindsTransaction : List LogStep → Result TransactionValue GroupError → List LogStep → Type 0
FindsTransaction old (Ok t) new = transaction_at old ≡ Ok (t, new)
FindsTransaction old (Err Memory) new = Unit {0}
FindsTransaction old (Err (Fault fault)) new = transaction_at old ≡ Err fault

-- the same, where there may be none
abbrev pub ReadsTransaction : List LogStep → Result (Option TransactionValue) GroupError → List LogStep → Type 0
ReadsTransaction old (Ok (Some t)) new = transaction_at old ≡ Ok (t, new)
ReadsTransaction old (Ok None) new = (old ≡ []) × (new ≡ old)
ReadsTransaction old (Err Memory) new = Unit {0}
ReadsTransaction old (Err (Fault fault)) new = (old ≢ []) × (transaction_at old ≡ Err fault)

-- the transactions still to come, where one wasn't read
abbrev pub unless_failed : Option GroupFault → Reading TransactionValue GroupFault → Reading TransactionValue GroupFault
unless_failed None r = r
unless_failed (Some fault) r = record { items = []; fault = Some fault }

-- The next transaction is taken off the front. After the end the end is answered again, and after a fault the same
-- fault.
abbrev pub NextTransaction : Reading TransactionValue GroupFault → Result (Option TransactionValue) GroupError → Reading TransactionValue GroupFault → Type 0
NextTransaction old (Ok (Some t)) new = (old.items ≡ t ∷ new.items) × (old.fault ≡ new.fault)
NextTransaction old (Ok None) new = (old.items ≡ []) × (old.fault ≡ None) × (new ≡ old)
NextTransaction old (Err Memory) new = Unit {0}
NextTransaction old (Err (Fault fault)) new = (old.items ≡ []) × (old.fault ≡ Some fault) × (new ≡ old)
