-- Why a workflow file is refused, and what it means that a step of the code gives what reading gives.
use Rattle.std.specs.Prelude.{◌≡◌, ℕ, List, [], ◌∷◌, Option, Some, None, Result, Ok, Err, string_bytes}
use Rattle.filter_rule.specs.declared.fault.PlanFault.{PlanFault}
use Rattle.filter_rule.specs.declared.fault.PlanFault.TheVariants as errors

-- a fault, with the names of the table and of the column, or the stream and the rule, from 0
pub data Fault : Type 0 where
  json : Fault
  shape : Fault
  limit : Fault
  no_such_column : List ℕ → List ℕ → Fault
  key_type : List ℕ → List ℕ → Fault
  bad_rule : ℕ → ℕ → Fault
  columns_differ : List ℕ → Fault

-- the fault that is meant, none for want of memory
abbrev pub definition_fault_of : PlanFault → Option Fault
definition_fault_of errors.Memory = None
definition_fault_of errors.Json = Some json
definition_fault_of errors.Shape = Some shape
definition_fault_of errors.Limit = Some limit
definition_fault_of (errors.NoSuchColumn table column) = Some (no_such_column (string_bytes table) (string_bytes column))
definition_fault_of (errors.KeyType table column) = Some (key_type (string_bytes table) (string_bytes column))
definition_fault_of (errors.BadRule stream rule) = Some (bad_rule stream rule)
definition_fault_of (errors.ColumnsDiffer table) = Some (columns_differ (string_bytes table))

-- what is wrong, unless memory ran out
abbrev pub Fails : {Y : Type 0} → PlanFault → Result Y Fault → Type 0
Fails errors.Memory read = Unit {0}
Fails errors.Json read = read ≡ Err json
Fails errors.Shape read = read ≡ Err shape
Fails errors.Limit read = read ≡ Err limit
Fails (errors.NoSuchColumn table column) read = read ≡ Err (no_such_column (string_bytes table) (string_bytes column))
Fails (errors.KeyType table column) read = read ≡ Err (key_type (string_bytes table) (string_bytes column))
Fails (errors.BadRule stream rule) read = read ≡ Err (bad_rule stream rule)
Fails (errors.ColumnsDiffer table) read = read ≡ Err (columns_differ (string_bytes table))

-- What a function returned, seen by view, is what reading gives, unless memory ran out.
abbrev pub GivesOrFails : {X Y : Type 0} → (X → Y) → Result X PlanFault → Result Y Fault → Type 0
GivesOrFails view (Ok x) read = read ≡ Ok (view x)
GivesOrFails view (Err e) read = Fails e read

-- the number by which a refusal is known
abbrev pub number_of : PlanFault → ℕ
number_of errors.Json = 51
number_of errors.Shape = 52
number_of (errors.NoSuchColumn table column) = 53
number_of (errors.KeyType table column) = 54
number_of (errors.BadRule stream rule) = 55
number_of errors.Limit = 56
number_of (errors.ColumnsDiffer table) = 57
number_of errors.Memory = 72
