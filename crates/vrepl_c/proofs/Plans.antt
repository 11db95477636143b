-- The plans of a workflow, and why it has none.
use Rattle.std.proofs.Common.{◌≡◌, ◌⊎◌, ℕ, List, map, Option, Result, Err, inl, inr, refl}
use Rattle.std.specs.Prelude.{slice_get, IfSome}
use Rattle.std.specs.Option.{option_map}
use Rattle.std.specs.Result.{result_map_both}
use Rattle.std.proofs.lemmas.Option.{slice_get-map}
use Rattle.filter_rule.specs.Faults.{Fault, Fails, definition_fault_of, number_of}
use Rattle.filter_rule.specs.PlanValue.{PlanValue}
use Rattle.filter_rule.specs.declared.fault.PlanFault.{PlanFault}
use Rattle.filter_rule.specs.declared.fault.PlanFault.TheVariants as errors
use Rattle.vrepl_c.specs.Checked.{place_of, told_by}
use Rattle.vrepl_c.specs.Workflows.{workflow_number}

pub plan_at : {A B : Type 0} → (f : A → B) (xs : List A) (i : ℕ) → slice_get (map f xs) i ≡ option_map f (slice_get xs i)
plan_at f xs i = slice_get-map f xs i

pub workflow_refused : (e : PlanFault) (read : Result (List PlanValue) Fault) → Fails e read
    → (number_of e ≡ 72) ⊎ (result_map_both (λ plans. plans) workflow_number read ≡ Err (number_of e))
workflow_refused errors.Memory read is = inl refl
workflow_refused errors.Json read is = inr (rw is refl)
workflow_refused errors.Shape read is = inr (rw is refl)
workflow_refused errors.Limit read is = inr (rw is refl)
workflow_refused (errors.NoSuchColumn table column) read is = inr (rw is refl)
workflow_refused (errors.KeyType table column) read is = inr (rw is refl)
workflow_refused (errors.BadRule stream rule) read is = inr (rw is refl)
workflow_refused (errors.ColumnsDiffer table) read is = inr (rw is refl)

pub told_by_fault : (workflow text : List ℕ) (e : PlanFault) (read : Result (List PlanValue) Fault) → Fails e read → IfSome (definition_fault_of e) (λ is. text ≡ place_of workflow is)
    → (number_of e ≡ 72) ⊎ (record { refused = number_of e; text = text } ≡ told_by workflow read)
told_by_fault workflow text errors.Memory read is said = inl refl
told_by_fault workflow text errors.Json read is said = inr (rw (is, said) refl)
told_by_fault workflow text errors.Shape read is said = inr (rw (is, said) refl)
told_by_fault workflow text errors.Limit read is said = inr (rw (is, said) refl)
told_by_fault workflow text (errors.NoSuchColumn table column) read is said = inr (rw (is, said) refl)
told_by_fault workflow text (errors.KeyType table column) read is said = inr (rw (is, said) refl)
told_by_fault workflow text (errors.BadRule stream rule) read is said = inr (rw (is, said) refl)
told_by_fault workflow text (errors.ColumnsDiffer table) read is said = inr (rw (is, said) refl)
