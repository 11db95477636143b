-- Why `vdiff` is refused, and what is told of it.
use Rattle.std.proofs.Common.{◌≡◌, ◌∙◌, ap, sym, subst, ℕ, List, [], ◌∷◌, refl, inl, inr, Option, None, Result, Ok, Err}
use Rattle.filter_rule.specs.Faults as plans
use Rattle.filter_rule.specs.PlanValue.{PlanValue}
use Rattle.filter_rule.specs.Reading.{plans_of}
use Rattle.filter_rule.specs.declared.fault.PlanFault.{PlanFault}
use Rattle.filter_rule.specs.declared.fault.PlanFault.TheVariants as errors
use Rattle.dump.specs.DumpReading.{IsFirstBad, IsDumpReading}
use Rattle.printing.specs.Printing.{Written}
use Rattle.dump.specs.DumpRowsValue.{DumpRowsValue}
use Rattle.dump.specs.declared.reading.DumpFault.{DumpFault}
use Rattle.dump.specs.declared.reading.DumpFault.TheVariants as faults
use Rattle.vrepl_choices.specs.declared.report_form.ReportForm.{ReportForm}
use Rattle.vrepl_choices.specs.declared.report_form.ReportForm.TheVariants.{Lines, Json}
use Rattle.vrepl_main.specs.declared.refusal.CommandRefusal.{CommandRefusal}
use Rattle.vrepl_main.specs.declared.refusal.CommandRefusal.TheVariants.{Memory, Workflow, NoStream, FeedCount, NotReached, Feed, BadHex, BadScript, BadDump, Changed, CannotRead, CannotWrite}
use Rattle.vrepl_main.specs.Reasons.{bad_workflow, bad_dump}
use Rattle.vrepl_main.specs.RefusalOf.{refusal_of_dump, refusal_of_workflow}
use Rattle.vrepl_main.specs.Comparison.{AreDumps, Compared}
use Rattle.vrepl_vdiff.specs.NamedDump.{NamedDump}
use Rattle.vrepl_vdiff.specs.Reading.{IsNamedBad, IsOfDump}
use Rattle.vrepl_vdiff.specs.Shown.{PrintsShown}
use Rattle.vrepl_vdiff.specs.Told.{IsTold, NamesBad, RefusesShown, place_of}
use Rattle.vrepl_vdiff.specs.ToldValue.{IsToldOf}
use Rattle.vrepl_vdiff.specs.declared.told.Told.{Told}
use Rattle.vrepl_vdiff.specs.declared.inputs.VdiffInputs.{VdiffInputs}

-- the workflow's fault
refuses_workflow : (fault : PlanFault) (inputs : VdiffInputs) (now : Written) → plans.Fails {Y = List PlanValue} fault (plans_of inputs.workflow.items) → RefusesShown inputs (refusal_of_workflow fault) now now
refuses_workflow errors.Memory inputs now is = refl
refuses_workflow errors.Json inputs now is = (Err (bad_workflow plans.json), is, (refl, refl))
refuses_workflow errors.Shape inputs now is = (Err (bad_workflow plans.shape), is, (refl, refl))
refuses_workflow errors.Limit inputs now is = (Err (bad_workflow plans.limit), is, (refl, refl))
refuses_workflow (errors.NoSuchColumn table column) inputs now is = (Err (bad_workflow _), is, (refl, refl))
refuses_workflow (errors.KeyType table column) inputs now is = (Err (bad_workflow _), is, (refl, refl))
refuses_workflow (errors.BadRule stream rule) inputs now is = (Err (bad_workflow _), is, (refl, refl))
refuses_workflow (errors.ColumnsDiffer table) inputs now is = (Err (bad_workflow _), is, (refl, refl))

workflow_names : (fault : PlanFault) (inputs : VdiffInputs) → NamesBad inputs (refusal_of_workflow fault) []
workflow_names errors.Memory inputs = tt
workflow_names errors.Json inputs = tt
workflow_names errors.Shape inputs = tt
workflow_names errors.Limit inputs = tt
workflow_names (errors.NoSuchColumn table column) inputs = tt
workflow_names (errors.KeyType table column) inputs = tt
workflow_names (errors.BadRule stream rule) inputs = tt
workflow_names (errors.ColumnsDiffer table) inputs = tt

workflow_error : (form : ReportForm) (fault : PlanFault) → place_of form (refusal_of_workflow fault) [] ≡ None
workflow_error Json errors.Memory = refl
workflow_error Json errors.Json = refl
workflow_error Json errors.Shape = refl
workflow_error Json errors.Limit = refl
workflow_error Json (errors.NoSuchColumn table column) = refl
workflow_error Json (errors.KeyType table column) = refl
workflow_error Json (errors.BadRule stream rule) = refl
workflow_error Json (errors.ColumnsDiffer table) = refl
workflow_error Lines fault = refl

pub told_workflow : (inputs : VdiffInputs) (fault : PlanFault) (now : Written) (place : Option (List ℕ)) → place ≡ None → plans.Fails {Y = List PlanValue} fault (plans_of inputs.workflow.items) → IsTold inputs (refusal_of_workflow fault) place now now
told_workflow inputs fault now place none is = record {
  refuses = refuses_workflow fault inputs now is;
  name = [];
  names = workflow_names fault inputs;
  is_place = none ∙ sym (workflow_error inputs.options.report_form fault);
}

module _ (inputs : VdiffInputs) (plan : PlanValue) (others : List PlanValue) (is : plans_of inputs.workflow.items ≡ Ok (plan ∷ others)) (now : Written) where
  -- the source's bad line
  pub told_source : (refusal : CommandRefusal) (place : Option (List ℕ)) → IsOfDump plan inputs.source.text refusal → place ≡ place_of inputs.options.report_form refusal inputs.source.name → IsTold inputs refusal place now now
  told_source Memory place bad same = record { refuses = refl; name = inputs.source.name; names = tt; is_place = same }
  told_source (BadDump line) place bad same = record {
    refuses = (Err (bad_dump line), record { plan = plan; others = others; plans = is; bad = inl bad }, (refl, refl));
    name = inputs.source.name;
    names = record { plan = plan; others = others; plans = is; bad = inl (refl, bad) };
    is_place = same;
  }
  told_source (Workflow fault) place bad same = absurd bad
  told_source NoStream place bad same = absurd bad
  told_source (Changed file) place bad same = absurd bad
  told_source FeedCount place bad same = absurd bad
  told_source (NotReached stream) place bad same = absurd bad
  told_source (Feed fault) place bad same = absurd bad
  told_source BadHex place bad same = absurd bad
  told_source (BadScript line) place bad same = absurd bad
  told_source (CannotRead file) place bad same = absurd bad
  told_source (CannotWrite file) place bad same = absurd bad

  -- the target's, behind a dump of the source
  pub told_target : (rows : DumpRowsValue) (refusal : CommandRefusal) (place : Option (List ℕ)) → IsDumpReading plan inputs.source.text (Ok rows) → IsOfDump plan inputs.target.text refusal → place ≡ place_of inputs.options.report_form refusal inputs.target.name → IsTold inputs refusal place now now
  told_target rows Memory place read bad same = record { refuses = refl; name = inputs.target.name; names = tt; is_place = same }
  told_target rows (BadDump line) place read bad same = record {
    refuses = (Err (bad_dump line), record { plan = plan; others = others; plans = is; bad = inr (rows, read, bad) }, (refl, refl));
    name = inputs.target.name;
    names = record { plan = plan; others = others; plans = is; bad = inr (refl, (rows, read, bad)) };
    is_place = same;
  }
  told_target rows (Workflow fault) place read bad same = absurd bad
  told_target rows NoStream place read bad same = absurd bad
  told_target rows (Changed file) place read bad same = absurd bad
  told_target rows FeedCount place read bad same = absurd bad
  told_target rows (NotReached stream) place read bad same = absurd bad
  told_target rows (Feed fault) place read bad same = absurd bad
  told_target rows BadHex place read bad same = absurd bad
  told_target rows (BadScript line) place read bad same = absurd bad
  told_target rows (CannotRead file) place read bad same = absurd bad
  told_target rows (CannotWrite file) place read bad same = absurd bad

-- memory ran out, or it can't be written
pub told_shown : (inputs : VdiffInputs) (compared : Compared) (refusal : CommandRefusal) (place : Option (List ℕ)) (old new : Written) → AreDumps inputs.workflow.items inputs.source.text inputs.target.text compared
    → PrintsShown {X = ℕ} inputs.options (Err refusal) compared old new → place ≡ None → IsTold inputs refusal place old new
told_shown inputs compared Memory place old new dumps printed none = record { refuses = printed; name = []; names = tt; is_place = none ∙ sym (by inputs.options.report_form) }
  where
    by : (form : ReportForm) → place_of form Memory [] ≡ None
    by Lines = refl
    by Json = refl
told_shown inputs compared (CannotWrite file) place old new dumps (is, text, shown, broken) none = record {
  refuses = (Ok compared, dumps, (is, (text, shown, broken)));
  name = [];
  names = tt;
  is_place = none ∙ sym (by inputs.options.report_form);
}
  where
    by : (form : ReportForm) → place_of form (CannotWrite file) [] ≡ None
    by Lines = refl
    by Json = refl
told_shown inputs compared (Workflow fault) place old new dumps printed none = absurd printed.0
told_shown inputs compared NoStream place old new dumps printed none = absurd printed.0
told_shown inputs compared (Changed file) place old new dumps printed none = absurd printed.0
told_shown inputs compared FeedCount place old new dumps printed none = absurd printed.0
told_shown inputs compared (NotReached stream) place old new dumps printed none = absurd printed.0
told_shown inputs compared (Feed fault) place old new dumps printed none = absurd printed.0
told_shown inputs compared BadHex place old new dumps printed none = absurd printed.0
told_shown inputs compared (BadScript line) place old new dumps printed none = absurd printed.0
told_shown inputs compared (BadDump line) place old new dumps printed none = absurd printed.0
told_shown inputs compared (CannotRead file) place old new dumps printed none = absurd printed.0

-- ---- a dump's fault

no_error : (form : ReportForm) (name : List ℕ) → place_of form Memory name ≡ None
no_error Lines name = refl
no_error Json name = refl

of_dump : {X : Type 0} (plan : PlanValue) (text : List ℕ) (fault : DumpFault) → ((n : ℕ) → ◌≡◌ {A = Result X DumpFault} (Err fault) (Err (faults.BadDump n)) → IsFirstBad plan text n) → IsOfDump plan text (refusal_of_dump fault)
of_dump plan text faults.Memory bad = tt
of_dump plan text (faults.BadDump n) bad = bad n refl

pub named_bad : {X : Type 0} (form : ReportForm) (plan : PlanValue) (dump : NamedDump) (fault : DumpFault) (told : Told) → IsToldOf form dump.name fault told
    → ((n : ℕ) → ◌≡◌ {A = Result X DumpFault} (Err fault) (Err (faults.BadDump n)) → IsFirstBad plan dump.text n) → IsNamedBad form plan dump told
named_bad {X} form plan dump fault told (inl (is, place)) bad = (subst (IsOfDump plan dump.text) (sym is) (of_dump {X = X} plan dump.text fault bad), place)
named_bad form plan dump fault told (inr (is, none)) bad = (subst (IsOfDump plan dump.text) (sym is) tt, none ∙ sym (ap (λ (r : CommandRefusal). place_of form r dump.name) is ∙ no_error form dump.name))
