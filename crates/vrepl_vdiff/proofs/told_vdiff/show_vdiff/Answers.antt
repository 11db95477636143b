use Rattle.std.proofs.Common.{ℕ, ◌≤◌, drop, map, refl, subst, Err}
use Rattle.std.proofs.lemmas.List.{length-map}
use Rattle.std.proofs.lemmas.Result.{err_from_is_err_and}
use Rattle.std.specs.Arc.{arc_value}
use Rattle.vrepl_main.proofs.VdiffLaws.{first_plan}
use Rattle.filter_rule.specs.Reading.{plans_of}
use Rattle.vrepl_main.specs.Comparison.{AreDumps, Compared}
use Rattle.filter_rule.specs.PlanValue.{PlanValue}
use Rattle.dump.specs.DumpRowsValue.{DumpRowsValue}
use Rattle.vrepl_vdiff.specs.Shown.{PrintsShown}
use Rattle.vrepl_vdiff.proofs.ToldLaws.{told_workflow, told_source, told_target, told_shown}
use Rattle.vrepl_vdiff.proofs.told_vdiff.show_vdiff.Goals as goal

pub returns-in-Err-clause-refused : goal.returns-in-Err-clause-refused
returns-in-Err-clause-refused g c =
    rw (c.told_of_workflow.ensures.0, c.told_of_workflow.ensures.1) (told_workflow c.args.inputs.now c.in-Err.fault _ _ refl (rw c.deref.ensures.value at c.in-Err.ensures.reads))

pub read_beside-requires : goal.read_beside-requires
read_beside-requires g c = rw c.deref-3.ensures (rw c.deref-2.ensures at c.in_ok-ours.ensures.read).rows_of_plan.each_row

pub print_shown-requires-clause-source : goal.print_shown-requires-clause-source
print_shown-requires-clause-source g c = rw (c.deref-4.ensures, c.rows.ensures) (rw c.deref-2.ensures at c.in_ok-ours.ensures.read).rows_of_plan.each_row

pub print_shown-requires-clause-target : goal.print_shown-requires-clause-target
print_shown-requires-clause-target g c = rw c.deref-4.ensures (rw c.deref-3.ensures at c.in_ok-theirs.ensures.read).rows_of_plan.each_row

pub returns-in_err-ours-clause-refused : goal.returns-in_err-ours-clause-refused
returns-in_err-ours-clause-refused g c =
    let plan = arc_value c.index-plan.result.now in
    let is = first_plan arc_value (plans_of c.args.inputs.now.workflow.items) c.in-Ok.plans.items c.index-plan.result.now (rw c.deref.ensures.value at c.in-Ok.ensures.reads) (subst (λ (n : ℕ). 1 ≤ n) (length-map c.in-Ok.plans.items arc_value) c.in-Ok.ensures.well_formed.count.0) c.index-plan.ensures in
    let p = err_from_is_err_and c.from_residual.result c.from_residual.ensures.1 in
    let bad = rw c.deref-2.ensures at c.in_err-ours.ensures.refused in
    rw (p.1, p.2) (told_source c.args.inputs.now plan _ is _ c.in_err-ours.field-0.0.refusal _ bad.0 bad.1)

pub returns-in_err-theirs-clause-refused : goal.returns-in_err-theirs-clause-refused
returns-in_err-theirs-clause-refused g c =
    let plan = arc_value c.index-plan.result.now in
    let is = first_plan arc_value (plans_of c.args.inputs.now.workflow.items) c.in-Ok.plans.items c.index-plan.result.now (rw c.deref.ensures.value at c.in-Ok.ensures.reads) (subst (λ (n : ℕ). 1 ≤ n) (length-map c.in-Ok.plans.items arc_value) c.in-Ok.ensures.well_formed.count.0) c.index-plan.ensures in
    let p = err_from_is_err_and c.from_residual-in_err-theirs.result c.from_residual-in_err-theirs.ensures.1 in
    let bad = rw c.deref-3.ensures at c.in_err-theirs.ensures.refused in
    rw (p.1, p.2) (told_target c.args.inputs.now plan _ is _ c.in_ok-ours.ours c.in_err-theirs.field-0.0.refusal _ (rw c.deref-2.ensures at c.in_ok-ours.ensures.read) bad.0 bad.1)

pub returns-in_err-print_shown-clause-refused : goal.returns-in_err-print_shown-clause-refused
returns-in_err-print_shown-clause-refused g c =
    let plan = arc_value c.index-plan.result.now in
    let is = first_plan arc_value (plans_of c.args.inputs.now.workflow.items) c.in-Ok.plans.items c.index-plan.result.now (rw c.deref.ensures.value at c.in-Ok.ensures.reads) (subst (λ (n : ℕ). 1 ≤ n) (length-map c.in-Ok.plans.items arc_value) c.in-Ok.ensures.well_formed.count.0) c.index-plan.ensures in
    let compared : Compared = record { plan = plan; source = c.in_ok-ours.ours; target = c.in_ok-theirs.theirs } in
    let dumps : AreDumps c.args.inputs.now.workflow.items c.args.inputs.now.source.text c.args.inputs.now.target.text compared = record {
      others = map arc_value (drop 1 c.in-Ok.plans.items);
      plans = is;
      source_read = rw c.deref-2.ensures at c.in_ok-ours.ensures.read;
      target_read = rw c.deref-3.ensures at c.in_ok-theirs.ensures.read;
    } in
    let p = err_from_is_err_and c.from_residual-in_err-print_shown.result c.from_residual-in_err-print_shown.ensures.1 in
    let refusal = c.in_err-print_shown.field-0.0 in
    let options = c.args.inputs.now.options in
    let by_plan = subst (λ (one : PlanValue). PrintsShown {X = ℕ} options (Err refusal) (record { plan = one; source = c.rows.result.now; target = c.in_ok-theirs.theirs }) (g.W.Out.written c.args.out.now) (g.W.Out.written c.print_shown.new.out)) c.deref-4.ensures c.in_err-print_shown.ensures in
    let printed = subst (λ (rows : DumpRowsValue). PrintsShown {X = ℕ} options (Err refusal) (record { plan = plan; source = rows; target = c.in_ok-theirs.theirs }) (g.W.Out.written c.args.out.now) (g.W.Out.written c.print_shown.new.out)) c.rows.ensures by_plan in
    rw (p.1, p.2.0, p.2.1) (told_shown c.args.inputs.now compared refusal _ _ _ dumps printed refl)

pub returns-clause-shown : goal.returns-clause-shown
returns-clause-shown g c =
    let plan = arc_value c.index-plan.result.now in
    let is = first_plan arc_value (plans_of c.args.inputs.now.workflow.items) c.in-Ok.plans.items c.index-plan.result.now (rw c.deref.ensures.value at c.in-Ok.ensures.reads) (subst (λ (n : ℕ). 1 ≤ n) (length-map c.in-Ok.plans.items arc_value) c.in-Ok.ensures.well_formed.count.0) c.index-plan.ensures in
    let compared : Compared = record { plan = plan; source = c.in_ok-ours.ours; target = c.in_ok-theirs.theirs } in
    let dumps : AreDumps c.args.inputs.now.workflow.items c.args.inputs.now.source.text c.args.inputs.now.target.text compared = record {
      others = map arc_value (drop 1 c.in-Ok.plans.items);
      plans = is;
      source_read = rw c.deref-2.ensures at c.in_ok-ours.ensures.read;
      target_read = rw c.deref-3.ensures at c.in_ok-theirs.ensures.read;
    } in
    let printed = rw (c.deref-4.ensures, c.rows.ensures) at c.in_ok-print_shown.ensures in
    record { compared = compared; dumps = dumps; is_verdict = rw c.rows-2.ensures at c.verdict_of.ensures; text = printed.0; shown = printed.1; printed = printed.2 }
