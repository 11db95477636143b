use Rattle.std.proofs.Common.{ℕ, ◌≤◌, drop, map, subst}
use Rattle.std.proofs.lemmas.List.{length-map}
use Rattle.std.proofs.lemmas.Result.{err_from_is_err_and}
use Rattle.std.specs.Arc.{arc_value}
use Rattle.filter_rule.specs.Reading.{plans_of}
use Rattle.vrepl_main.specs.Comparison.{AreDumps, Compared}
use Rattle.vrepl_main.proofs.VdiffLaws.{first_plan, refuses_source, refuses_target, unwritten_comparison, refuses_workflow}
use Rattle.vrepl_main.proofs.comparing.print_vdiff.Goals as goal

pub returns-in_err-plans-clause-refused : goal.returns-in_err-plans-clause-refused
returns-in_err-plans-clause-refused g c =
    let p = err_from_is_err_and c.from_residual.result c.from_residual.ensures.1 in
    rw (p.1, p.2) (refuses_workflow c.in_err-plans.field-0.0 c.args.workflow.now c.args.source.now c.args.target.now _ c.in_err-plans.ensures.reads)

pub read_dump_beside-requires : goal.read_dump_beside-requires
read_dump_beside-requires g c = rw c.deref-2.ensures (rw c.deref.ensures at c.in_ok-source.ensures.ok).rows_of_plan.each_row

pub returns-in_err-source-clause-refused : goal.returns-in_err-source-clause-refused
returns-in_err-source-clause-refused g c =
    let plan = arc_value c.index-plan.result.now in
    let is = first_plan arc_value (plans_of c.args.workflow.now) c.in_ok-plans.plans.items c.index-plan.result.now c.in_ok-plans.ensures.reads (subst (λ (n : ℕ). 1 ≤ n) (length-map c.in_ok-plans.plans.items arc_value) c.in_ok-plans.ensures.well_formed.count.0) c.index-plan.ensures in
    let p = err_from_is_err_and c.from_residual-in_err-source.result c.from_residual-in_err-source.ensures.1 in
    rw (p.1, p.2) (refuses_source c.args.workflow.now c.args.source.now c.args.target.now plan _ is _ c.in_err-source.field-0.0 (rw c.deref.ensures at c.in_err-source.ensures.bad))

pub returns-in_err-target-clause-refused : goal.returns-in_err-target-clause-refused
returns-in_err-target-clause-refused g c =
    let plan = arc_value c.index-plan.result.now in
    let is = first_plan arc_value (plans_of c.args.workflow.now) c.in_ok-plans.plans.items c.index-plan.result.now c.in_ok-plans.ensures.reads (subst (λ (n : ℕ). 1 ≤ n) (length-map c.in_ok-plans.plans.items arc_value) c.in_ok-plans.ensures.well_formed.count.0) c.index-plan.ensures in
    let p = err_from_is_err_and c.from_residual-in_err-target.result c.from_residual-in_err-target.ensures.1 in
    rw (p.1, p.2) (refuses_target c.args.workflow.now c.args.source.now c.args.target.now plan _ is _ c.in_err-target.field-0.0 c.in_ok-source.source (rw c.deref.ensures at c.in_ok-source.ensures.ok) (rw c.deref-2.ensures at c.in_err-target.ensures.bad))

pub returns-in_err-verdict-clause-refused : goal.returns-in_err-verdict-clause-refused
returns-in_err-verdict-clause-refused g c =
    let plan = arc_value c.index-plan.result.now in
    let is = first_plan arc_value (plans_of c.args.workflow.now) c.in_ok-plans.plans.items c.index-plan.result.now c.in_ok-plans.ensures.reads (subst (λ (n : ℕ). 1 ≤ n) (length-map c.in_ok-plans.plans.items arc_value) c.in_ok-plans.ensures.well_formed.count.0) c.index-plan.ensures in
    let compared : Compared = record { plan = plan; source = c.in_ok-source.source; target = c.in_ok-target.target } in
    let dumps : AreDumps c.args.workflow.now c.args.source.now c.args.target.now compared = record {
      others = map arc_value (drop 1 c.in_ok-plans.plans.items);
      plans = is;
      source_read = rw c.deref.ensures at c.in_ok-source.ensures.ok;
      target_read = rw c.deref-2.ensures at c.in_ok-target.ensures.ok;
    } in
    let p = err_from_is_err_and c.from_residual-in_err-verdict.result c.from_residual-in_err-verdict.ensures.1 in
    rw p.1 (unwritten_comparison c.args.workflow.now c.args.source.now c.args.target.now compared p.0 _ _ dumps (rw (c.deref-3.ensures, c.rows.ensures) at c.in_err-verdict.ensures) p.2)

pub returns-clause-compared : goal.returns-clause-compared
returns-clause-compared g c =
    let plan = arc_value c.index-plan.result.now in
    let is = first_plan arc_value (plans_of c.args.workflow.now) c.in_ok-plans.plans.items c.index-plan.result.now c.in_ok-plans.ensures.reads (subst (λ (n : ℕ). 1 ≤ n) (length-map c.in_ok-plans.plans.items arc_value) c.in_ok-plans.ensures.well_formed.count.0) c.index-plan.ensures in
    let compared : Compared = record { plan = plan; source = c.in_ok-source.source; target = c.in_ok-target.target } in
    let dumps : AreDumps c.args.workflow.now c.args.source.now c.args.target.now compared = record {
      others = map arc_value (drop 1 c.in_ok-plans.plans.items);
      plans = is;
      source_read = rw c.deref.ensures at c.in_ok-source.ensures.ok;
      target_read = rw c.deref-2.ensures at c.in_ok-target.ensures.ok;
    } in
    (compared, dumps, rw (c.deref-3.ensures, c.rows.ensures) at c.in_ok-verdict.ensures)
