use Rattle.std.proofs.Common.{◌≡◌, ◌∙◌, ap, List}
use Rattle.std.proofs.lemmas.Result.{err_from_is_err_and}
use Rattle.filter_rule.specs.PlanTable.{TableValue}
use Rattle.vdiff_text.specs.ShownDifferences.{shown_differences}
use Rattle.vrepl_main.specs.Comparison.{Compared}
use Rattle.vrepl_vdiff.specs.Shown.{IsDifferencesText}
use Rattle.vrepl_vdiff.proofs.ShownLaws.{unwritten}
use Rattle.vrepl_vdiff.proofs.repairing.print_differences.Goals as goal

pub returns-in_err-put_all : goal.returns-in_err-put_all
returns-in_err-put_all g c =
    let compared : Compared = record { plan = c.args.plan.now; source = c.args.source.now; target = c.args.target.now } in
    let p = err_from_is_err_and c.from_residual-in_err-put_all.result c.from_residual-in_err-put_all.ensures.1 in
    let is = c.in_ok-text.ensures ∙ ap (λ (tables : List TableValue). shown_differences tables c.args.count c.args.source.now c.args.target.now) c.tables.ensures.tables in
    rw p.1 (unwritten (IsDifferencesText c.args.count compared) p.0 _ _ c.in_ok-text.text.items is (rw c.deref.ensures.value at c.in_err-put_all.ensures) p.2)

pub returns : goal.returns
returns g c =
    let is = c.in_ok-text.ensures ∙ ap (λ (tables : List TableValue). shown_differences tables c.args.count c.args.source.now c.args.target.now) c.tables.ensures.tables in
    (c.in_ok-text.text.items, is, rw c.deref.ensures.value at c.in_ok-put_all.ensures)
