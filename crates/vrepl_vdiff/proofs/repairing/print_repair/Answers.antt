use Rattle.std.proofs.lemmas.Result.{err_from_is_err_and}
use Rattle.vrepl_main.specs.Comparison.{Compared}
use Rattle.vrepl_vdiff.specs.Shown.{IsRepairText}
use Rattle.vrepl_vdiff.proofs.ShownLaws.{unwritten}
use Rattle.vrepl_vdiff.proofs.repairing.print_repair.Goals as goal

pub returns-in_err-put_all : goal.returns-in_err-put_all
returns-in_err-put_all g c =
    let compared : Compared = record { plan = c.args.plan.now; source = c.args.source.now; target = c.args.target.now } in
    let p = err_from_is_err_and c.from_residual-in_err-put_all.result c.from_residual-in_err-put_all.ensures.1 in
    rw p.1 (unwritten (IsRepairText c.args.schema.now compared) p.0 _ _ c.in_ok-text.text.items (record { is_text = c.in_ok-text.ensures.text; repair = c.in_ok-text.ensures.repair }) (rw c.deref.ensures.value at c.in_err-put_all.ensures) p.2)

pub returns : goal.returns
returns g c =
    (c.in_ok-text.text.items, record { is_text = c.in_ok-text.ensures.text; repair = c.in_ok-text.ensures.repair }, rw c.deref.ensures.value at c.in_ok-put_all.ensures)
