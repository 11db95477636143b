use Rattle.std.proofs.Common.{◌++◌}
use Rattle.std.proofs.lemmas.Result.{err_from_is_err_and}
use Rattle.std.specs.Prelude.{codes}
use Rattle.vdiff.specs.Texts.{counts_text}
use Rattle.printing.proofs.PrintLaws.{adding_breaks, added_breaks, added_more, then_adds}
use Rattle.vdiff.proofs.tables.add_table.Goals as goal

pub returns-in_err-put_str : goal.returns-in_err-put_str
returns-in_err-put_str g c =
    let t2 = (codes "table ") ++ c.args.table.now.name.now in
    let t3 = t2 ++ (codes " ") in
    let p = err_from_is_err_and c.from_residual.result c.from_residual.ensures.1 in
    rw p.1 (adding_breaks _ _ c.args.text.now t3 (counts_text (codes " ") c.args.table.now.report) (adding_breaks _ _ c.args.text.now t2 (codes " ") (adding_breaks _ _ c.args.text.now (codes "table ") c.args.table.now.name.now c.in_err-put_str.ensures)))

pub returns-in_err-put_str-2 : goal.returns-in_err-put_str-2
returns-in_err-put_str-2 g c =
    let t2 = (codes "table ") ++ c.args.table.now.name.now in
    let t3 = t2 ++ (codes " ") in
    let p = err_from_is_err_and c.from_residual-in_err-put_str-2.result c.from_residual-in_err-put_str-2.ensures.1 in
    rw p.1 (adding_breaks _ _ c.args.text.now t3 (counts_text (codes " ") c.args.table.now.report) (adding_breaks _ _ c.args.text.now t2 (codes " ") (added_breaks _ _ _ _ _ (codes "table ") c.args.table.now.name.now c.in_ok-put_str.ensures c.in_err-put_str-2.ensures)))

pub returns-in_err-put_str-3 : goal.returns-in_err-put_str-3
returns-in_err-put_str-3 g c =
    let t2 = (codes "table ") ++ c.args.table.now.name.now in
    let t3 = t2 ++ (codes " ") in
    let p = err_from_is_err_and c.from_residual-in_err-put_str-3.result c.from_residual-in_err-put_str-3.ensures.1 in
    rw p.1 (adding_breaks _ _ c.args.text.now t3 (counts_text (codes " ") c.args.table.now.report) (added_breaks _ _ _ _ _ t2 (codes " ") (added_more _ _ _ _ _ _ (codes "table ") c.args.table.now.name.now c.in_ok-put_str.ensures c.in_ok-put_str-2.ensures) c.in_err-put_str-3.ensures))

pub returns : goal.returns
returns g c =
    let t2 = (codes "table ") ++ c.args.table.now.name.now in
    let t3 = t2 ++ (codes " ") in
    then_adds c.add_counts.result _ _ _ _ _ _ t3 (counts_text (codes " ") c.args.table.now.report) (added_more _ _ _ _ _ _ t2 (codes " ") (added_more _ _ _ _ _ _ (codes "table ") c.args.table.now.name.now c.in_ok-put_str.ensures c.in_ok-put_str-2.ensures) c.in_ok-put_str-3.ensures) c.add_counts.ensures
