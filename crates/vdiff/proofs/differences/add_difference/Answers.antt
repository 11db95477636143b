use Rattle.std.proofs.Common.{◌++◌}
use Rattle.std.proofs.lemmas.Result.{err_from_is_err_and}
use Rattle.std.specs.Prelude.{codes, option_copied}
use Rattle.vdiff.specs.Texts.{key_line, side_text}
use Rattle.printing.proofs.PrintLaws.{adding_breaks, added_breaks, added_more, then_adds}
use Rattle.vdiff.proofs.differences.add_difference.Goals as goal

pub returns-in_err-add_key_line : goal.returns-in_err-add_key_line
returns-in_err-add_key_line g c =
    let t2 = (key_line c.args.tables.now (codes "differs table ") c.args.found.now.key.now) ++ (side_text (codes "source") (option_copied c.args.found.now.source)) in
    let p = err_from_is_err_and c.from_residual.result c.from_residual.ensures.1 in
    rw p.1 (adding_breaks _ _ c.args.text.now t2 (side_text (codes "target") (option_copied c.args.found.now.target)) (adding_breaks _ _ c.args.text.now (key_line c.args.tables.now (codes "differs table ") c.args.found.now.key.now) (side_text (codes "source") (option_copied c.args.found.now.source)) c.in_err-add_key_line.ensures))

pub returns-in_err-add_side : goal.returns-in_err-add_side
returns-in_err-add_side g c =
    let t2 = (key_line c.args.tables.now (codes "differs table ") c.args.found.now.key.now) ++ (side_text (codes "source") (option_copied c.args.found.now.source)) in
    let p = err_from_is_err_and c.from_residual-in_err-add_side.result c.from_residual-in_err-add_side.ensures.1 in
    rw p.1 (adding_breaks _ _ c.args.text.now t2 (side_text (codes "target") (option_copied c.args.found.now.target)) (added_breaks _ _ _ _ _ (key_line c.args.tables.now (codes "differs table ") c.args.found.now.key.now) (side_text (codes "source") (option_copied c.args.found.now.source)) c.in_ok-add_key_line.ensures c.in_err-add_side.ensures))

pub returns : goal.returns
returns g c =
    let t2 = (key_line c.args.tables.now (codes "differs table ") c.args.found.now.key.now) ++ (side_text (codes "source") (option_copied c.args.found.now.source)) in
    then_adds c.add_side-2.result _ _ _ _ _ _ t2 (side_text (codes "target") (option_copied c.args.found.now.target)) (added_more _ _ _ _ _ _ (key_line c.args.tables.now (codes "differs table ") c.args.found.now.key.now) (side_text (codes "source") (option_copied c.args.found.now.source)) c.in_ok-add_key_line.ensures c.in_ok-add_side.ensures) c.add_side-2.ensures
