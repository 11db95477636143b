use Rattle.std.proofs.Common.{[], ◌∷◌, ◌++◌}
use Rattle.std.specs.Prelude.{codes, decimal}
use Rattle.std.proofs.lemmas.Result.{err_from_is_err_and}
use Rattle.printing.proofs.PrintLaws.{added_breaks, added_more, adding_breaks, then_adds}
use Rattle.vrepl_feed.proofs.refusal.add_text_line.Goals as goal

pub returns-in_err-add_named : goal.returns-in_err-add_named
returns-in_err-add_named g c =
    let line = codes "refused 133 line " ++ decimal c.args.fault.line in
    let column = codes " column " ++ decimal c.args.fault.column in
    let p = err_from_is_err_and c.from_residual.result c.from_residual.ensures.1 in
    rw p.1 (adding_breaks _ _ c.args.text.now (line ++ column) (10 ∷ []) (adding_breaks _ _ c.args.text.now line column c.in_err-add_named.ensures))

pub returns-in_err-add_named-2 : goal.returns-in_err-add_named-2
returns-in_err-add_named-2 g c =
    let line = codes "refused 133 line " ++ decimal c.args.fault.line in
    let column = codes " column " ++ decimal c.args.fault.column in
    let p = err_from_is_err_and c.from_residual-in_err-add_named-2.result c.from_residual-in_err-add_named-2.ensures.1 in
    rw p.1 (adding_breaks _ _ c.args.text.now (line ++ column) (10 ∷ []) (added_breaks _ _ _ _ _ line column c.in_ok-add_named.ensures c.in_err-add_named-2.ensures))

pub returns : goal.returns
returns g c =
    let line = codes "refused 133 line " ++ decimal c.args.fault.line in
    let column = codes " column " ++ decimal c.args.fault.column in
    then_adds c.put.result _ _ _ _ _ _ (line ++ column) (10 ∷ []) (added_more _ _ _ _ _ _ line column c.in_ok-add_named.ensures c.in_ok-add_named-2.ensures) c.put.ensures
