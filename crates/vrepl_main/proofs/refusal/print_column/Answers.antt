use Rattle.std.proofs.Common.{◌++◌}
use Rattle.std.proofs.lemmas.Result.{err_from_is_err_and}
use Rattle.std.specs.Prelude.{codes}
use Rattle.vrepl_main.proofs.AddLaws.{first_stops, then_prints, then_put, then_stops}
use Rattle.vrepl_main.proofs.refusal.print_column.Goals as goal

pub returns-in_err-put_all : goal.returns-in_err-put_all
returns-in_err-put_all g c =
    let table = c.args.table.now in
    let column = c.args.column.now in
    let t2 = (codes " table ") ++ table in
    let t3 = t2 ++ (codes " column ") in
    let p = err_from_is_err_and c.from_residual.result c.from_residual.ensures.1 in
    rw p.1 (first_stops _ _ t3 column (first_stops _ _ t2 (codes " column ") (first_stops _ _ (codes " table ") table c.in_err-put_all.ensures)))

pub returns-in_err-put_str : goal.returns-in_err-put_str
returns-in_err-put_str g c =
    let table = c.args.table.now in
    let column = c.args.column.now in
    let t2 = (codes " table ") ++ table in
    let t3 = t2 ++ (codes " column ") in
    let p = err_from_is_err_and c.from_residual-in_err-put_str.result c.from_residual-in_err-put_str.ensures.1 in
    rw p.1 (first_stops _ _ t3 column (first_stops _ _ t2 (codes " column ") (then_stops _ _ _ (codes " table ") table c.in_ok-put_all.ensures c.in_err-put_str.ensures)))

pub returns-in_err-put_all-2 : goal.returns-in_err-put_all-2
returns-in_err-put_all-2 g c =
    let table = c.args.table.now in
    let column = c.args.column.now in
    let t2 = (codes " table ") ++ table in
    let t3 = t2 ++ (codes " column ") in
    let p = err_from_is_err_and c.from_residual-in_err-put_all-2.result c.from_residual-in_err-put_all-2.ensures.1 in
    rw p.1 (first_stops _ _ t3 column (then_stops _ _ _ t2 (codes " column ") (then_put _ _ _ (codes " table ") table c.in_ok-put_all.ensures c.in_ok-put_str.ensures) c.in_err-put_all-2.ensures))

pub returns : goal.returns
returns g c =
    let table = c.args.table.now in
    let column = c.args.column.now in
    let t2 = (codes " table ") ++ table in
    let t3 = t2 ++ (codes " column ") in
    then_prints c.put_str-2.result _ _ _ t3 column (then_put _ _ _ t2 (codes " column ") (then_put _ _ _ (codes " table ") table c.in_ok-put_all.ensures c.in_ok-put_str.ensures) c.in_ok-put_all-2.ensures) c.put_str-2.ensures
