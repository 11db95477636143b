use Rattle.std.proofs.Common.{◌++◌}
use Rattle.std.proofs.lemmas.Result.{err_from_is_err_and}
use Rattle.std.specs.Prelude.{codes, decimal}
use Rattle.filter_rule.specs.PlanTable.{name_of_table}
use Rattle.dump.specs.KeyText.{key_text}
use Rattle.vrepl_main.proofs.AddLaws.{first_stops, then_prints, then_put, then_stops}
use Rattle.vrepl_main.proofs.resumed_text.print_differs.Goals as goal

pub returns-in_err-put_between : goal.returns-in_err-put_between
returns-in_err-put_between g c =
    let key = c.args.key.now in
    let tables = c.args.tables.now in
    let t1 = codes " stream " ++ decimal c.args.stream ++ codes " table " in
    let t2 = t1 ++ (name_of_table tables key.table) in
    let t3 = t2 ++ (codes " key ") in
    let p = err_from_is_err_and c.from_residual.result c.from_residual.ensures.1 in
    rw p.1 (first_stops _ _ t3 (key_text key) (first_stops _ _ t2 (codes " key ") (first_stops _ _ t1 (name_of_table tables key.table) (rw c.from.ensures at c.in_err-put_between.ensures))))

pub returns-in_err-put_str : goal.returns-in_err-put_str
returns-in_err-put_str g c =
    let key = c.args.key.now in
    let tables = c.args.tables.now in
    let t1 = codes " stream " ++ decimal c.args.stream ++ codes " table " in
    let t2 = t1 ++ (name_of_table tables key.table) in
    let t3 = t2 ++ (codes " key ") in
    let p = err_from_is_err_and c.from_residual-in_err-put_str.result c.from_residual-in_err-put_str.ensures.1 in
    rw p.1 (first_stops _ _ t3 (key_text key) (first_stops _ _ t2 (codes " key ") (then_stops _ _ _ t1 (name_of_table tables key.table) (rw c.from.ensures at c.in_ok-put_between.ensures) (rw (c.name_of_table.ensures, c.table.ensures) at c.in_err-put_str.ensures))))

pub returns-in_err-put_all : goal.returns-in_err-put_all
returns-in_err-put_all g c =
    let key = c.args.key.now in
    let tables = c.args.tables.now in
    let t1 = codes " stream " ++ decimal c.args.stream ++ codes " table " in
    let t2 = t1 ++ (name_of_table tables key.table) in
    let t3 = t2 ++ (codes " key ") in
    let p = err_from_is_err_and c.from_residual-in_err-put_all.result c.from_residual-in_err-put_all.ensures.1 in
    rw p.1 (first_stops _ _ t3 (key_text key) (then_stops _ _ _ t2 (codes " key ") (then_put _ _ _ t1 (name_of_table tables key.table) (rw c.from.ensures at c.in_ok-put_between.ensures) (rw (c.name_of_table.ensures, c.table.ensures) at c.in_ok-put_str.ensures)) c.in_err-put_all.ensures))

pub returns : goal.returns
returns g c =
    let key = c.args.key.now in
    let tables = c.args.tables.now in
    let t1 = codes " stream " ++ decimal c.args.stream ++ codes " table " in
    let t2 = t1 ++ (name_of_table tables key.table) in
    let t3 = t2 ++ (codes " key ") in
    then_prints c.print_key.result _ _ _ t3 (key_text key) (then_put _ _ _ t2 (codes " key ") (then_put _ _ _ t1 (name_of_table tables key.table) (rw c.from.ensures at c.in_ok-put_between.ensures) (rw (c.name_of_table.ensures, c.table.ensures) at c.in_ok-put_str.ensures)) c.in_ok-put_all.ensures) c.print_key.ensures
