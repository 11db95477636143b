use Rattle.std.proofs.Common.{[], ◌∷◌, ◌++◌}
use Rattle.std.proofs.lemmas.Result.{err_from_is_err_and}
use Rattle.std.specs.Prelude.{codes}
use Rattle.filter_rule.specs.PlanTable.{name_of_table}
use Rattle.dump.specs.KeyText.{key_text}
use Rattle.vrepl_main.proofs.AddLaws.{first_stops, then_prints, then_put, then_stops}
use Rattle.vrepl_main.proofs.comparing.print_first_line.Goals as goal

pub returns-in_err-put_all : goal.returns-in_err-put_all
returns-in_err-put_all g c =
    let key = c.args.key.now in
    let tables = c.args.tables.now in
    let t2 = (codes "first table ") ++ (name_of_table tables key.table) in
    let t3 = t2 ++ (codes " key ") in
    let t4 = t3 ++ (key_text key) in
    let p = err_from_is_err_and c.from_residual.result c.from_residual.ensures.1 in
    rw p.1 (first_stops _ _ t4 (10 ∷ []) (first_stops _ _ t3 (key_text key) (first_stops _ _ t2 (codes " key ") (first_stops _ _ (codes "first table ") (name_of_table tables key.table) c.in_err-put_all.ensures))))

pub returns-in_err-put_str : goal.returns-in_err-put_str
returns-in_err-put_str g c =
    let key = c.args.key.now in
    let tables = c.args.tables.now in
    let t2 = (codes "first table ") ++ (name_of_table tables key.table) in
    let t3 = t2 ++ (codes " key ") in
    let t4 = t3 ++ (key_text key) in
    let p = err_from_is_err_and c.from_residual-in_err-put_str.result c.from_residual-in_err-put_str.ensures.1 in
    rw p.1 (first_stops _ _ t4 (10 ∷ []) (first_stops _ _ t3 (key_text key) (first_stops _ _ t2 (codes " key ") (then_stops _ _ _ (codes "first table ") (name_of_table tables key.table) c.in_ok-put_all.ensures (rw (c.name_of_table.ensures, c.table.ensures) at c.in_err-put_str.ensures)))))

pub returns-in_err-put_all-2 : goal.returns-in_err-put_all-2
returns-in_err-put_all-2 g c =
    let key = c.args.key.now in
    let tables = c.args.tables.now in
    let t2 = (codes "first table ") ++ (name_of_table tables key.table) in
    let t3 = t2 ++ (codes " key ") in
    let t4 = t3 ++ (key_text key) in
    let p = err_from_is_err_and c.from_residual-in_err-put_all-2.result c.from_residual-in_err-put_all-2.ensures.1 in
    rw p.1 (first_stops _ _ t4 (10 ∷ []) (first_stops _ _ t3 (key_text key) (then_stops _ _ _ t2 (codes " key ") (then_put _ _ _ (codes "first table ") (name_of_table tables key.table) c.in_ok-put_all.ensures (rw (c.name_of_table.ensures, c.table.ensures) at c.in_ok-put_str.ensures)) c.in_err-put_all-2.ensures)))

pub returns-in_err-print_key : goal.returns-in_err-print_key
returns-in_err-print_key g c =
    let key = c.args.key.now in
    let tables = c.args.tables.now in
    let t2 = (codes "first table ") ++ (name_of_table tables key.table) in
    let t3 = t2 ++ (codes " key ") in
    let t4 = t3 ++ (key_text key) in
    let p = err_from_is_err_and c.from_residual-in_err-print_key.result c.from_residual-in_err-print_key.ensures.1 in
    rw p.1 (first_stops _ _ t4 (10 ∷ []) (then_stops _ _ _ t3 (key_text key) (then_put _ _ _ t2 (codes " key ") (then_put _ _ _ (codes "first table ") (name_of_table tables key.table) c.in_ok-put_all.ensures (rw (c.name_of_table.ensures, c.table.ensures) at c.in_ok-put_str.ensures)) c.in_ok-put_all-2.ensures) c.in_err-print_key.ensures))

pub returns : goal.returns
returns g c =
    let key = c.args.key.now in
    let tables = c.args.tables.now in
    let t2 = (codes "first table ") ++ (name_of_table tables key.table) in
    let t3 = t2 ++ (codes " key ") in
    let t4 = t3 ++ (key_text key) in
    then_prints c.put_all-3.result _ _ _ t4 (10 ∷ []) (then_put _ _ _ t3 (key_text key) (then_put _ _ _ t2 (codes " key ") (then_put _ _ _ (codes "first table ") (name_of_table tables key.table) c.in_ok-put_all.ensures (rw (c.name_of_table.ensures, c.table.ensures) at c.in_ok-put_str.ensures)) c.in_ok-put_all-2.ensures) c.in_ok-print_key.ensures) c.put_all-3.ensures
