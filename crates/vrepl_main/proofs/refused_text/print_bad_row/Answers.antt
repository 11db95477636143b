use Rattle.std.proofs.Common.{◌++◌}
use Rattle.std.proofs.lemmas.Result.{err_from_is_err_and}
use Rattle.std.specs.Prelude.{codes, decimal, Some}
use Rattle.filter_rule.specs.PlanTable.{name_of_table}
use Rattle.vrepl_main.specs.Refusals.{cause_text}
use Rattle.vrepl_main.proofs.AddLaws.{first_stops, then_prints, then_put, then_stops}
use Rattle.vrepl_main.proofs.refused_text.print_bad_row.Goals as goal

pub returns-in_err-put_between : goal.returns-in_err-put_between
returns-in_err-put_between g c =
    let tables = c.args.tables.now in
    let t2 = (codes " group " ++ decimal c.args.group ++ codes " table ") ++ (name_of_table tables c.args.table) in
    let p = err_from_is_err_and c.from_residual.result c.from_residual.ensures.1 in
    rw p.1 (first_stops _ _ t2 (cause_text (Some c.args.cause)) (first_stops _ _ (codes " group " ++ decimal c.args.group ++ codes " table ") (name_of_table tables c.args.table) (rw c.from.ensures at c.in_err-put_between.ensures)))

pub returns-in_err-put_str : goal.returns-in_err-put_str
returns-in_err-put_str g c =
    let tables = c.args.tables.now in
    let t2 = (codes " group " ++ decimal c.args.group ++ codes " table ") ++ (name_of_table tables c.args.table) in
    let p = err_from_is_err_and c.from_residual-in_err-put_str.result c.from_residual-in_err-put_str.ensures.1 in
    rw p.1 (first_stops _ _ t2 (cause_text (Some c.args.cause)) (then_stops _ _ _ (codes " group " ++ decimal c.args.group ++ codes " table ") (name_of_table tables c.args.table) (rw c.from.ensures at c.in_ok-put_between.ensures) (rw (c.name_of_table.ensures) at c.in_err-put_str.ensures)))

pub returns : goal.returns
returns g c =
    let tables = c.args.tables.now in
    let t2 = (codes " group " ++ decimal c.args.group ++ codes " table ") ++ (name_of_table tables c.args.table) in
    then_prints c.print_cause.result _ _ _ t2 (cause_text (Some c.args.cause)) (then_put _ _ _ (codes " group " ++ decimal c.args.group ++ codes " table ") (name_of_table tables c.args.table) (rw c.from.ensures at c.in_ok-put_between.ensures) (rw (c.name_of_table.ensures) at c.in_ok-put_str.ensures)) c.print_cause.ensures
