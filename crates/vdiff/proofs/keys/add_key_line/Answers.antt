use Rattle.std.proofs.Common.{◌++◌, [], ◌∷◌}
use Rattle.std.proofs.lemmas.Result.{err_from_is_err_and}
use Rattle.std.specs.Prelude.{codes}
use Rattle.filter_rule.specs.PlanTable.{name_of_table}
use Rattle.printing.proofs.PrintLaws.{adding_breaks, added_breaks, added_more, then_adds}
use Rattle.dump.specs.KeyText.{key_text}
use Rattle.vdiff.proofs.keys.add_key_line.Goals as goal

pub returns-in_err-put_str : goal.returns-in_err-put_str
returns-in_err-put_str g c =
    let t2 = c.args.word.now ++ (name_of_table c.args.tables.now c.args.key.now.table) in
    let t3 = t2 ++ (codes " key ") in
    let t4 = t3 ++ (key_text c.args.key.now) in
    let p = err_from_is_err_and c.from_residual.result c.from_residual.ensures.1 in
    rw p.1 (adding_breaks _ _ c.args.text.now t4 (10 ∷ []) (adding_breaks _ _ c.args.text.now t3 (key_text c.args.key.now) (adding_breaks _ _ c.args.text.now t2 (codes " key ") (adding_breaks _ _ c.args.text.now c.args.word.now (name_of_table c.args.tables.now c.args.key.now.table) c.in_err-put_str.ensures))))

pub returns-in_err-put_str-2 : goal.returns-in_err-put_str-2
returns-in_err-put_str-2 g c =
    let t2 = c.args.word.now ++ (name_of_table c.args.tables.now c.args.key.now.table) in
    let t3 = t2 ++ (codes " key ") in
    let t4 = t3 ++ (key_text c.args.key.now) in
    let p = err_from_is_err_and c.from_residual-in_err-put_str-2.result c.from_residual-in_err-put_str-2.ensures.1 in
    rw p.1 (adding_breaks _ _ c.args.text.now t4 (10 ∷ []) (adding_breaks _ _ c.args.text.now t3 (key_text c.args.key.now) (adding_breaks _ _ c.args.text.now t2 (codes " key ") (added_breaks _ _ _ _ _ c.args.word.now (name_of_table c.args.tables.now c.args.key.now.table) c.in_ok-put_str.ensures (rw (c.name_of_table.ensures, c.table.ensures) at c.in_err-put_str-2.ensures)))))

pub returns-in_err-put_str-3 : goal.returns-in_err-put_str-3
returns-in_err-put_str-3 g c =
    let t2 = c.args.word.now ++ (name_of_table c.args.tables.now c.args.key.now.table) in
    let t3 = t2 ++ (codes " key ") in
    let t4 = t3 ++ (key_text c.args.key.now) in
    let p = err_from_is_err_and c.from_residual-in_err-put_str-3.result c.from_residual-in_err-put_str-3.ensures.1 in
    rw p.1 (adding_breaks _ _ c.args.text.now t4 (10 ∷ []) (adding_breaks _ _ c.args.text.now t3 (key_text c.args.key.now) (added_breaks _ _ _ _ _ t2 (codes " key ") (added_more _ _ _ _ _ _ c.args.word.now (name_of_table c.args.tables.now c.args.key.now.table) c.in_ok-put_str.ensures (rw (c.name_of_table.ensures, c.table.ensures) at c.in_ok-put_str-2.ensures)) c.in_err-put_str-3.ensures)))

pub returns-in_err-add_key : goal.returns-in_err-add_key
returns-in_err-add_key g c =
    let t2 = c.args.word.now ++ (name_of_table c.args.tables.now c.args.key.now.table) in
    let t3 = t2 ++ (codes " key ") in
    let t4 = t3 ++ (key_text c.args.key.now) in
    let p = err_from_is_err_and c.from_residual-in_err-add_key.result c.from_residual-in_err-add_key.ensures.1 in
    rw p.1 (adding_breaks _ _ c.args.text.now t4 (10 ∷ []) (added_breaks _ _ _ _ _ t3 (key_text c.args.key.now) (added_more _ _ _ _ _ _ t2 (codes " key ") (added_more _ _ _ _ _ _ c.args.word.now (name_of_table c.args.tables.now c.args.key.now.table) c.in_ok-put_str.ensures (rw (c.name_of_table.ensures, c.table.ensures) at c.in_ok-put_str-2.ensures)) c.in_ok-put_str-3.ensures) c.in_err-add_key.ensures))

pub returns : goal.returns
returns g c =
    let t2 = c.args.word.now ++ (name_of_table c.args.tables.now c.args.key.now.table) in
    let t3 = t2 ++ (codes " key ") in
    let t4 = t3 ++ (key_text c.args.key.now) in
    then_adds c.put_str-4.result _ _ _ _ _ _ t4 (10 ∷ []) (added_more _ _ _ _ _ _ t3 (key_text c.args.key.now) (added_more _ _ _ _ _ _ t2 (codes " key ") (added_more _ _ _ _ _ _ c.args.word.now (name_of_table c.args.tables.now c.args.key.now.table) c.in_ok-put_str.ensures (rw (c.name_of_table.ensures, c.table.ensures) at c.in_ok-put_str-2.ensures)) c.in_ok-put_str-3.ensures) c.in_ok-add_key.ensures) c.put_str-4.ensures
