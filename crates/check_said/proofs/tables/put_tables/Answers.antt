use Rattle.std.proofs.Common.{◌≡◌, ◌∙◌, [], ◌∷◌, List, ap, refl}
use Rattle.std.proofs.lemmas.List.{drop_all}
use Rattle.filter_rule.specs.PlanTable.{TableValue}
use Rattle.serde_json.specs.View.{items_of}
use Rattle.serde_json.specs.Written.{items_text}
use Rattle.feed_check.specs.Checked.{CheckedValue}
use Rattle.json_pieces.proofs.TellLaws.{moves, ends_by}
use Rattle.check_said.specs.Json.{tables_from}
use Rattle.check_said.proofs.JsonLaws.{table-at}
use Rattle.check_said.proofs.tables.put_tables.Goals as goal

pub loop-t-preserved : goal.loop-t-preserved
loop-t-preserved g c =
    let check : CheckedValue = c.args.rows.now in
    let same : c.tables-tables.result.now ≡ check.plan.tables = c.tables-tables.ensures ∙ ap (λ (one : CheckedValue). one.plan.tables) c.check-check.ensures in
    moves _ _ _ _ _ _ _ refl
    (moves _ _ _ _ _ _ _ (table-at check check.rows c.loop-t.later check.plan.tables c.loop-t.t c.index-tables-t.result (rw same at c.loop-t-test.true) (rw same at c.index-tables-t.is)) c.loop-t.invariant c.put_comma_if.ensures)
    (rw (c.name.ensures, c.touching.ensures, c.passing.ensures, c.rows_of.ensures, c.check-check.ensures) at c.put_table.ensures)

pub returns : goal.returns
returns g c =
    let check : CheckedValue = c.args.rows.now in
    let same : c.tables-tables.result.now ≡ check.plan.tables = c.tables-tables.ensures ∙ ap (λ (one : CheckedValue). one.plan.tables) c.check-check.ensures in
    ends_by _ _ _ _ _ (93 ∷ []) (ap (λ (l : List TableValue). items_text c.loop-t.later (items_of (tables_from check check.rows c.loop-t.t l))) (drop_all c.loop-t.t check.plan.tables (rw same at c.loop-t-test.false))) c.loop-t.invariant c.put-2.ensures
