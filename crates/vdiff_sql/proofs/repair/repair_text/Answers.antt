use Rattle.std.proofs.Common.{◌∙◌, ◌++◌, ap, List}
use Rattle.filter_rule.specs.PlanTable.{TableValue}
use Rattle.vdiff_patch.specs.Patch.{change_at}
use Rattle.vdiff.specs.Found.{difference_of}
use Rattle.vdiff_sql.specs.Statements.{statement_at}
use Rattle.vdiff_sql.proofs.StatementLaws.{pushed_more}
use Rattle.vdiff_sql.proofs.repair.repair_text.Goals as goal

pub loop-found-preserved : goal.loop-found-preserved
loop-found-preserved c =
    let change = change_at (difference_of c.in-Some.found) in
    pushed_more (statement_at c.args.schema.now c.args.plan.now.tables) change_at _ _ _ _ _ _ c.in-Some.ensures.steps
    (c.in_ok-push_statement_at.ensures ∙ ap (λ (ts : List TableValue). c.loop-found.text.items ++ statement_at c.args.schema.now ts change) c.tables.ensures.tables)
    c.loop-found.invariant
