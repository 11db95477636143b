use Rattle.std.proofs.Common.{length, ap, subst}
use Rattle.filter_rule.specs.PlanValue.{PlanValue}
use Rattle.filter_rule.specs.WellFormed.{IsPlan}
use Rattle.filter_rule.proofs.PlanShapeLaws.{row_within}
use Rattle.filter_rule.proofs.SplitLaws.{split_row}
use Rattle.filter_rule.proofs.plan.Plan.passes.Goals as goal

pub keeps-requires : goal.keeps-requires
keeps-requires c =
    row_within c.args.self.now c.self.inside.decisions.items c.args.t c.from.result (length c.args.row.now) c.index.result.now (subst IsPlan c.self.view_is c.self.invariant) (ap (λ (p : PlanValue). p.decisions) c.self.view_is)
    c.from.ensures c.requires.table c.requires.columns c.index.ensures

pub returns-clause-split : goal.returns-clause-split
returns-clause-split c = split_row c.args.t c.args.row.now
