use Rattle.std.proofs.Common.{◌≡◌, subst}
use Rattle.std.specs.List.{AllByRecursion}
use Rattle.compaction.specs.Private.Written.{IsOfPlan}
use Rattle.compaction.proofs.CutLaws.{none_loses}
use Rattle.compaction.proofs.cut.would_lose.Goals as goal

pub returns-then-are_known-clause-lost : goal.returns-then-are_known-clause-lost
returns-then-are_known-clause-lost g c =
    let seen = c.deref.ensures in
    let value = c.plan-plan.ensures.value in
    let is : c.deref.result.now ≡ c.args.feed.now.plan = cc in
    let known = subst (λ plan. AllByRecursion (IsOfPlan plan) c.args.fields.now) is (c.are_known.ensures.0 c.if-are_known.true) in
    none_loses c.changes_have_columns.ensures c.args.feed.now.plan c.args.bytes.now c.args.number c.args.fields.now c.args.unknown known
