use Rattle.std.proofs.Common.{◌≡◌, ◌<◌, take, false, sym, ap, ◌∙◌, arith}
use Rattle.std.specs.List.{list_any}
use Rattle.compaction.specs.Compacting.{have_unknown, is_unknown}
use Rattle.compaction.proofs.CutLaws.{skip_none}
use Rattle.compaction.proofs.cut.have_unknown.Goals as goal

pub loop-group-preserved : goal.loop-group-preserved
loop-group-preserved g c =
    let plan = c.args.plan.now in
    let left = c.loop-group.left in
    let said = c.has_unknown.ensures in
    let not_said = c.if-has_unknown.false in
    let none : list_any (is_unknown plan) c.in-Some.group.changes ≡ false = cc in
    let some : 0 < left = omega (arith, c.if-left-eq0.false) in
    sym (ap (λ gs. have_unknown plan (take left gs)) c.in-Some.ensures.steps ∙ skip_none plan left c.in-Some.group c.next.new.self some none) ∙ c.loop-group.invariant
