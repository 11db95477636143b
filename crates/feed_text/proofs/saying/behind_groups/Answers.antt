use Rattle.std.proofs.Common.{ap, ◌∙◌}
use Rattle.std.proofs.lemmas.List.Concat.{flat_map-cons}
use Rattle.feed_text.specs.Shown.{group_text, shown}
use Rattle.feed_text.proofs.SaidLaws.{goes, ends}
use Rattle.feed_text.proofs.saying.behind_groups.Goals as goal

pub loop-group-preserved : goal.loop-group-preserved
loop-group-preserved c =
    let parts = ap shown c.in-Some.ensures.steps ∙ flat_map-cons group_text c.in-Some.group c.next.new.self in
    goes _ _ _ _ _ (group_text c.in-Some.group) _ parts c.in_ok-rest.ensures c.loop-group.invariant

pub returns : goal.returns
returns c = ends _ _ _ _ (ap shown c.in-None.ensures.steps.0) c.loop-group.invariant
