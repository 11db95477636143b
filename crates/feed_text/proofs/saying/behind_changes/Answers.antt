use Rattle.std.proofs.Common.{ap, ◌∙◌}
use Rattle.std.proofs.lemmas.List.Concat.{flat_map-cons}
use Rattle.feed_text.specs.Shown.{change_text, changes_text}
use Rattle.feed_text.proofs.SaidLaws.{begins, goes, ends}
use Rattle.feed_text.proofs.saying.behind_changes.Goals as goal

pub loop-change-init : goal.loop-change-init
loop-change-init c = rw c.into_iter-change-iterator.ensures.into_iter_gives (begins _ _)

pub loop-change-preserved : goal.loop-change-preserved
loop-change-preserved c =
    let parts = ap changes_text c.in-Some.ensures.steps ∙ flat_map-cons change_text c.in-Some.change c.next.new.self in
    goes _ _ _ _ _ (change_text c.in-Some.change) _ parts c.in_ok-rest.ensures c.loop-change.invariant

pub returns : goal.returns
returns c = ends _ _ _ _ (ap changes_text c.in-None.ensures.steps.0) c.loop-change.invariant
