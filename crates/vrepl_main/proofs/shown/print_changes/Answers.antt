use Rattle.std.proofs.Common.{ap, ◌∙◌}
use Rattle.std.proofs.lemmas.List.Concat.{flat_map-cons}
use Rattle.std.proofs.lemmas.Result.{err_from_is_err_and}
use Rattle.feed_text.specs.Shown.{change_text, changes_text}
use Rattle.vrepl_main.proofs.AddLaws.{moves, stops, ends}
use Rattle.vrepl_main.proofs.shown.print_changes.Goals as goal

pub loop-change-preserved : goal.loop-change-preserved
loop-change-preserved g c =
    let parts = ap changes_text c.in-Some.ensures.steps ∙ flat_map-cons change_text c.in-Some.change c.next.new.self in
    moves _ _ _ _ _ _ _ parts c.loop-change.invariant c.in_ok-print_change.ensures

pub returns-in_err-print_change : goal.returns-in_err-print_change
returns-in_err-print_change g c =
    let parts = ap changes_text c.in-Some.ensures.steps ∙ flat_map-cons change_text c.in-Some.change c.next.new.self in
    let p = err_from_is_err_and c.from_residual.result c.from_residual.ensures.1 in
    rw p.1 (stops _ _ _ _ _ _ _ parts c.loop-change.invariant c.in_err-print_change.ensures)

pub returns : goal.returns
returns g c = ends _ _ _ _ (ap changes_text c.in-None.ensures.steps.0) c.loop-change.invariant
