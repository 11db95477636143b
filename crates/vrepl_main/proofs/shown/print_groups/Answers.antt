use Rattle.std.proofs.Common.{ap, ◌∙◌}
use Rattle.std.proofs.lemmas.List.Concat.{flat_map-cons}
use Rattle.std.proofs.lemmas.Result.{err_from_is_err_and}
use Rattle.feed_text.specs.Shown.{group_text, shown}
use Rattle.vrepl_main.proofs.AddLaws.{moves, stops, ends}
use Rattle.vrepl_main.proofs.shown.print_groups.Goals as goal

pub loop-group-preserved : goal.loop-group-preserved
loop-group-preserved g c =
    let parts = ap shown c.in-Some.ensures.steps ∙ flat_map-cons group_text c.in-Some.group c.next.new.self in
    moves _ _ _ _ _ _ _ parts c.loop-group.invariant c.in_ok-print_group.ensures

pub returns-in_err-print_group : goal.returns-in_err-print_group
returns-in_err-print_group g c =
    let parts = ap shown c.in-Some.ensures.steps ∙ flat_map-cons group_text c.in-Some.group c.next.new.self in
    let p = err_from_is_err_and c.from_residual.result c.from_residual.ensures.1 in
    rw p.1 (stops _ _ _ _ _ _ _ parts c.loop-group.invariant c.in_err-print_group.ensures)

pub returns : goal.returns
returns g c = ends _ _ _ _ (ap shown c.in-None.ensures.steps.0) c.loop-group.invariant
