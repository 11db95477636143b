use Rattle.std.proofs.Common.{◌≡◌, ◌∙◌, ap, sym, refl, Some, length, slice_get}
use Rattle.std.proofs.lemmas.Bool.{ltb-true}
use Rattle.std.proofs.lemmas.Option.{slice_get-map, slice_get_read}
use Rattle.std.specs.Arc.{arc_value}
use Rattle.std.specs.Option.{option_map}
use Rattle.source_feed.specs.Touches.{PreparedValue}
use Rattle.board_laws.specs.Touching.{left_by}
use Rattle.stream_worker.proofs.OutlinesStayTrue.{next_in}
use Rattle.stream_worker.proofs.outline.Outline.next.Goals as goal

pub returns-in_ok-group-in-Some : goal.returns-in_ok-group-in-Some
returns-in_ok-group-in-Some c =
    let xs = c.deref.result.now in
    let found : slice_get xs c.args.applied ≡ Some c.in-Some.group.now =
    slice_get_read xs (length xs) c.args.applied c.in-Some.group.now refl (ltb-true c.args.applied (length xs) (sym c.in-Some.ensures.lookup.0)) c.in-Some.ensures.lookup.1 in
    next_in c.args.self.now _ c.args.applied (arc_value c.in-Some.group.now) _ c.self.view_is
    (slice_get-map arc_value c.self.inside.list.items c.args.applied ∙ ap (λ items. option_map arc_value (slice_get items c.args.applied)) (sym c.deref.ensures.value) ∙ ap (option_map arc_value) found)
    (ap Some c.in_ok-group-in-Some.ensures.cases)
    (λ key. c.in_ok-puts-in-Some.ensures key ∙ ap (λ (group : PreparedValue). left_by c.self.inside.marks group key) c.deref-in-Some.ensures)
