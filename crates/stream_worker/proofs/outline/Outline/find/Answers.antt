use Rattle.std.proofs.Common.{◌≡◌, ◌∙◌, ◌-◌, ap, sym, refl, Some, length, slice_get}
use Rattle.std.proofs.lemmas.Bool.{ltb-true}
use Rattle.std.proofs.lemmas.Option.{slice_get-map, slice_get_read}
use Rattle.std.specs.Arc.{arc_value}
use Rattle.std.specs.Option.{option_map}
use Rattle.stream_worker.proofs.ReadGroupsAreAnswered.{found_in}
use Rattle.stream_worker.proofs.outline.Outline.find.Goals as goal

pub returns-in-Some : goal.returns-in-Some
returns-in-Some c =
    let xs = c.deref.result.now in
    let found : slice_get xs (c.number.result - 1) ≡ Some c.in-Some.read.now =
    slice_get_read xs (length xs) (c.number.result - 1) c.in-Some.read.now refl (ltb-true (c.number.result - 1) (length xs) (sym c.in-Some.ensures.lookup.0)) c.in-Some.ensures.lookup.1 in
    found_in _ c.args.self.now c.number.result c.args.group.now (arc_value c.in-Some.read.now) c.deref-in-Some.result.now c.beside.result c.self.view_is c.number.ensures
    (slice_get-map arc_value c.self.inside.list.items (c.number.result - 1) ∙ ap (λ items. option_map arc_value (slice_get items (c.number.result - 1))) (sym c.deref.ensures.value) ∙ ap (option_map arc_value) found)
    c.deref-in-Some.ensures c.beside.ensures
