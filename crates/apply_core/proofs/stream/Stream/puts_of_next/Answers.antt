use Rattle.std.proofs.Common.{◌≡◌, Option, Some, map, slice_get, sym, ap, subst, ◌∙◌, rules, arith}
use Rattle.std.proofs.lemmas.List.{length-map}
use Rattle.std.specs.Option.{option_map, option_and_then}
use Rattle.std.specs.Arc.{arc_value}
use Rattle.filter_rule.specs.PlanValue.{PlanValue}
use Rattle.pk_copy.specs.KeyOrder.{key_cmp}
use Rattle.target_tables.specs.Touches.{last_at}
use Rattle.source_feed.specs.History.{kept_of}
use Rattle.source_feed.specs.Touches.{PreparedValue}
use Rattle.board_laws.specs.Meaning.{State}
use Rattle.board_laws.specs.Event.{advance}
use Rattle.board_laws.specs.Touching.{passed_by, touch_of}
use Rattle.apply_core.proofs.StreamLaws.{item_at, next-within}
use Rattle.apply_core.proofs.stream.Stream.puts_of_next.Goals as goal

pub returns : goal.returns
returns c key =
    let within = next-within c.steps_keep_boards_lawful.ensures.sound _ _ c.self.view_is _ _ c.self.invariant.stream c.requires in
    let there : slice_get (map arc_value c.self.inside.list.items) c.self.inside.cursor.applied ≡ Some c.deref.result.now
    = ap (slice_get (map arc_value c.self.inside.list.items)) (sym c.applied.ensures)
    ∙ item_at arc_value c.self.inside.list.items c.applied.result c.index-group.result.now c.deref.result.now (omega (arith, within, c.applied.ensures, length-map c.self.inside.list.items arc_value)) (search rules) (search rules) in
    let planned : c.deref.result.now.plan ≡ arc_value c.self.inside.plan = c.self.invariant.stream.sound.list.planned c.self.inside.cursor.applied c.deref.result.now there in
    subst (λ (state : State). last_at key_cmp c.in_ok-puts.puts.changes.items key ≡ touch_of state advance key) c.self.view_is
    (c.in_ok-puts.ensures key
    ∙ ap (λ (plan : PlanValue). option_map (option_map (kept_of plan key)) (passed_by c.self.inside.marks c.deref.result.now key)) planned
    ∙ sym (ap (λ (o : Option PreparedValue). option_map (option_map (kept_of (arc_value c.self.inside.plan) key)) (option_and_then (λ group. passed_by c.self.inside.marks group key) o)) there))
