use Rattle.std.proofs.Common.{ℕ, List, Option, None, Ok, subst, ap, ◌∙◌, ◌≡◌, sym}
use Rattle.std.specs.Prelude.{option_and_then}
use Rattle.proto_wire.specs.declared.fault.WireFault.{WireFault}
use Rattle.proto_wire.specs.Field.{WireField, wire_field}
use Rattle.proto_wire.specs.Parts.{bytes_in}
use Rattle.vevent.proofs.Walks.{next_item, first_in_rest}
use Rattle.vevent.proofs.walk.walk.Goals as goal

pub loop-field-preserved : goal.loop-field-preserved
loop-field-preserved g c =
    let inside = g.P.MessageParts.inside in
    let given = c.in_ok-field.was ∙ ap (λ field. Ok field) c.in-Some.is in
    let next = next_item wire_field c.loop-field.fields c.next_field.new.self c.next_field.result c.in-Some.field c.next_field.ensures given in
    let met = subst (λ (more : List WireField). g.P.MessageParts.make_up c.args.message.now c.loop-field.parts more) next.0 c.loop-field.invariant.0 in
    let field = wire_field c.in-Some.field in
    let sound = subst (λ (by : ℕ → List ℕ → Option WireFault). None ≡ option_and_then (by field.number) (bytes_in field.value)) c.loop-field.invariant.1 c.in_ok-put.ensures.wire in (
      c.in_ok-put.ensures.put c.args.message.now c.next_field.new.self.items met,
      c.put.ensures.stays ∙ c.loop-field.invariant.1,
      λ end. first_in_rest (inside c.args.parts.now) field c.loop-field.fields.items c.next_field.new.self.items end next.0 sound ∙ c.loop-field.invariant.2 end,
      sym next.1 ∙ c.loop-field.invariant.3,
    )
