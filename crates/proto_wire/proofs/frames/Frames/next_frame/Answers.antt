use Rattle.std.proofs.Common.{◌≡◌, ◌<◌, ◌-◌, length, Ok, Err, List, ℕ, refl, arith}
use Rattle.proto_wire.specs.declared.fault.WireFault.{WireFault}
use Rattle.proto_wire.specs.Field.{sized_at}
use Rattle.proto_wire.specs.Frame.{frame_at}
use Rattle.proto_wire.proofs.ReadingLaws.{empty_list, not_empty, next_none, next_err, next_some}
use Rattle.proto_wire.proofs.FieldLaws.{frame_reader, sized_found}
use Rattle.proto_wire.proofs.frames.Frames.next_frame.Goals as goal

frame_ok : (total : ℕ) (bytes : List ℕ) (x : List ℕ × List ℕ) → sized_at bytes ≡ Ok x → frame_at total bytes ≡ Ok x
unfolding frame_at
frame_ok total bytes x e = rw e refl

frame_err : (total : ℕ) (bytes : List ℕ) (cause : WireFault) → sized_at bytes ≡ Err cause → frame_at total bytes ≡ Err (record { place = total - length bytes; cause = cause })
unfolding frame_at
frame_err total bytes cause e = rw e refl

pub returns-then-is_empty : goal.returns-then-is_empty
returns-then-is_empty c = next_none (frame_at c.self.inside.total) c.self.inside.rest.now c.args.self.now (empty_list c.self.inside.rest.now c.if-is_empty.ensures) c.self.view_is

pub invariant_of-self : goal.invariant_of-self
invariant_of-self c =
    let less : length c.in-Ok.rest.now < length c.self.inside.rest.now = (sized_found c.self.inside.rest.now (c.in-Ok.message.now, c.in-Ok.rest.now) c.in-Ok.ensures).3 in
    omega (arith, c.self.invariant)

pub returns-in-Ok : goal.returns-in-Ok
returns-in-Ok c =
    let total = c.self.inside.total in
    next_some (frame_at total) (frame_reader total).takes c.self.inside.rest.now c.args.self.now (c.in-Ok.message.now, c.in-Ok.rest.now) (frame_ok total c.self.inside.rest.now (c.in-Ok.message.now, c.in-Ok.rest.now) c.in-Ok.ensures) c.self.view_is

pub returns-in-Err : goal.returns-in-Err
returns-in-Err c =
    let total = c.self.inside.total in
    let bytes = c.self.inside.rest.now in
    next_err (frame_at total) bytes c.args.self.now (record { place = total - length bytes; cause = c.in-Err.cause }) (not_empty bytes c.if-is_empty.ensures) (frame_err total bytes c.in-Err.cause c.in-Err.ensures) c.self.view_is
