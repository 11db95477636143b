use Rattle.std.proofs.Common.{◌∙◌, arith}
use Rattle.des.proofs.Moved.{front_room, front_more, front_all}
use Rattle.des.proofs.selection.selected.Goals as goal

pub overflow_mul-bits : goal.overflow_mul-bits
overflow_mul-bits c =
    let room = front_room c.args.table.now c.args.width c.args.block c.loop-place.place-index c.loop-place.bits c.loop-place.invariant (omega arith) (omega arith) in
    omega (arith, room)

pub overflow_add-bits : goal.overflow_add-bits
overflow_add-bits c =
    let room = front_room c.args.table.now c.args.width c.args.block c.loop-place.place-index c.loop-place.bits c.loop-place.invariant (omega arith) (omega arith) in
    omega (arith, room)

pub loop-place-preserved : goal.loop-place-preserved
loop-place-preserved c =
    front_more c.args.table.now c.args.width c.args.block c.loop-place.place-index c.loop-place.bits c.from.result c.loop-place.invariant
    (omega arith) c.from.ensures

pub returns : goal.returns
returns c =
    c.loop-place.invariant ∙ front_all c.args.table.now c.args.width c.args.block c.loop-place.place-index (omega arith)
