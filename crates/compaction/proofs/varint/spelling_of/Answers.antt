use Rattle.std.proofs.Common.{◌<◌, ℕ, List, ◌+◌, ◌-◌, ◌%◌, ◌/◌, take, length, refl, sym, subst, ◌∙◌, arith}
use Rattle.std.proofs.Math.ListN.{length-set}
use Rattle.std.proofs.lemmas.List.{take_more_set}
use Rattle.proto_wire.proofs.SpellingLoop.{IsSpelled, starts, step, ends}
use Rattle.compaction.proofs.varint.spelling_of.Goals as goal

pub loop-rest-init : goal.loop-rest-init
loop-rest-init c = (refl, omega arith, starts c.args.value (omega arith))

pub loop-rest-preserved : goal.loop-rest-preserved
loop-rest-preserved c =
    let size = c.loop-rest.size in
    let rest = c.loop-rest.rest in
    let bytes = c.loop-rest.bytes in
    let next = step c.args.value (take size bytes) 9 size rest c.loop-rest.invariant.2 c.loop-rest-test.true in
    let within : size < length bytes = omega (arith, next.0, c.loop-rest.invariant.0) in
    let front = take_more_set bytes size (rest % 128 + 128) within in (
      length-set bytes size (rest % 128 + 128) ∙ c.loop-rest.invariant.0,
      omega (arith, next.0),
      subst (λ (w : List ℕ). IsSpelled c.args.value w (9 - (size + 1)) (rest / 128)) (sym front) next.1,
    )

pub returns-clause-spelled : goal.returns-clause-spelled
returns-clause-spelled c =
    let size = c.loop-rest.size in
    let rest = c.loop-rest.rest in
    let bytes = c.loop-rest.bytes in
    let within : size < length bytes = omega (arith, c.loop-rest.invariant.0, c.loop-rest.invariant.1) in
    take_more_set bytes size rest within ∙ ends c.args.value (take size bytes) (9 - size) rest c.loop-rest.invariant.2 c.loop-rest-test.false
