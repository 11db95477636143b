use Rattle.std.proofs.Common.{◌≡◌, sym, arith, take, Some}
use Rattle.std.proofs.lemmas.Bool.{eqb-true, eqb-false}
use Rattle.std.proofs.lemmas.List.{take_rest}
use Rattle.gtid_set.specs.Digits.{uuid_of}
use Rattle.gtid_set.proofs.PartLaws.{part-nothing, part-short, part-no_uuid, part-ends, part-no_colon, reads-part}
use Rattle.gtid_set.proofs.read.push_part.Goals as goal
use Rattle.gtid_set.proofs.read.push_part.Goals.{then-part-eq36-via-then-part-eq36, then-part-eq36-via-else-part-eq36+then-part-ne58}

pub returns-then-is_empty : goal.returns-then-is_empty
returns-then-is_empty c = λ front kept. (front, part-nothing front c.args.part.now (eqb-true _ _ (sym c.if-is_empty.ensures)), kept)

pub returns-then-part-lt36 : goal.returns-then-part-lt36
returns-then-part-lt36 c =
    let some = eqb-false _ _ (sym c.if-is_empty.ensures) in
    λ front kept. part-short front c.args.part.now (omega (arith, some)) c.if-part-lt36.true

pub returns-in_default : goal.returns-in_default
returns-in_default c = λ front kept. part-no_uuid front c.args.part.now (omega arith) (sym c.in_default.ensures)

pub returns-then-part-eq36 : goal.returns-then-part-eq36
returns-then-part-eq36 c =
    let uuid-is : uuid_of (take 36 c.args.part.now) ≡ Some c.in-Some.uuid = sym c.in-Some.ensures in
    λ front kept. elim c.then-part-eq36.branch [
      | then-part-eq36-via-then-part-eq36 w ↦ part-ends front c.args.part.now c.in-Some.uuid w.if-part-eq36.true uuid-is
      | then-part-eq36-via-else-part-eq36+then-part-ne58 w ↦ part-no_colon front c.args.part.now c.in-Some.uuid (omega (arith, w.if-part-eq36.false, c.if-part-lt36.false)) uuid-is w.if-part-ne58.true
    ]

pub returns : goal.returns
returns c =
    let uuid-is : uuid_of (take 36 c.args.part.now) ≡ Some c.in-Some.uuid = sym c.in-Some.ensures in
    λ front kept. reads-part c.push_pieces.result c.push_pieces.new.named front c.args.part.now c.in-Some.uuid (omega (arith, c.if-part-eq36.false, c.if-part-lt36.false)) uuid-is c.if-part-ne58.false (rw take_rest at (c.push_pieces.ensures front kept))
