use Rattle.std.proofs.Common.{◌≡◌, arith}
use Rattle.std.proofs.lemmas.Bool.Decides.{nat_tests}
use Rattle.row_view.proofs.PickLaws.{all_picked}
use Rattle.row_view.proofs.written_picked.are_all.Goals as goal

pub returns : goal.returns
returns c same row count =
    let whole : c.loop-place.next ≡ c.args.count = grind (arith, nat_tests, same) in
    let read = c.loop-place.invariant in
    all_picked c.args.places.now row (omega (arith, whole, count, read.next, read.within, c.loop-place-test.false)) (λ j h. read.each j (omega (arith, h, read.next, read.within, c.loop-place-test.false)))
