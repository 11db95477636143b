use Rattle.std.proofs.Common.{◌≡◌, slice_get, get_or, Some}
use Rattle.board_laws.proofs.JoinedPairs.{same_plan}
use Rattle.apply_core.proofs.JoinLaws.{was_here, was_there, here_at, there_at, one_further, all_further}
use Rattle.apply_core.proofs.joining.keep_all_further.Goals as goal

pub keep_further-requires : goal.keep_further-requires
keep_further-requires c =
    let here : slice_get c.loop-s.a c.loop-s.s ≡ Some (get_or c.loop-s.a c.loop-s.s c.index-a-s.result) = here_at c.args.a.now c.args.b.now c.loop-s.s c.loop-s.a c.loop-s.b c.requires c.loop-s.invariant c.loop-s-test.true c.index-a-s.result in
    let there : slice_get c.loop-s.b c.loop-s.s ≡ Some (get_or c.loop-s.b c.loop-s.s c.index-b-s.result) = there_at c.args.a.now c.args.b.now c.loop-s.s c.loop-s.a c.loop-s.b c.requires c.loop-s.invariant c.loop-s-test.true c.index-b-s.result in
    same_plan c.args.a.now c.args.b.now c.requires c.loop-s.s _ _ (was_here c.args.a.now c.args.b.now c.loop-s.s c.loop-s.a c.loop-s.b c.loop-s.invariant _ _ here there) (was_there c.args.a.now c.args.b.now c.loop-s.s c.loop-s.a c.loop-s.b c.loop-s.invariant _ _ here there)

pub loop-s-preserved : goal.loop-s-preserved
loop-s-preserved c =
    one_further c.args.a.now c.args.b.now c.loop-s.s c.loop-s.a c.loop-s.b c.loop-s.invariant _ _
    (here_at c.args.a.now c.args.b.now c.loop-s.s c.loop-s.a c.loop-s.b c.requires c.loop-s.invariant c.loop-s-test.true c.index-a-s.result)
    (there_at c.args.a.now c.args.b.now c.loop-s.s c.loop-s.a c.loop-s.b c.requires c.loop-s.invariant c.loop-s-test.true c.index-b-s.result)
    c.keep_further.new.x c.keep_further.new.y c.keep_further.ensures

pub returns : goal.returns
returns c = all_further c.args.a.now c.args.b.now c.loop-s.s c.loop-s.a c.loop-s.b c.requires c.loop-s.invariant c.loop-s-test.false
