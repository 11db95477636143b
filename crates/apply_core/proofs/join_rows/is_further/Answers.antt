use Rattle.std.proofs.Common.{◌≡◌, ◌<◌, length, slice_get, Some, subst}
use Rattle.board_laws.proofs.JoinedPairs.{same_plan}
use Rattle.apply_core.proofs.JoinLaws.{as_long, stream_at}
use Rattle.apply_core.proofs.join_rows.is_further.Goals as goal

pub is_behind-requires : goal.is_behind-requires
is_behind-requires c =
    let inside : c.args.s < length c.args.b.now.streams = subst (λ n. c.args.s < n) (as_long c.args.a.now.streams c.args.b.now.streams c.requires.plans) c.requires.inside in
    let here : slice_get c.args.a.now.streams c.args.s ≡ Some c.index.result.now = stream_at _ _ c.args.a.now c.a.view_is c.args.s c.index.result.now c.requires.inside c.index.ensures in
    let there : slice_get c.args.b.now.streams c.args.s ≡ Some c.index-2.result.now = stream_at _ _ c.args.b.now c.b.view_is c.args.s c.index-2.result.now inside c.index-2.ensures in
    same_plan c.args.a.now.streams c.args.b.now.streams c.requires.plans c.args.s c.index.result.now c.index-2.result.now here there
