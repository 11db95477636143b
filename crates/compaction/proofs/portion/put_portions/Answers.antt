use Rattle.std.proofs.Common.{◌+◌, List, ℕ, ap, drop}
use Rattle.std.proofs.lemmas.List.{drop_all}
use Rattle.json_pieces.proofs.TellLaws.{starts, moves, ends}
use Rattle.compaction.specs.Private.Sized.{joined}
use Rattle.compaction.proofs.SizedLaws.{first-left}
use Rattle.compaction.proofs.portion.put_portions.Goals as goal

pub loop-portion-init : goal.loop-portion-init
loop-portion-init g c = starts _ _

pub loop-portion-preserved : goal.loop-portion-preserved
loop-portion-preserved g c =
    moves _ _ _ _ _ c.portion-item.result (joined (drop (c.loop-portion.portion-index + 1) c.args.portions.now))
    (first-left (λ (message : List ℕ). message) c.args.portions.now c.loop-portion.portion-index c.portion-item.result c.loop-portion-test.true c.portion-item.is) c.loop-portion.invariant c.put.ensures

pub returns : goal.returns
returns g c = ends _ _ _ _ (ap joined (drop_all c.loop-portion.portion-index c.args.portions.now c.loop-portion-test.false)) c.loop-portion.invariant
