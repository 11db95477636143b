use Rattle.std.proofs.Common.{[], ◌∷◌, sym}
use Rattle.proto_wire.specs.Varint.{shortest}
use Rattle.proto_wire.proofs.ShortestLaws.{within-low}
use Rattle.json_pieces.proofs.TellLaws.{same_text}
use Rattle.compaction.proofs.varint.put_number.Goals as goal

pub returns-then-value-lt128 : goal.returns-then-value-lt128
unfolding shortest
returns-then-value-lt128 g c = same_text _ _ (c.args.value ∷ []) (shortest c.args.value) (sym (within-low 8 c.args.value c.if-value-lt128.true)) c.put.ensures

pub returns : goal.returns
returns g c = same_text _ _ _ (shortest c.args.value) c.spelling_of-size.ensures.spelled c.put-2.ensures
