use Rattle.std.proofs.Common.{ap}
use Rattle.std.proofs.lemmas.List.{drop_all}
use Rattle.hex.specs.Hex.{encode_lower, encode_with}
use Rattle.json.specs.Print.{escape}
use Rattle.json_pieces.proofs.TellLaws.{moves, ends}
use Rattle.json_pieces.proofs.TextLaws.{hex-at}
use Rattle.live_json.proofs.cells.put_hex.Goals as goal

pub loop-byte-preserved : goal.loop-byte-preserved
loop-byte-preserved g c = moves _ _ _ _ _ _ _ (hex-at c.args.bytes.now c.loop-byte.byte-index 0 c.loop-byte-test.true) c.loop-byte.invariant c.put_pair.ensures

pub returns : goal.returns
unfolding encode_with
returns g c = ends _ _ _ _ (ap (λ l. escape (encode_lower l)) (drop_all c.loop-byte.byte-index c.args.bytes.now c.loop-byte-test.false)) c.loop-byte.invariant
