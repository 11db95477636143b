use Rattle.std.proofs.Common.{ap, map}
use Rattle.std.proofs.lemmas.List.{drop_all}
use Rattle.json.specs.Print.{escape}
use Rattle.shown_text.specs.Shown.{printable_byte}
use Rattle.json_pieces.proofs.TellLaws.{moves, ends}
use Rattle.json_pieces.proofs.TextLaws.{printable-at}
use Rattle.json_pieces.proofs.escaped.put_printable.Goals as goal

pub loop-byte-preserved : goal.loop-byte-preserved
loop-byte-preserved g c =
    moves _ _ _ _ _ _ _ (printable-at c.args.bytes.now c.loop-byte.byte-index 0 c.loop-byte-test.true) c.loop-byte.invariant (rw c.printable.ensures at c.put_byte.ensures)

pub returns : goal.returns
returns g c = ends _ _ _ _ (ap (λ l. escape (map printable_byte l)) (drop_all c.loop-byte.byte-index c.args.bytes.now c.loop-byte-test.false)) c.loop-byte.invariant
