use Rattle.json_pieces.proofs.TellLaws.{finished}
use Rattle.json_pieces.proofs.line.finish_unless.Goals as goal

pub returns : goal.returns
returns g c = λ begun told tells. finished c.finish.result begun _ _ _ told (rw c.if-failed.false at tells) c.finish.ensures.printed
