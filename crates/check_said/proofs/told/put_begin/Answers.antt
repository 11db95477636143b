use Rattle.std.proofs.Common.{ap, sym}
use Rattle.json_pieces.proofs.TellLaws.{same_text}
use Rattle.check_said.specs.Private.Parts.{begin_part}
use Rattle.check_said.proofs.told.put_begin.Goals as goal

pub returns-then-noted : goal.returns-then-noted
returns-then-noted g c = same_text _ _ _ _ (ap begin_part (sym c.if-noted.true)) c.put.ensures

pub returns-else-noted : goal.returns-else-noted
returns-else-noted g c = same_text _ _ _ _ (ap begin_part (sym c.if-noted.false)) c.put-else-noted.ensures
