use Rattle.std.proofs.Common.{ap, sym}
use Rattle.json_pieces.proofs.TellLaws.{same_text}
use Rattle.check_said.specs.Private.Parts.{end_part}
use Rattle.check_said.proofs.told.put_end.Goals as goal

pub returns-then-warned : goal.returns-then-warned
returns-then-warned g c = same_text _ _ _ _ (ap end_part (sym c.if-warned.true)) c.put.ensures

pub returns-else-warned : goal.returns-else-warned
returns-else-warned g c = same_text _ _ _ _ (ap end_part (sym c.if-warned.false)) c.put-else-warned.ensures
