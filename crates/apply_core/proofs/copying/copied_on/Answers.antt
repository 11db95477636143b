use Rattle.std.proofs.Common.{ap}
use Rattle.board_laws.specs.declared.answer.Answer.TheVariants.{Copied}
use Rattle.board_laws.specs.Event.{copy_rows}
use Rattle.apply_core.proofs.StepLaws.{makes-where}
use Rattle.apply_core.proofs.CopyLaws.{move_here}
use Rattle.apply_core.proofs.copying.copied_on.Goals as goal

pub returns : goal.returns
returns c =
    makes-where _ _ (copy_rows c.args.c) c.requires.may c.index-streams-s.result _ _
    (ap Copied (move_here _ _ c.args.c c.args.step c.index-streams-s.result c.requires.may c.requires.moves).copied) c.copied.ensures
