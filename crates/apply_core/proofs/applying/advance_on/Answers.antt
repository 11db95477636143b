use Rattle.std.proofs.Common.{ap}
use Rattle.stream_core.specs.declared.step.Step.TheVariants.{Advance}
use Rattle.board_laws.specs.declared.answer.Answer.TheVariants.{Applied}
use Rattle.board_laws.specs.Event.{advance}
use Rattle.apply_core.proofs.StepLaws.{makes-where, move-here}
use Rattle.apply_core.proofs.applying.advance_on.Goals as goal

pub advance-requires-clause-made : goal.advance-requires-clause-made
advance-requires-clause-made c = move-here _ _ advance Advance c.args.made c.index-streams-s.result c.requires.may c.requires.made

pub returns : goal.returns
returns c = makes-where _ _ advance c.requires.may c.index-streams-s.result _ _ (ap Applied c.advance.ensures.number) c.advance.ensures.state
