use Rattle.vrepl_words.proofs.arguments.with_streams.Goals as goal

pub returns : goal.returns
returns c = λ app has. c.with_arg.ensures _ _ (c.with_arg-command.ensures app _ has c.workflow.ensures) c.operands.ensures
