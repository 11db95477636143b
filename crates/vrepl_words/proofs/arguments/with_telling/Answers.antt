use Rattle.vrepl_words.proofs.arguments.with_telling.Goals as goal

pub returns : goal.returns
returns c = λ app has. c.with_arg.ensures _ _ (c.with_arg-command.ensures app _ has c.flag.ensures) c.flag-2.ensures
