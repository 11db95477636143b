use Rattle.vrepl_main.proofs.AheadLaws.{others_stay}
use Rattle.vrepl_main.proofs.ahead.take_ahead.Goals as goal

pub returns-clause-others : goal.returns-clause-others
returns-clause-others c = others_stay c.args.fed.now.feeds _ _ c.args.s c.args.step c.take_step.result c.take_step.ensures.reply
