use Rattle.vrepl_c.proofs.Messages.{no_longer}
use Rattle.vrepl_c.proofs.message.vrepl_message.Goals as goal

pub overflow_sub-start : goal.overflow_sub-start
overflow_sub-start c = no_longer c.args.bytes.now (c.in-Ok.size, c.in-Ok.after.now) c.in-Ok.ensures
