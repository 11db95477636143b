use Rattle.std.proofs.Common.{codes}
use Rattle.clap.specs.Words.{new_app}
use Rattle.vrepl_words.proofs.commands.feed.feed_command.Goals as goal

pub returns : goal.returns
returns c =
    let stream = c.with_arg-command.ensures (new_app (codes "feed")) _ c.bare.ensures c.option.ensures in
    c.with_arg.ensures _ _ stream c.optional.ensures
