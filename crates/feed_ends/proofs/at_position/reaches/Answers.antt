use Rattle.std.proofs.Common.{◌∙◌, ap, sym}
use Rattle.std.specs.Option.{option_copied}
use Rattle.gtid_set.specs.Position.{within_of}
use Rattle.feed_ends.proofs.WithinLaws.{no_end, within_nothing}
use Rattle.feed_ends.proofs.at_position.reaches.Goals as goal

pub returns-in-None : goal.returns-in-None
returns-in-None c =
    within_nothing c.args.position.now c.is_empty.result c.is_empty.ensures
    ∙ ap (within_of c.args.position.now) (sym (no_end c.args.feed.now c.len.result c.len.ensures (sym (ap option_copied c.in-None.is) ∙ c.position.ensures)))
