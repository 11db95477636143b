use Rattle.std.proofs.Common.{◌∙◌, map, sym}
use Rattle.vrepl_choices.specs.UntilValue.{until_value}
use Rattle.feed_ends.proofs.EndLaws.{ended_ok}
use Rattle.feed_ends.proofs.ending.end_feeds.Goals as goal

pub returns-clause-ended : goal.returns-clause-ended
returns-clause-ended c =
    ended_ok (map until_value c.args.untils.now) c.args.feeds.now c.end_each.new.feeds c.in_ok-ends.ends.items c.end_each.result (sym c.name_some_of.ensures ∙ c.if-not-name_some_of.false) c.in_ok-ends.ensures
    (rw c.deref.ensures.value at c.end_each.ensures)
