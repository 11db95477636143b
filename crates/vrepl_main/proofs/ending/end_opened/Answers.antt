use Rattle.std.proofs.Common.{◌≡◌, ◌∙◌, ap, sym, arith, List, length, Ok}
use Rattle.std.proofs.lemmas.List.{with_items_is}
use Rattle.std.proofs.lemmas.Result.{err_from_is_err_and}
use Rattle.std.specs.Prelude.{map}
use Rattle.std.specs.Arc.{arc_value}
use Rattle.source_feed.specs.Planned.{FeedValue}
use Rattle.feed_ends.specs.EndedFeeds.{ended_feeds}
use Rattle.vrepl_choices.specs.UntilValue.{until_value}
use Rattle.vrepl_main.specs.Ending.{ended_over}
use Rattle.vrepl_main.proofs.EndLaws.{refused_end}
use Rattle.vrepl_main.proofs.ending.end_opened.Goals as goal

pub returns-in_err-end_feeds-clause-ended : goal.returns-in_err-end_feeds-clause-ended
returns-in_err-end_feeds-clause-ended c =
    let p = err_from_is_err_and c.from_residual.result c.from_residual.ensures.1 in
    rw (p.1, p.2) (refused_end c.in_err-end_feeds.field-0.0 (map arc_value c.args.opened.plans.items) (ended_feeds (map until_value c.args.until.now) c.args.opened.feeds.items) (rw c.deref_mut.ensures.value at c.in_err-end_feeds.ensures.exact))

pub returns-clause-ended : goal.returns-clause-ended
returns-clause-ended c =
    let same : length c.end_feeds.new.feeds ≡ c.args.opened.feeds.len = omega (arith, c.end_feeds.auto.feeds, c.deref_mut.ensures.len) in
    let plans = map arc_value c.args.opened.plans.items in
    ap (ended_over plans) (rw c.deref_mut.ensures.value at c.in_ok-end_feeds.ensures.exact) ∙ ap (λ (feeds : List FeedValue). ended_over plans (Ok feeds)) (sym (with_items_is c.args.opened.feeds c.end_feeds.new.feeds same))
