use Rattle.std.proofs.Common.{◌≡◌, ◌<◌, List, length, take, drop, ◌++◌, set, sym, ap, subst, ◌∙◌, arith}
use Rattle.std.specs.Prelude.{IfSome, slice_get}
use Rattle.source_feed.specs.Planned.{FeedValue}
use Rattle.board_laws.specs.FedBoards.{Fed, HasGrown}
use Rattle.board_laws.specs.Sources.{ShowAll}
use Rattle.apply_core.specs.Ended.{IsFedBoard}
use Rattle.apply_core.proofs.FedLaws.{grown-there, refilled_feeds}
use Rattle.apply_core.proofs.fed.FedBoard.put_grown.Goals as goal

pub put_feed-requires : goal.put_feed-requires
put_feed-requires c =
    subst (λ (fs : List FeedValue). c.args.s < length fs) (sym (c.deref_mut.ensures.value ∙ ap (λ (f : Fed). f.feeds) c.self.view_is)) c.requires.there

pub invariant_of-self : goal.invariant_of-self
invariant_of-self c =
    let same : length c.put_feed.new.feeds ≡ c.self.inside.feeds.len = omega (arith, c.put_feed.auto.feeds, c.deref_mut.ensures.len) in
    let feeds : c.self.inside.feeds.items ≡ c.args.self.now.feeds = ap (λ (f : Fed). f.feeds) c.self.view_is in
    let put : c.put_feed.new.feeds ≡ set c.self.inside.feeds.items c.args.s c.args.feed
    = c.put_feed.ensures ∙ ap (λ (fs : List FeedValue). set fs c.args.s c.args.feed) c.deref_mut.ensures.value in
    subst (λ (fs : List FeedValue). IsFedBoard fs c.self.inside.board) (sym (refilled_feeds c.self.inside.feeds.len c.self.inside.feeds.items c.put_feed.new.feeds same ∙ put))
    (grown-there c.fed_boards_show_all.ensures.grow c.self.inside.feeds.items c.self.inside.board c.args.s c.args.feed c.self.invariant
    (subst (λ (fs : List FeedValue). c.args.s < length fs) (sym feeds) c.requires.there)
    (subst (λ (fs : List FeedValue). IfSome (slice_get fs c.args.s) (λ old. HasGrown old c.args.feed)) (sym feeds) c.requires.grown))

pub returns-clause-feeds : goal.returns-clause-feeds
returns-clause-feeds c =
    let same : length c.put_feed.new.feeds ≡ c.self.inside.feeds.len = omega (arith, c.put_feed.auto.feeds, c.deref_mut.ensures.len) in
    let feeds : c.deref_mut.result.now ≡ c.args.self.now.feeds = c.deref_mut.ensures.value ∙ ap (λ (f : Fed). f.feeds) c.self.view_is in
    refilled_feeds c.self.inside.feeds.len c.self.inside.feeds.items c.put_feed.new.feeds same ∙ c.put_feed.ensures ∙ ap (λ (fs : List FeedValue). set fs c.args.s c.args.feed) feeds

pub returns-clause-shows : goal.returns-clause-shows
returns-clause-shows c =
    let same : length c.put_feed.new.feeds ≡ c.self.inside.feeds.len = omega (arith, c.put_feed.auto.feeds, c.deref_mut.ensures.len) in
    let feeds : c.self.inside.feeds.items ≡ c.args.self.now.feeds = ap (λ (f : Fed). f.feeds) c.self.view_is in
    let put : c.put_feed.new.feeds ≡ set c.self.inside.feeds.items c.args.s c.args.feed
    = c.put_feed.ensures ∙ ap (λ (fs : List FeedValue). set fs c.args.s c.args.feed) c.deref_mut.ensures.value in
    subst (λ (fs : List FeedValue). ShowAll fs c.self.inside.board) (sym (refilled_feeds c.self.inside.feeds.len c.self.inside.feeds.items c.put_feed.new.feeds same ∙ put))
    (c.fed_boards_show_all.ensures.show (set c.self.inside.feeds.items c.args.s c.args.feed) c.self.inside.board
    (grown-there c.fed_boards_show_all.ensures.grow c.self.inside.feeds.items c.self.inside.board c.args.s c.args.feed c.self.invariant
    (subst (λ (fs : List FeedValue). c.args.s < length fs) (sym feeds) c.requires.there)
    (subst (λ (fs : List FeedValue). IfSome (slice_get fs c.args.s) (λ old. HasGrown old c.args.feed)) (sym feeds) c.requires.grown)))
