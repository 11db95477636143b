use Rattle.std.proofs.Common.{◌≡◌, List, length, take, drop, ◌++◌, sym, ap, subst, ◌∙◌, arith}
use Rattle.std.specs.Prelude.{IfOk, IfErr, IfSome, OnErr, slice_get}
use Rattle.source_feed.specs.Growing.{AreOfOneFeed}
use Rattle.source_feed.specs.Planned.{FeedValue}
use Rattle.board_laws.specs.FedBoards.{Fed}
use Rattle.board_laws.specs.Sources.{ShowAll}
use Rattle.apply_core.specs.Ended.{IsFedBoard}
use Rattle.apply_core.specs.Growing.{GrowsAt, IsRefusedGrow}
use Rattle.apply_core.proofs.FedLaws.{refilled_feeds}
use Rattle.apply_core.proofs.GrowingLaws.{stays-fed}
use Rattle.apply_core.proofs.fed.FedBoard.grow.Goals as goal

pub grow_in-requires : goal.grow_in-requires
grow_in-requires c =
    subst (λ (fs : List FeedValue). IfSome (slice_get fs c.args.s) (λ feed. AreOfOneFeed feed c.args.end.now)) (sym (c.deref_mut.ensures.value ∙ ap (λ (f : Fed). f.feeds) c.self.view_is)) c.requires

pub invariant_of-self : goal.invariant_of-self
invariant_of-self c =
    let same : length c.grow_in.new.feeds ≡ c.self.inside.feeds.len = omega (arith, c.grow_in.auto.feeds, c.deref_mut.ensures.len) in
    subst (λ (fs : List FeedValue). IsFedBoard fs c.self.inside.board) (sym (refilled_feeds c.self.inside.feeds.len c.self.inside.feeds.items c.grow_in.new.feeds same))
    (stays-fed c.fed_boards_show_all.ensures.grow c.longer_feeds_have_grown.ensures c.args.s c.args.piece.now c.self.inside.feeds.items c.grow_in.new.feeds c.args.end.now c.grow_in.new.end c.self.inside.board c.grow_in.result
    (subst (λ (fs : List FeedValue). IfOk c.grow_in.result (λ taken. GrowsAt c.args.s c.args.piece.now taken fs c.grow_in.new.feeds c.args.end.now c.grow_in.new.end)) c.deref_mut.ensures.value c.grow_in.ensures.grown)
    (subst (λ (fs : List FeedValue). OnErr c.grow_in.result ((c.grow_in.new.feeds ≡ fs) × (c.grow_in.new.end ≡ c.args.end.now))) c.deref_mut.ensures.value c.grow_in.ensures.left)
    c.self.invariant)

pub returns-clause-shows : goal.returns-clause-shows
returns-clause-shows c =
    let same : length c.grow_in.new.feeds ≡ c.self.inside.feeds.len = omega (arith, c.grow_in.auto.feeds, c.deref_mut.ensures.len) in
    subst (λ (fs : List FeedValue). ShowAll fs c.self.inside.board) (sym (refilled_feeds c.self.inside.feeds.len c.self.inside.feeds.items c.grow_in.new.feeds same))
    (c.fed_boards_show_all.ensures.show c.grow_in.new.feeds c.self.inside.board
    (stays-fed c.fed_boards_show_all.ensures.grow c.longer_feeds_have_grown.ensures c.args.s c.args.piece.now c.self.inside.feeds.items c.grow_in.new.feeds c.args.end.now c.grow_in.new.end c.self.inside.board c.grow_in.result
    (subst (λ (fs : List FeedValue). IfOk c.grow_in.result (λ taken. GrowsAt c.args.s c.args.piece.now taken fs c.grow_in.new.feeds c.args.end.now c.grow_in.new.end)) c.deref_mut.ensures.value c.grow_in.ensures.grown)
    (subst (λ (fs : List FeedValue). OnErr c.grow_in.result ((c.grow_in.new.feeds ≡ fs) × (c.grow_in.new.end ≡ c.args.end.now))) c.deref_mut.ensures.value c.grow_in.ensures.left)
    c.self.invariant))

pub returns-clause-grown : goal.returns-clause-grown
returns-clause-grown c =
    let same : length c.grow_in.new.feeds ≡ c.self.inside.feeds.len = omega (arith, c.grow_in.auto.feeds, c.deref_mut.ensures.len) in
    let feeds : c.deref_mut.result.now ≡ c.args.self.now.feeds = c.deref_mut.ensures.value ∙ ap (λ (f : Fed). f.feeds) c.self.view_is in
    subst (λ (new : List FeedValue). IfOk c.grow_in.result (λ taken. GrowsAt c.args.s c.args.piece.now taken c.args.self.now.feeds new c.args.end.now c.grow_in.new.end)) (sym (refilled_feeds c.self.inside.feeds.len c.self.inside.feeds.items c.grow_in.new.feeds same))
    (subst (λ (fs : List FeedValue). IfOk c.grow_in.result (λ taken. GrowsAt c.args.s c.args.piece.now taken fs c.grow_in.new.feeds c.args.end.now c.grow_in.new.end)) feeds c.grow_in.ensures.grown)

pub returns-clause-refused : goal.returns-clause-refused
returns-clause-refused c =
    let feeds : c.deref_mut.result.now ≡ c.args.self.now.feeds = c.deref_mut.ensures.value ∙ ap (λ (f : Fed). f.feeds) c.self.view_is in
    subst (λ (fs : List FeedValue). IfErr c.grow_in.result (IsRefusedGrow c.args.s c.args.piece.now fs c.args.end.now)) feeds c.grow_in.ensures.refused

pub returns-clause-left : goal.returns-clause-left
returns-clause-left c =
    let same : length c.grow_in.new.feeds ≡ c.self.inside.feeds.len = omega (arith, c.grow_in.auto.feeds, c.deref_mut.ensures.len) in
    let feeds : c.deref_mut.result.now ≡ c.args.self.now.feeds = c.deref_mut.ensures.value ∙ ap (λ (f : Fed). f.feeds) c.self.view_is in
    subst (λ (new : List FeedValue). OnErr c.grow_in.result ((new ≡ c.args.self.now.feeds) × (c.grow_in.new.end ≡ c.args.end.now))) (sym (refilled_feeds c.self.inside.feeds.len c.self.inside.feeds.items c.grow_in.new.feeds same))
    (subst (λ (fs : List FeedValue). OnErr c.grow_in.result ((c.grow_in.new.feeds ≡ fs) × (c.grow_in.new.end ≡ c.args.end.now))) feeds c.grow_in.ensures.left)
