use Rattle.std.proofs.Common.{rules, ◌≡◌, ◌∙◌, ap, subst, sym, ℕ, ◌+◌, ◌<◌, List, [], ◌∷◌, ◌++◌, length, drop, get_or, map}
use Rattle.std.specs.Arc.{arc_value}
use Rattle.source_feed.specs.Planned.{FeedValue}
use Rattle.vrepl_main.specs.Given.{given_value}
use Rattle.vrepl_main.specs.Opening.{opened_feed, opened_feeds}
use Rattle.vrepl_main.proofs.OpenLaws.{in_front, moves, starts}
use Rattle.vrepl_main.proofs.opened.open_feeds.Goals as goal

pub loop-i-init : goal.loop-i-init
loop-i-init c = starts arc_value given_value c.args.plans.now c.args.given.now c.in_ok-feeds.feeds.items (search rules)

pub loop-i-preserved : goal.loop-i-preserved
loop-i-preserved c =
    let plan = c.index-plans-i.result in
    let one = c.index-given-i.result in
    let within : c.loop-i.i < length c.args.plans.now = search rules in
    let opened = ap (λ p. opened_feed (arc_value p) (given_value (get_or c.args.given.now c.loop-i.i one))) (sym c.index-plans-i.is)
    ∙ ap (λ g. opened_feed (arc_value plan) (given_value g)) (sym c.index-given-i.is) ∙ c.in_ok-feed.ensures in
    let grown : c.push.new.self.items ≡ c.loop-i.feeds.items ++ c.in_ok-feed.feed ∷ [] = search rules in
    let on = moves arc_value given_value c.args.plans.now c.args.given.now c.loop-i.i plan one c.loop-i.feeds.items c.in_ok-feed.feed _ within (subst (λ (n : ℕ). c.loop-i.i < n) c.requires within) opened c.loop-i.invariant in
    subst (λ (front : List FeedValue). opened_feeds (map arc_value c.args.plans.now) (map given_value c.args.given.now) ≡ in_front front (opened_feeds (map arc_value (drop (c.loop-i.i + 1) c.args.plans.now)) (map given_value (drop (c.loop-i.i + 1) c.args.given.now)))) (sym grown) on
