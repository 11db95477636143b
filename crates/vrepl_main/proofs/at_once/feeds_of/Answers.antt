use Rattle.std.proofs.Common.{rules, ◌≡◌, ◌∙◌, sym, subst, ℕ, ◌+◌, List, [], ◌∷◌, ◌++◌, length, map}
use Rattle.std.proofs.lemmas.List.{length-map, length_push}
use Rattle.std.proofs.lemmas.Result.{err_from_is_err_and}
use Rattle.std.proofs.lemmas.Iterator.Adapters.{YieldsList-from_vec}
use Rattle.std.proofs.lemmas.Iterator.Consumers.{YieldsList-turn}
use Rattle.std.specs.Arc.{arc_value}
use Rattle.source_feed.specs.Planned.{FeedValue}
use Rattle.vrepl_main.specs.Given.{given_value}
use Rattle.vrepl_main.proofs.AtOnceLaws.{IsSoFar, moves_on, stops_there}
use Rattle.vrepl_main.proofs.at_once.feeds_of.Goals as goal

pub returns-in_err-feed : goal.returns-in_err-feed
returns-in_err-feed c =
    let b = c.into_iter-one-iterator.ensures.into_iter_gives in
    let t = YieldsList-turn (YieldsList-from_vec {s = c.into_iter-one-iterator.result} c.args.tried.items b.0 (b.1 ∙ c.args.tried.ok.0)) c.loop-one.yielded c.loop-one.one-iterator c.loop-one.yielded_by c.next.result c.next.new.self c.in-Some.one c.in-Some.is c.next.ensures.steps in
    let same = length-map c.args.plans.now arc_value ∙ c.requires.same ∙ sym (length-map c.args.given.now given_value) in
    let p = err_from_is_err_and c.from_residual-in_err-feed.result c.from_residual-in_err-feed.ensures.1 in
    rw (p.1, p.2) (stops_there (map arc_value c.args.plans.now) (map given_value c.args.given.now) same c.args.tried.items c.requires.tried (length c.loop-one.yielded) c.loop-one.feeds.items c.loop-one.invariant
    c.in-Some.one t.0 t.1 c.in_err-feed.field-0.0 (sym c.in_err-feed.ensures))

pub loop-one-preserved : goal.loop-one-preserved
loop-one-preserved c =
    let b = c.into_iter-one-iterator.ensures.into_iter_gives in
    let t = YieldsList-turn (YieldsList-from_vec {s = c.into_iter-one-iterator.result} c.args.tried.items b.0 (b.1 ∙ c.args.tried.ok.0)) c.loop-one.yielded c.loop-one.one-iterator c.loop-one.yielded_by c.next.result c.next.new.self c.in-Some.one c.in-Some.is c.next.ensures.steps in
    let same = length-map c.args.plans.now arc_value ∙ c.requires.same ∙ sym (length-map c.args.given.now given_value) in
    let grown : c.push.new.self.items ≡ c.loop-one.feeds.items ++ c.in_ok-feed.feed ∷ [] = search rules in
    let on = moves_on (map arc_value c.args.plans.now) (map given_value c.args.given.now) same c.args.tried.items c.requires.tried (length c.loop-one.yielded) c.loop-one.feeds.items c.loop-one.invariant
    c.in-Some.one t.0 t.1 c.in_ok-feed.feed (sym c.in_ok-feed.ensures) in
    subst (λ (n : ℕ). IsSoFar (map arc_value c.args.plans.now) (map given_value c.args.given.now) c.push.new.self.items n) (sym (length_push c.loop-one.yielded c.in-Some.one))
    (subst (λ (front : List FeedValue). IsSoFar (map arc_value c.args.plans.now) (map given_value c.args.given.now) front (length c.loop-one.yielded + 1)) (sym grown) on)
