use Rattle.std.proofs.Common.{◌≡◌, ◌∙◌, ℕ, ◌<◌, ◌≤◌, List, length, map, subst, sym, arith, rules, Vec, Global}
use Rattle.std.proofs.lemmas.List.{length-map}
use Rattle.std.proofs.lemmas.Result.{err_from_is_err_and}
use Rattle.std.specs.Arc.{arc_value}
use Rattle.source_feed.specs.declared.fault.FeedFault.TheVariants.{Memory}
use Rattle.live_core.specs.Source.{IsOfSource}
use Rattle.live_opening.proofs.BegunLaws.{IsBegunAt, all-begun, begun-here, each-pushed, unbegun-first, unbegun-here}
use Rattle.live_opening.proofs.begun.begin_all.Goals as goal

-- the bytes of a vector
abbrev items : Vec ℕ Global → List ℕ
items bytes = bytes.items

pub returns-in_err-feed-clause-refused : goal.returns-in_err-feed-clause-refused
returns-in_err-feed-clause-refused c =
    let p = err_from_is_err_and c.from_residual-in_err-feed.result c.from_residual-in_err-feed.ensures.1 in
    let within : c.loop-s.s < length c.args.plans.now = search rules in
    rw (p.1, p.2)
    (unbegun-here arc_value items c.args.plans.now c.args.come.now c.loop-s.s c.index-plans-s.result c.index-come-s.result c.loop-s.feeds.items c.loop-s.sources.items _ c.requires.count within c.index-plans-s.is c.index-come-s.is
    c.loop-s.invariant.feeds c.loop-s.invariant.many c.loop-s.invariant.begun (rw c.deref.ensures.value at c.in_err-feed.ensures.refused))

pub returns-in_err-push-clause-refused : goal.returns-in_err-push-clause-refused
returns-in_err-push-clause-refused c =
    let p = err_from_is_err_and c.from_residual-in_err-push.result c.from_residual-in_err-push.ensures.1 in
    let within : c.loop-s.s < length c.args.plans.now = search rules in
    rw (p.1, p.2)
    (unbegun-here arc_value items c.args.plans.now c.args.come.now c.loop-s.s c.index-plans-s.result c.index-come-s.result c.loop-s.feeds.items c.loop-s.sources.items Memory c.requires.count within c.index-plans-s.is c.index-come-s.is
    c.loop-s.invariant.feeds c.loop-s.invariant.many c.loop-s.invariant.begun tt)

pub returns-in_err-push-2-clause-refused : goal.returns-in_err-push-2-clause-refused
returns-in_err-push-2-clause-refused c =
    let p = err_from_is_err_and c.from_residual-in_err-push-2.result c.from_residual-in_err-push-2.ensures.1 in
    let within : c.loop-s.s < length c.args.plans.now = search rules in
    rw (p.1, p.2)
    (unbegun-here arc_value items c.args.plans.now c.args.come.now c.loop-s.s c.index-plans-s.result c.index-come-s.result c.loop-s.feeds.items c.loop-s.sources.items Memory c.requires.count within c.index-plans-s.is c.index-come-s.is
    c.loop-s.invariant.feeds c.loop-s.invariant.many c.loop-s.invariant.begun tt)

pub loop-s-preserved : goal.loop-s-preserved
loop-s-preserved c =
    let plans = c.args.plans.now in
    let come = c.args.come.now in
    let s = c.loop-s.s in
    let feed = c.in_ok-feed.feed in
    let source = c.in_ok-feed.source in
    let within : c.loop-s.s < length c.args.plans.now = search rules in
    let here : IsBegunAt (map arc_value plans) (map items come) s feed source
    = begun-here arc_value items plans come s c.index-plans-s.result c.index-come-s.result feed source within (subst (λ (n : ℕ). s < n) c.requires.count within) c.index-plans-s.is c.index-come-s.is c.in_ok-feed.ensures.feed
    c.in_ok-feed.ensures.plan (rw c.deref.ensures.value at c.in_ok-feed.ensures.taken) (rw c.deref.ensures.value at c.in_ok-feed.ensures.sound) in
    record {
      feeds = search rules;
      many = search rules;
      sources = each-pushed (λ n x y. IsOfSource x y) s c.loop-s.feeds.items c.push.new.self.items c.loop-s.sources.items c.push-in-loop-s.new.self.items feed source c.loop-s.invariant.feeds c.loop-s.invariant.many
          c.in_ok-push.ensures.items c.in_ok-push-2.ensures.items c.in_ok-feed.ensures.feed c.loop-s.invariant.sources;
      begun = each-pushed (IsBegunAt (map arc_value plans) (map items come)) s c.loop-s.feeds.items c.push.new.self.items c.loop-s.sources.items c.push-in-loop-s.new.self.items feed source c.loop-s.invariant.feeds c.loop-s.invariant.many
          c.in_ok-push.ensures.items c.in_ok-push-2.ensures.items here c.loop-s.invariant.begun;
    }

pub returns-clause-begun : goal.returns-clause-begun
returns-clause-begun c =
    let all : c.loop-s.s ≡ length c.args.plans.now = omega (arith, c.loop-s-test.false, c.loop-s.auto.s-end) in
    all-begun (map arc_value c.args.plans.now) (map items c.args.come.now) c.loop-s.feeds.items c.loop-s.sources.items (c.loop-s.invariant.feeds ∙ all ∙ sym (length-map c.args.plans.now arc_value))
    (c.loop-s.invariant.feeds ∙ all ∙ c.requires.count ∙ sym (length-map c.args.come.now items)) (c.loop-s.invariant.many ∙ sym c.loop-s.invariant.feeds) c.loop-s.invariant.begun

pub returns-in_err-first-clause-refused : goal.returns-in_err-first-clause-refused
returns-in_err-first-clause-refused c =
    let p = err_from_is_err_and c.from_residual.result c.from_residual.ensures.1 in
    rw (p.1, p.2) (unbegun-first (map arc_value c.args.plans.now) (map items c.args.come.now) (subst (λ (n : ℕ). 1 ≤ n) (sym (length-map c.args.plans.now arc_value)) c.requires.some)
    (length-map c.args.come.now items ∙ sym c.requires.count ∙ sym (length-map c.args.plans.now arc_value)))
