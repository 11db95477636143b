use Rattle.std.proofs.Common.{rules, ◌≡◌, ◌∙◌, ◌+◌, ◌<◌, ◌++◌, [], ◌∷◌, List, length, map, ap, sym, subst, drop, None}
use Rattle.std.specs.Prelude.{slice_get}
use Rattle.std.specs.Option.{option_map}
use Rattle.std.proofs.lemmas.List.{drop_all}
use Rattle.std.proofs.lemmas.Result.{err_from_is_err_and}
use Rattle.feed_check.specs.Checked.{CheckedValue, checked_feeds}
use Rattle.feed_check.proofs.ListLaws.{in_front, starts}
use Rattle.feed_check.proofs.CheckLaws.{check-goes, check-stops, no_bytes, no_feed}
use Rattle.feed_check.proofs.checked.check_feeds.Goals as goal

pub loop-i-init : goal.loop-i-init
loop-i-init g c =
    let none : c.in_ok-checks.checks.items ≡ [] = search rules in
    starts (checked_feeds (map (λ one. one.now) c.args.bytes.now) c.args.feeds.now) c.in_ok-checks.checks.items none

pub loop-i-preserved : goal.loop-i-preserved
loop-i-preserved g c =
    let all = map (λ one. one.now) c.args.bytes.now in
    let within : c.loop-i.i < length c.args.feeds.now = search rules in
    let grown : c.push.new.self.items ≡ c.loop-i.checks.items ++ c.in_ok-check.check ∷ [] = search rules in
    let there = sym c.bytes_at.ensures ∙ ap (option_map (λ one. one.now)) c.in-Some.is in
    subst (λ (front : List CheckedValue). checked_feeds all c.args.feeds.now ≡ in_front front (checked_feeds (drop (c.loop-i.i + 1) all) (drop (c.loop-i.i + 1) c.args.feeds.now))) (sym grown)
    (c.loop-i.invariant ∙ check-goes all c.args.feeds.now c.loop-i.i c.in-Some.one.now c.index-feeds-i.result c.loop-i.checks.items c.in_ok-check.check there within c.index-feeds-i.is c.in_ok-check.ensures)

pub returns-in_default : goal.returns-in_default
returns-in_default g c =
    let all = map (λ one. one.now) c.args.bytes.now in
    let none : slice_get all c.loop-i.i ≡ None = search rules in
    c.loop-i.invariant ∙ no_bytes all c.loop-i.i (drop c.loop-i.i c.args.feeds.now) c.loop-i.checks.items none

pub returns-in_err-check : goal.returns-in_err-check
returns-in_err-check g c =
    let all = map (λ one. one.now) c.args.bytes.now in
    let p = err_from_is_err_and c.from_residual-in_err-check.result c.from_residual-in_err-check.ensures.1 in
    let within : c.loop-i.i < length c.args.feeds.now = search rules in
    let there = sym c.bytes_at.ensures ∙ ap (option_map (λ one. one.now)) c.in-Some.is in
    rw (p.1, p.2) (check-stops all c.args.feeds.now c.loop-i.i c.in-Some.one.now c.index-feeds-i.result c.loop-i.checks.items (checked_feeds all c.args.feeds.now) c.in_err-check.field-0.0 there within c.index-feeds-i.is c.in_err-check.ensures c.loop-i.invariant)

pub returns : goal.returns
returns g c =
    let all = map (λ one. one.now) c.args.bytes.now in
    c.loop-i.invariant
    ∙ ap (λ feeds. in_front c.loop-i.checks.items (checked_feeds (drop c.loop-i.i all) feeds)) (drop_all c.loop-i.i c.args.feeds.now (search rules))
    ∙ no_feed (drop c.loop-i.i all) c.loop-i.checks.items
