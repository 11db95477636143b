use Rattle.std.proofs.Common.{arith, ◌≡◌, ◌∙◌, ◌+◌, ◌-◌, ◌<◌, ℕ, ap, drop, length, subst}
use Rattle.pk_copy.specs.KeyValue.{KeyValue}
use Rattle.source_feed.specs.History.{touches_in}
use Rattle.feed_check.specs.Private.Owners.{owner_after}
use Rattle.feed_check.specs.Private.Replayed.{row_in}
use Rattle.feed_check.specs.Shared.{History, first_touching, histories_of, shared_among, shared_from, touches_key}
use Rattle.feed_check.proofs.SharedLaws.{first-more, least-more}
use Rattle.feed_check.proofs.shared.shared_of.Goals as goal

pub loop-i-preserved : goal.loop-i-preserved
loop-i-preserved c =
    let i : ℕ = c.loop-i.i - 1 in
    let checks = c.args.checks.now in
    let others = row_in c.loop-i.owners in
    let within : i < length checks = omega (arith, c.loop-i-test.true, c.loop-i.invariant.0) in
    let next : c.loop-i.i ≡ i + 1 = omega (arith, c.loop-i-test.true) in
    let best : c.loop-i.best ≡ shared_from (i + 1) (histories_of (drop (i + 1) checks)) =
    subst (λ (n : ℕ). c.loop-i.best ≡ shared_from n (histories_of (drop n checks))) next c.loop-i.invariant.1.0 in
    let first : (key : KeyValue) → others key ≡ first_touching (i + 1) (histories_of (drop (i + 1) checks)) key =
    subst (λ (n : ℕ). (key : KeyValue) → others key ≡ first_touching n (histories_of (drop n checks)) key) next c.loop-i.invariant.1.1 in (
      omega (arith, within),
      (
        least-more checks i c.index-checks-i.result c.loop-i.best c.least_of_groups-best.result others within c.index-checks-i.is
            (c.least_of_groups-best.ensures ∙ ap (λ (history : History). shared_among others i c.loop-i.best (touches_in history)) c.groups.ensures) best first,
        first-more checks i c.index-checks-i-in-loop-i.result others (row_in c.put_owner.new.owners) within c.index-checks-i-in-loop-i.is
            (λ key. c.in_ok-put_owner.ensures key ∙ ap (λ (history : History). owner_after i (touches_key history key) (others key)) c.groups-in-loop-i.ensures) first,
      ),
    )
