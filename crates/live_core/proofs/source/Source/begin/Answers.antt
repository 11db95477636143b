use Rattle.std.proofs.Common.{◌≡◌, ℕ, List, ◌++◌, None, Bor, subst}
use Rattle.std.specs.List.{flat_map}
use Rattle.filter_rule.specs.PlanValue.{PlanValue}
use Rattle.source_feed.specs.Growing.{fault_so_far}
use Rattle.live_core.proofs.source.Source.begin.Goals as goal

pub returns-clause-sound : goal.returns-clause-sound
returns-clause-sound c =
    let bytes : List ℕ = c.args.bytes.now in
    subst (λ (plan : PlanValue). fault_so_far plan bytes ≡ None) c.in_ok-feed.ensures.plan
    (subst (λ (items : List (Bor (List ℕ))). fault_so_far c.in_ok-feed.feed.plan (flat_map (λ p. p.now) items ++ bytes) ≡ None) c.new-pieces.ensures.items c.in_ok-grow.ensures.sound)
