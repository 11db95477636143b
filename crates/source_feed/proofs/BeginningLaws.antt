-- The first groups of a feed are a feed.
use Rattle.std.proofs.Common.{◌≡◌, ◌≤◌, ℕ, zero, suc, List, [], ◌∷◌, length, take, Some, arith}
use Rattle.std.specs.Prelude.{slice_get}
use Rattle.list_laws.proofs.Places.{slice_get-take}
use Rattle.source_feed.specs.Planned.{PlannedGroupValue, FeedValue, IsFeed}

no_longer : {A : Type 0} (n : ℕ) (xs : List A) → length (take n xs) ≤ length xs
no_longer zero xs = omega arith
no_longer (suc n) [] = omega arith
no_longer (suc n) (x ∷ xs) = omega (arith, no_longer n xs)

pub beginning_is_feed : (feed : FeedValue) (n : ℕ) → IsFeed feed → IsFeed (record { plan = feed.plan; groups = take n feed.groups })
beginning_is_feed feed n is =
    let groups : List PlannedGroupValue = feed.groups in
    let there : (i : ℕ) (group : PlannedGroupValue) → slice_get (take n groups) i ≡ Some group → slice_get groups i ≡ Some group = slice_get-take n groups in
    record {
      plan = is.plan;
      order = record {
        numbered = λ i group at. is.order.numbered i group (there i group at);
        canonical = λ i group at. is.order.canonical i group (there i group at);
        from_empty = λ i group at. is.order.from_empty i group (there i group at);
        growing = λ i j earlier later before one other. is.order.growing i j earlier later before (there i earlier one) (there j later other);
      };
      few = omega (arith, is.few, no_longer n groups);
      changes = λ i j group change at. is.changes i j group change (there i group at);
    }
