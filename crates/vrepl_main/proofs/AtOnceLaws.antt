-- Feeds that were opened each by itself, put together in order.
use Rattle.std.proofs.Common.{◌≡◌, ◌∙◌, ap, subst, refl, arith, inl, inr, ℕ, ◌+◌, ◌<◌, ◌≤◌, List, [], ◌∷◌, ◌++◌, length, drop, get_or, append-nil, Option, None, Some, Result, Ok, Err}
use Rattle.std.specs.Prelude.{◌⊎◌, slice_get}
use Rattle.std.proofs.lemmas.List.{drop_more, drop_all}
use Rattle.std.proofs.lemmas.Option.{slice_get_within, slice_get_read, get_or_from_slice_get, slice_get_cases}
use Rattle.filter_rule.specs.PlanValue.{PlanValue}
use Rattle.source_feed.specs.Planned.{FeedValue}
use Rattle.vrepl_main.specs.declared.refusal.CommandRefusal.{CommandRefusal}
use Rattle.vrepl_main.specs.Reasons.{GivesOfInputs, RefusesInputs}
use Rattle.vrepl_main.specs.Opening.{opened_feed, opened_feeds}
use Rattle.vrepl_main.specs.OpenedFeeds.{AreTried, as_opened}
use Rattle.source_feed.specs.declared.fault.FeedFault.{FeedFault}
use Rattle.vrepl_main.proofs.OpenLaws.{in_front, in_front-none, one_more, none_more, RefusesInputs-whole}

-- what stands at a place within
there : {X : Type 0} (xs : List X) (i : ℕ) → i < length xs → (x : X) × (slice_get xs i ≡ Some x)
there {X} xs i less = found (slice_get_cases xs i).1
  where
    found : ((x : X) × (i < length xs) × (slice_get xs i ≡ Some x) × (get_or xs i x ≡ x)) ⊎ ((length xs ≤ i) × (slice_get xs i ≡ None)) → (x : X) × (slice_get xs i ≡ Some x)
    found (inl (x, within, is, at)) = (x, is)
    found (inr (past, is)) = absurd (omega (arith, less, past))

from : {X : Type 0} (xs : List X) (i : ℕ) (x : X) → slice_get xs i ≡ Some x → drop i xs ≡ x ∷ drop (i + 1) xs
from {X} xs i x is = drop_more xs i x (slice_get_within xs i x is) ∙ ap (λ (y : X). y ∷ drop (i + 1) xs) (get_or_from_slice_get xs i x x is)

module _ (plans : List PlanValue) (given : List (Option (List ℕ))) where
  -- the feeds so far stand in front of those still to come
  abbrev pub IsSoFar : List FeedValue → ℕ → Type 0
  IsSoFar front n = opened_feeds plans given ≡ in_front front (opened_feeds (drop n plans) (drop n given))

  pub none_yet : (front : List FeedValue) → front ≡ [] → IsSoFar front 0
  none_yet front none = rw none (in_front-none (opened_feeds plans given))

  behind : (n : ℕ) (plan : PlanValue) (bytes : Option (List ℕ)) → slice_get plans n ≡ Some plan → slice_get given n ≡ Some bytes
      → opened_feeds (drop n plans) (drop n given) ≡ opened_feeds (plan ∷ drop (n + 1) plans) (bytes ∷ drop (n + 1) given)
  behind n plan bytes at_plan at_bytes =
      ap (λ (ps : List PlanValue). opened_feeds ps (drop n given)) (from plans n plan at_plan)
      ∙ ap (λ (gs : List (Option (List ℕ))). opened_feeds (plan ∷ drop (n + 1) plans) gs) (from given n bytes at_bytes)

  module _ (same : length plans ≡ length given) (tried : List (Result (Option FeedValue) FeedFault)) (are : AreTried plans given tried) (n : ℕ) (front : List FeedValue) (so_far : IsSoFar front n) where
    module _ (one : Result (Option FeedValue) FeedFault) (less : n < length tried) (is : one ≡ get_or tried n one) where
      -- one more is opened
      pub moves_on : (feed : FeedValue) → as_opened one ≡ Ok feed → IsSoFar (front ++ feed ∷ []) (n + 1)
      moves_on feed opened =
          let p = there plans n (omega (arith, less, are.many)) in
          let b = there given n (omega (arith, less, are.many, same)) in
          let gives = are.each n one (slice_get_read tried (length tried) n one refl less is) p.0 b.0 p.1 b.1 in
          let opens : opened_feed p.0 b.0 ≡ Ok feed = subst (λ (r : Result FeedValue CommandRefusal). GivesOfInputs {X = FeedValue} {Y = FeedValue} (λ f. f) r (opened_feed p.0 b.0)) opened gives in
          so_far ∙ ap (in_front front) (behind n p.0 b.0 p.1 b.1) ∙ one_more front feed p.0 b.0 (drop (n + 1) plans) (drop (n + 1) given) opens

      -- one is refused, and is the first
      pub stops_there : (refusal : CommandRefusal) → as_opened one ≡ Err refusal → RefusesInputs refusal (opened_feeds plans given)
      stops_there refusal refused =
          let p = there plans n (omega (arith, less, are.many)) in
          let b = there given n (omega (arith, less, are.many, same)) in
          let gives = are.each n one (slice_get_read tried (length tried) n one refl less is) p.0 b.0 p.1 b.1 in
          let bad : RefusesInputs refusal (opened_feed p.0 b.0) = subst (λ (r : Result FeedValue CommandRefusal). GivesOfInputs {X = FeedValue} {Y = FeedValue} (λ f. f) r (opened_feed p.0 b.0)) refused gives in
          RefusesInputs-whole refusal (opened_feed p.0 b.0) (opened_feeds plans given)
          (λ reason e. so_far ∙ ap (in_front front) (behind n p.0 b.0 p.1 b.1) ∙ none_more front reason p.0 b.0 (drop (n + 1) plans) (drop (n + 1) given) e) bad

    -- all are opened
    pub all_open : length tried ≤ n → opened_feeds plans given ≡ Ok front
    all_open past =
        so_far ∙ ap (λ (ps : List PlanValue). in_front front (opened_feeds ps (drop n given))) (drop_all n plans (omega (arith, past, are.many))) ∙ ap Ok (append-nil front)
