-- Plans with the same tables, from a comparison of each with the first one, and the board of them.
use Rattle.std.proofs.Common.{◌≡◌, ℕ, ◌+◌, ◌<◌, ◌≤◌, ◌⊎◌, inl, inr, List, [], length, map, Some, slice_get, sym, ap, subst, ◌∙◌, arith}
use Rattle.std.proofs.Math.Nat.{eq-or-lt_of_le}
use Rattle.std.proofs.lemmas.Option.{slice_get-map, same_Some, slice_get_within}
use Rattle.std.specs.List.{AllByRecursion}
use Rattle.std.specs.Option.{option_map}
use Rattle.filter_rule.specs.PlanValue.{PlanValue}
use Rattle.filter_rule.specs.WellFormed.{IsPlan}
use Rattle.std.proofs.lemmas.List.{length-map}
use Rattle.board_laws.specs.Meaning.{State, TargetRows}
use Rattle.board_laws.specs.Lawful.{start_of, IsLawful}
use Rattle.board_laws.specs.Laws.{FreshBoardsAreLawful}
use Rattle.apply_core.specs.Fresh.{HaveSameTables}

-- what is read at the front of a list, seen by f
pub front_at : {X Y : Type 0} (f : X → Y) (xs : List X) (x : X) (y : Y) → slice_get xs 0 ≡ Some x → y ≡ f x → slice_get (map f xs) 0 ≡ Some y
front_at f xs x y is seen = slice_get-map f xs 0 ∙ ap (option_map f) is ∙ ap Some (sym seen)

module _ (plans : List PlanValue) (first : PlanValue) where
  -- one plan more has the first one's tables
  pub one-more : (n : ℕ) (plan : PlanValue) → slice_get plans n ≡ Some plan → plan.tables ≡ first.tables
      → ((i : ℕ) (p : PlanValue) → i < n → slice_get plans i ≡ Some p → p.tables ≡ first.tables)
      → (i : ℕ) (p : PlanValue) → i < n + 1 → slice_get plans i ≡ Some p → p.tables ≡ first.tables
  one-more n plan at same so_far i p less e = by (eq-or-lt_of_le (omega (arith, less)))
    where
      by : (i ≡ n) ⊎ (i < n) → p.tables ≡ first.tables
      by (inl is) = let seen : p ≡ plan = same_Some p plan (sym e ∙ ap (slice_get plans) is ∙ at) in ap (λ (x : PlanValue). x.tables) seen ∙ same
      by (inr before) = so_far i p before e

  -- all have the same tables where each has the first one's
  pub all-same : (n : ℕ) → length plans ≤ n → ((i : ℕ) (p : PlanValue) → i < n → slice_get plans i ≡ Some p → p.tables ≡ first.tables) → HaveSameTables plans
  all-same n whole each s t one other e f = at s one e ∙ sym (at t other f)
    where
      at : (i : ℕ) (p : PlanValue) → slice_get plans i ≡ Some p → p.tables ≡ first.tables
      at i p e = let inside : i < length plans = slice_get_within plans i p e in each i p (omega (arith, inside, whole)) e

-- the board of streams that are fresh, and of no rows
pub fresh-board : {X : Type 0} (f : X → PlanValue) → FreshBoardsAreLawful → (xs : List X) → 1 ≤ length xs → length xs ≤ 64 → AllByRecursion IsPlan (map f xs) → HaveSameTables (map f xs)
    → (streams : List State) (rows : TargetRows) → streams ≡ map start_of (map f xs) → rows ≡ []
    → IsLawful (record { streams = streams; rows = rows })
fresh-board f lawful xs some few well same streams rows are none =
    subst (λ (ss : List State). IsLawful (record { streams = ss; rows = rows })) (sym are)
    (subst (λ (rs : TargetRows). IsLawful (record { streams = map start_of (map f xs); rows = rs })) (sym none)
    (lawful (map f xs) (subst (λ n. 1 ≤ n) (sym (length-map xs f)) some) (subst (λ n. n ≤ 64) (sym (length-map xs f)) few) well same))
