-- The groups of a feed at positions.
use Rattle.std.proofs.Common.{◌≡◌, ℕ, zero, suc, ◌+◌, ◌<◌, ◌≤◌, inl, inr, [], length, Some, None, slice_get, sym, ap, subst, ◌∙◌, arith}
use Rattle.std.proofs.lemmas.Bool.{cases_lt}
use Rattle.std.proofs.lemmas.Option.{none-some, slice_get_within}
use Rattle.std.specs.Option.{option_map}
use Rattle.gtid_set.specs.Position.{IsWithin}
use Rattle.source_feed.specs.GroupValue.{Position}
use Rattle.source_feed.specs.Planned.{PlannedGroupValue, FeedValue, IsFeed}
use Rattle.source_feed.specs.Positions.{HasGroupAt, IsNumberAt}
use Rattle.source_feed.specs.Touches.{group_at}

-- ---- none at a position

abbrev position_of : PlannedGroupValue → Position
position_of group = group.position

pub no_group : (feed : FeedValue) (position : Position) (number : ℕ) → None ≡ option_map (λ (group : PlannedGroupValue). group.position) (group_at feed number) → ¬ HasGroupAt feed position number
no_group feed position number is has = none-some has.group.position (is ∙ ap (option_map position_of) has.there)

-- none of the first groups has this position
abbrev pub NoneUpTo : FeedValue → Position → ℕ → Type 0
NoneUpTo feed position i = (j : ℕ) → j < i → ¬ HasGroupAt feed position (j + 1)

pub one_more : (feed : FeedValue) (position : Position) (i : ℕ) → NoneUpTo feed position i → ¬ HasGroupAt feed position (i + 1) → NoneUpTo feed position (i + 1)
one_more feed position i before here j less has = elim (cases_lt j i) [
  | inl earlier ↦ before j earlier has
  | inr behind ↦ (
      let is : j ≡ i = omega (arith, less, behind) in
      here (subst (λ (n : ℕ). HasGroupAt feed position (n + 1)) is has)
      )
]

pub none_at_all : (feed : FeedValue) (position : Position) (i : ℕ) → length feed.groups ≤ i → NoneUpTo feed position i → ¬ (position ≡ []) → (number : ℕ) → ¬ IsNumberAt feed position number
none_at_all feed position i most none filled number (inl empty) = filled empty.0
none_at_all feed position i most none filled zero (inr has) = none-some has.group has.there
none_at_all feed position i most none filled (suc j) (inr has) =
    let inside : j < length feed.groups = slice_get_within feed.groups j has.group has.there in
    let next : suc j ≡ j + 1 = omega arith in
    none j (omega (arith, inside, most)) (subst (HasGroupAt feed position) next has)

-- ---- one number at a position

within_itself : (p q : Position) → p ≡ q → IsWithin p q
within_itself p q e = subst (IsWithin p) e (λ uuid number held. held)

one_place : (feed : FeedValue) (whole : IsFeed feed) (i j : ℕ) (x y : PlannedGroupValue) → slice_get feed.groups i ≡ Some x → slice_get feed.groups j ≡ Some y → x.position ≡ y.position → i ≡ j
one_place feed whole i j x y p q same = elim (cases_lt i j) [
  | inl less ↦ absurd ((whole.order.growing i j x y less p q).1 (within_itself y.position x.position (sym same)))
  | inr most ↦ elim (cases_lt j i) [
    | inl less ↦ absurd ((whole.order.growing j i y x less q p).1 (within_itself x.position y.position same))
    | inr least ↦ omega (arith, most, least)
  ]
]

none_empty : {P : Type 0} (feed : FeedValue) (whole : IsFeed feed) (position : Position) (n : ℕ) → position ≡ [] → HasGroupAt feed position n → P
none_empty feed whole position zero none has = let clash : None ≡ Some has.group = has.there in absurd (none-some has.group clash)
none_empty feed whole position (suc i) none has = absurd ((whole.order.from_empty i has.group has.there).1 (within_itself has.group.position [] (has.at ∙ none)))

same_place : (feed : FeedValue) (whole : IsFeed feed) (position : Position) (a b : ℕ) → HasGroupAt feed position a → HasGroupAt feed position b → a ≡ b
same_place feed whole position zero b p q = let clash : None ≡ Some p.group = p.there in absurd (none-some p.group clash)
same_place feed whole position (suc i) zero p q = let clash : None ≡ Some q.group = q.there in absurd (none-some q.group clash)
same_place feed whole position (suc i) (suc j) p q = ap suc (one_place feed whole i j p.group q.group p.there q.there (p.at ∙ sym q.at))

pub one_number : (feed : FeedValue) (whole : IsFeed feed) (position : Position) (a b : ℕ) → IsNumberAt feed position a → IsNumberAt feed position b → a ≡ b
one_number feed whole position a b (inl p) (inl q) = p.1 ∙ sym q.1
one_number feed whole position a b (inl p) (inr q) = none_empty feed whole position b p.0 q
one_number feed whole position a b (inr p) (inl q) = none_empty feed whole position a q.0 p
one_number feed whole position a b (inr p) (inr q) = same_place feed whole position a b p q
