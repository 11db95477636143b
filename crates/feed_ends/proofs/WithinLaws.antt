-- Groups that lie within a position.
use Rattle.std.proofs.Common.{◌≡◌, ◌∙◌, ◌↔◌, ℕ, suc, ◌+◌, ◌-◌, ◌<◌, ◌≤◌, inl, inr, Bool, true, false, List, [], ◌∷◌, length, Option, None, Some, refl, sym, subst, arith}
use Rattle.std.specs.Prelude.{IsTrue, cond, filter, option_map, slice_get}
use Rattle.std.specs.Option.{option_map_or}
use Rattle.std.proofs.lemmas.Bool.{cases_lt, false≢true}
use Rattle.std.proofs.lemmas.Option.{none-some, same_Some, slice_get_within}
use Rattle.list_laws.proofs.Places.{place_of}
use Rattle.gtid_set.specs.declared.interval.Interval.{Interval}
use Rattle.gtid_set.specs.Position.{IsCanonical, IsWithin, within_of}
use Rattle.source_feed.specs.GroupValue.{Position}
use Rattle.source_feed.specs.Planned.{PlannedGroupValue, FeedValue, IsFeed}
use Rattle.source_feed.specs.Touches.{group_at}
use Rattle.feed_ends.specs.AtPosition.{IsLastWithin, end_position, lies_within, number_within}
use Rattle.feed_ends.specs.Private.Within.{HasGroupWithin}

abbrev position_of : PlannedGroupValue → Position
position_of group = group.position

-- the empty set holds the empty set alone
pub within_nothing : (p : Position) (b : Bool) → IsTrue b ↔ (p ≡ []) → b ≡ within_of p []
within_nothing [] true is = refl
within_nothing [] false is = absurd (false≢true (is.1 refl))
within_nothing (i ∷ p) true is = let e : (i ∷ p) ≡ [] = is.0 refl in cc
within_nothing (i ∷ p) false is = refl

-- a feed that has no last group has the empty set behind it
pub no_end : (feed : FeedValue) (number : ℕ) → number ≡ length feed.groups → None ≡ option_map (λ (group : PlannedGroupValue). group.position) (group_at feed number) → end_position feed ≡ []
no_end feed number is none = by (group_at feed (length feed.groups)) (subst (λ (n : ℕ). None ≡ option_map position_of (group_at feed n)) is none)
  where
    by : (o : Option PlannedGroupValue) → None ≡ option_map position_of o → option_map_or position_of o [] ≡ []
    by None e = refl
    by (Some group) e = absurd (none-some group.position e)

-- ---- the first groups

-- each of the first so many lies within the position
abbrev pub AllWithin : FeedValue → Position → ℕ → Type 0
AllWithin feed position i = (j : ℕ) (group : PlannedGroupValue) → j < i → slice_get feed.groups j ≡ Some group → IsWithin group.position position

pub none_yet : (feed : FeedValue) (position : Position) → AllWithin feed position 0
none_yet feed position j group less at = absurd (omega (arith, less))

pub one_more : (feed : FeedValue) (position : Position) (i : ℕ) → AllWithin feed position i → HasGroupWithin feed position (i + 1) → AllWithin feed position (i + 1)
one_more feed position i before has j group less at = elim (cases_lt j i) [
  | inl earlier ↦ before j group earlier at
  | inr behind ↦ (
      let next : i + 1 ≡ suc j = omega (arith, less, behind) in
      let here : HasGroupWithin feed position (suc j) = subst (HasGroupWithin feed position) next has in
      subst (λ (g : PlannedGroupValue). IsWithin g.position position) (same_Some here.group group (sym here.there ∙ at)) here.within
      )
]

-- the group at a place as that of a number
at_number : (feed : FeedValue) (position : Position) (i : ℕ) (group : PlannedGroupValue) → slice_get feed.groups i ≡ Some group → IsWithin group.position position → HasGroupWithin feed position (i + 1)
at_number feed position i group at within =
    let next : suc i ≡ i + 1 = omega arith in
    let here : HasGroupWithin feed position (suc i) = record { group = group; there = at; within = within } in
    subst (HasGroupWithin feed position) next here

-- behind one that doesn't lie within the position none does
beyond : (feed : FeedValue) (whole : IsFeed feed) (position : Position) (i : ℕ) → ¬ HasGroupWithin feed position (i + 1) → (j : ℕ) (group : PlannedGroupValue) → i ≤ j → slice_get feed.groups j ≡ Some group
    → ¬ IsWithin group.position position
beyond feed whole position i none j group least at within = elim (cases_lt i j) [
  | inl less ↦ (
      let inside : j < length feed.groups = slice_get_within feed.groups j group at in
      let here = place_of feed.groups i (omega (arith, less, inside)) in
      let grows : IsWithin here.0.position group.position = (whole.order.growing i j here.0 group less here.1 at).0 in
      none (at_number feed position i here.0 here.1 (λ uuid number held. within uuid number (grows uuid number held)))
      )
  | inr most ↦ (
      let same : j ≡ i = omega (arith, least, most) in
      none (subst (λ (k : ℕ). HasGroupWithin feed position (k + 1)) same (at_number feed position j group at within))
      )
]

pub stops : (feed : FeedValue) (whole : IsFeed feed) (position : Position) (i : ℕ) → i ≤ length feed.groups → AllWithin feed position i → ¬ HasGroupWithin feed position (i + 1) → IsLastWithin position feed i
stops feed whole position i there all none = record {
  there = there;
  each = λ j group at. (
    λ within. elim (cases_lt j i) [
      | inl less ↦ less
      | inr behind ↦ absurd (beyond feed whole position i none j group behind at within)
    ],
    λ less. all j group less at,
  );
}

pub all_there : (feed : FeedValue) (position : Position) (i : ℕ) → i ≡ length feed.groups → AllWithin feed position i → IsLastWithin position feed i
all_there feed position i is all = record {
  there = omega (arith, is);
  each = λ j group at. (
    λ within. let inside : j < length feed.groups = slice_get_within feed.groups j group at in omega (arith, inside, is),
    λ less. all j group less at,
  );
}

-- ---- how many there are

-- where just the first so many pass, that many do
count_front : {A : Type 0} (p : A → Bool) (xs : List A) (n : ℕ) → n ≤ length xs → ((i : ℕ) (x : A) → slice_get xs i ≡ Some x → (p x ≡ true) ↔ (i < n)) → length (filter p xs) ≡ n
count_front p [] n most just = omega (arith, most)
count_front {A} p (x ∷ xs) n most just = by (p x) refl (λ m few same. count_front p xs m few same)
  where
    by : (b : Bool) → p x ≡ b → ((m : ℕ) → m ≤ length xs → ((i : ℕ) (y : A) → slice_get xs i ≡ Some y → (p y ≡ true) ↔ (i < m)) → length (filter p xs) ≡ m) → length (cond b (x ∷ filter p xs) (filter p xs)) ≡ n
    by true e rest =
        let some : 0 < n = (just 0 x refl).0 e in
        let count : length (filter p xs) ≡ n - 1 =
        rest (n - 1) (omega (arith, most, some))
        (λ i y at. (
          λ yes. let less : suc i < n = (just (suc i) y at).0 yes in omega (arith, less),
          λ less. (just (suc i) y at).1 (omega (arith, less, some)),
        )) in
        omega (arith, count, some)
    by false e rest = elim (cases_lt 0 n) [
      | inl some ↦ absurd (false≢true (sym e ∙ (just 0 x refl).1 some))
      | inr none ↦ (
          let count : length (filter p xs) ≡ 0 =
          rest 0 (omega arith)
          (λ i y at. (
            λ yes. let less : suc i < n = (just (suc i) y at).0 yes in absurd (omega (arith, less, none)),
            λ less. absurd (omega (arith, less)),
          )) in
          omega (arith, count, none)
          )
    ]

-- subset as it is computed
abbrev pub WithinIsSubset : Type 0
WithinIsSubset = (a b : List Interval) → IsCanonical a → IsCanonical b → IsTrue (within_of a b) ↔ IsWithin a b

pub counted : WithinIsSubset → (feed : FeedValue) (whole : IsFeed feed) (position : Position) → IsCanonical position → (n : ℕ) → IsLastWithin position feed n → n ≡ number_within position feed
counted law feed whole position canonical n last =
    sym (count_front (lies_within position) feed.groups n last.there
    (λ i group at. let both = law group.position position (whole.order.canonical i group at) canonical in (
      λ yes. (last.each i group at).0 (both.0 yes),
      λ less. both.1 ((last.each i group at).1 less),
    )))

-- ---- a feed that was ended
