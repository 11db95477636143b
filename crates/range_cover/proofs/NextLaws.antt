-- The next start or end of a range behind an id: up to it all ids have the same holders.
use Rattle.std.proofs.Common.{◌≡◌, ◌⊎◌, inl, inr, ℕ, ◌+◌, ◌<◌, ◌≤◌, Bool, true, false, ◌&&◌, not, List, [], ◌∷◌, Option, None, Some, refl, sym, ◌∙◌, ap, ap₂, arith, cond}
use Rattle.std.specs.Cmp.Lexicographic.{slice_cmp}
use Rattle.std.specs.Ordering.{nat_cmp, is_le}
use Rattle.vindex.specs.Bounds.{is_below}
use Rattle.range_cover.specs.Cover.{ShareValue, holders_of}
use Rattle.range_cover.specs.Private.Next.{is_less, is_nearer, nearer, nearer_end, next_from}
use Rattle.range_cover.proofs.Orders.{le-is, less-trans, less-upto, upto-upto, never_less}

and-true : (a b : Bool) → (a && b) ≡ true → (a ≡ true) × (b ≡ true)
and-true true true h = (refl, refl)
and-true true false h = cc
and-true false b h = cc

-- the nearer of two is the bound, which then lies behind the id and before the best, or else the best
by_nearer : (P : Option (List ℕ) → Type 0) (p bound : List ℕ) (best : Option (List ℕ))
    → (is_less p bound ≡ true → is_below best bound ≡ true → P (Some bound)) → (is_nearer p bound best ≡ false → P best) → P (nearer p bound best)
by_nearer P p bound best met unmet =
    elim (is_nearer p bound best) as (λ t. is_nearer p bound best ≡ t → P (cond t (Some bound) best)) [
      | true ↦ λ is. let both = and-true (is_less p bound) (is_below best bound) is in met both.0 both.1
      | false ↦ λ is. unmet is
    ] refl

below-less : (best : Option (List ℕ)) (bound id : List ℕ) → is_below best bound ≡ true → is_less id bound ≡ true → is_below best id ≡ true
below-less None bound id below less = refl
below-less (Some known) bound id below less = less-trans id bound known less below

-- what lies before the nearer of two lies before the best
nearer-before : (p bound : List ℕ) (best : Option (List ℕ)) (id : List ℕ) → is_below (nearer p bound best) id ≡ true → is_below best id ≡ true
nearer-before p bound best id =
    by_nearer (λ found. is_below found id ≡ true → is_below best id ≡ true) p bound best (λ less before below. below-less best bound id before below) (λ _ below. below)

-- a bound behind the first id lies behind each id before the nearer of two
not_before : (p bound : List ℕ) (best : Option (List ℕ)) (id : List ℕ) → is_nearer p bound best ≡ false → is_less p bound ≡ true → is_below best id ≡ true → is_less id bound ≡ true
not_before p bound None id far behind below = let nearer_is : is_nearer p bound None ≡ true = rw behind refl in absurd (cc)
not_before p bound (Some known) id far behind below =
    let upto : is_less bound known ≡ false = rw behind at far in
    less-upto id known bound below upto

nearer-bound : (p bound : List ℕ) (best : Option (List ℕ)) (id : List ℕ) → is_below (nearer p bound best) id ≡ true → is_less p bound ≡ true → is_less id bound ≡ true
nearer-bound p bound best id =
    by_nearer (λ found. is_below found id ≡ true → is_less p bound ≡ true → is_less id bound ≡ true) p bound best (λ _ _ below _. below) (λ far below behind. not_before p bound best id far behind below)

-- the nearer of two lies behind the id, where the best does
nearer-behind : (p bound : List ℕ) (best : Option (List ℕ)) → is_below best p ≡ true → is_below (nearer p bound best) p ≡ true
nearer-behind p bound best =
    by_nearer (λ found. is_below best p ≡ true → is_below found p ≡ true) p bound best (λ less _ _. less) (λ _ behind. behind)

-- the nearer of two is one of them
nearer-one : (p bound : List ℕ) (best : Option (List ℕ)) (q : List ℕ) → nearer p bound best ≡ Some q → (bound ≡ q) ⊎ (best ≡ Some q)
nearer-one p bound best q =
    by_nearer (λ found. found ≡ Some q → (bound ≡ q) ⊎ (best ≡ Some q)) p bound best (λ _ _ is. inl (cc)) (λ _ is. inr is)

-- the same of an end

end-before : (p : List ℕ) (end best : Option (List ℕ)) (id : List ℕ) → is_below (nearer_end p end best) id ≡ true → is_below best id ≡ true
end-before p None best id below = below
end-before p (Some end) best id below = nearer-before p end best id below

end-bound : (p : List ℕ) (end best : Option (List ℕ)) (id : List ℕ) → is_below (nearer_end p end best) id ≡ true → is_below end p ≡ true → is_below end id ≡ true
end-bound p None best id below behind = refl
end-bound p (Some end) best id below behind = nearer-bound p end best id below behind

end-behind : (p : List ℕ) (end best : Option (List ℕ)) → is_below best p ≡ true → is_below (nearer_end p end best) p ≡ true
end-behind p None best behind = behind
end-behind p (Some end) best behind = nearer-behind p end best behind

end-one : (p : List ℕ) (end best : Option (List ℕ)) (q : List ℕ) → nearer_end p end best ≡ Some q → (end ≡ Some q) ⊎ (best ≡ Some q)
end-one p None best q is = inr is
end-one p (Some end) best q is = elim (nearer-one p end best q is) [
  | inl one ↦ inl (ap Some one)
  | inr other ↦ inr other
]

-- all ranges

pub next-before : (p : List ℕ) (shares : List ShareValue) (best : Option (List ℕ)) (id : List ℕ) → is_below (next_from p shares best) id ≡ true → is_below best id ≡ true
next-before p [] best id below = below
next-before p (share ∷ shares) best id below =
    nearer-before p share.range.start best id
    (end-before p share.range.end (nearer p share.range.start best) id
    (next-before p shares (nearer_end p share.range.end (nearer p share.range.start best)) id below))

pub next-behind : (p : List ℕ) (shares : List ShareValue) (best : Option (List ℕ)) → is_below best p ≡ true → is_below (next_from p shares best) p ≡ true
next-behind p [] best behind = behind
next-behind p (share ∷ shares) best behind =
    next-behind p shares (nearer_end p share.range.end (nearer p share.range.start best))
    (end-behind p share.range.end (nearer p share.range.start best) (nearer-behind p share.range.start best behind))

-- two tests of which the one gives the other, and the failed one gives the failed other
alike : (a b : Bool) → (b ≡ true → a ≡ true) → (b ≡ false → a ≡ false) → a ≡ b
alike a b met unmet = elim b as (λ t. (t ≡ true → a ≡ true) → (t ≡ false → a ≡ false) → a ≡ t) [
  | true ↦ λ holds _. holds refl
  | false ↦ λ _ fails. fails refl
] met unmet

same_start : (start p id : List ℕ) → is_less id p ≡ false → (is_less p start ≡ true → is_less id start ≡ true) → is_le (slice_cmp nat_cmp start id) ≡ is_le (slice_cmp nat_cmp start p)
same_start start p id upto bound =
    le-is start id ∙ ap not (alike (is_less id start) (is_less p start) bound (λ before. upto-upto start p id before upto)) ∙ sym (le-is start p)

same_end : (end : Option (List ℕ)) (p id : List ℕ) → is_less id p ≡ false → (is_below end p ≡ true → is_below end id ≡ true) → is_below end id ≡ is_below end p
same_end None p id upto bound = refl
same_end (Some end) p id upto bound = alike (is_less id end) (is_less p end) bound (λ before. upto-upto end p id before upto)

-- an id from another on, and before the next start or end, is in the same ranges
pub next-same : (p : List ℕ) (shares : List ShareValue) (best : Option (List ℕ)) (id : List ℕ) → is_below (next_from p shares best) id ≡ true → is_less id p ≡ false → holders_of shares id ≡ holders_of shares p
next-same p [] best id below upto = refl
next-same p (share ∷ shares) best id below upto =
    let first : Option (List ℕ) = nearer p share.range.start best in
    let second : Option (List ℕ) = nearer_end p share.range.end first in
    let second_below : is_below second id ≡ true = next-before p shares second id below in
    let first_below : is_below first id ≡ true = end-before p share.range.end first id second_below in
    let start = same_start share.range.start p id upto (nearer-bound p share.range.start best id first_below) in
    let end = same_end share.range.end p id upto (end-bound p share.range.end first id second_below) in
    let rest : holders_of shares id ≡ holders_of shares p = next-same p shares second id below upto in
    ap₂ (λ (has : Bool) (holders : List ℕ). cond has (share.holder ∷ holders) holders) (ap₂ (λ (a b : Bool). a && b) start end) rest

-- how many starts and ends lie behind an id

abbrev one : Bool → ℕ
one true = 1
one false = 0

abbrev one_end : List ℕ → Option (List ℕ) → ℕ
one_end p None = 0
one_end p (Some end) = one (is_less p end)

pub above : List ℕ → List ShareValue → ℕ
above p [] = 0
above p (share ∷ shares) = one (is_less p share.range.start) + one_end p share.range.end + above p shares

one-shrinks : (p q bound : List ℕ) → is_less p q ≡ true → one (is_less q bound) ≤ one (is_less p bound)
one-shrinks p q bound less =
    elim (is_less q bound) as (λ t. is_less q bound ≡ t → one t ≤ one (is_less p bound)) [
      | false ↦ λ is. omega arith
      | true ↦ λ is. rw (less-trans p q bound less is) (omega arith)
    ] refl

one_end-shrinks : (p q : List ℕ) (end : Option (List ℕ)) → is_less p q ≡ true → one_end q end ≤ one_end p end
one_end-shrinks p q None less = omega arith
one_end-shrinks p q (Some end) less = one-shrinks p q end less

above-shrinks : (p q : List ℕ) (shares : List ShareValue) → is_less p q ≡ true → above q shares ≤ above p shares
unfolding above
above-shrinks p q [] less = omega arith
above-shrinks p q (share ∷ shares) less =
    omega (arith, one-shrinks p q share.range.start less, one_end-shrinks p q share.range.end less, above-shrinks p q shares less)

one-less : (p q bound : List ℕ) → is_less p q ≡ true → bound ≡ q → one (is_less q bound) < one (is_less p bound)
one-less p q bound less is = rw (is, less, never_less q) (omega arith)

one_end-less : (p q : List ℕ) (end : Option (List ℕ)) → is_less p q ≡ true → end ≡ Some q → one_end q end < one_end p end
one_end-less p q None less is = cc
one_end-less p q (Some end) less is = one-less p q end less (cc)

-- behind the next start or end of a range there are fewer
pub next-shrinks : (p : List ℕ) (shares : List ShareValue) (best : Option (List ℕ)) (q : List ℕ) → is_less p q ≡ true → next_from p shares best ≡ Some q → (best ≡ Some q) ⊎ (above q shares < above p shares)
unfolding above
next-shrinks p [] best q less is = inl is
next-shrinks p (share ∷ shares) best q less is =
    let first : Option (List ℕ) = nearer p share.range.start best in
    let second : Option (List ℕ) = nearer_end p share.range.end first in
    let start = one-shrinks p q share.range.start less in
    let end = one_end-shrinks p q share.range.end less in
    let rest = above-shrinks p q shares less in
    elim (next-shrinks p shares second q less is) [
      | inr fewer ↦ inr (omega (arith, start, end, fewer))
      | inl here ↦ elim (end-one p share.range.end first q here) [
        | inl at_end ↦ inr (omega (arith, start, one_end-less p q share.range.end less at_end, rest))
        | inr before ↦ elim (nearer-one p share.range.start best q before) [
          | inl at_start ↦ inr (omega (arith, one-less p q share.range.start less at_start, end, rest))
          | inr known ↦ inl known
        ]
      ]
    ]
