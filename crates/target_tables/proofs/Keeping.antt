-- Keeping the last touch of each key, from the end of touches whose keys don't fall.
use Rattle.std.proofs.Common.{◌≡◌, ◌==◌, ◌-◌, ℕ, suc, length, get_or, arith, true, false, cond, List, [], ◌∷◌, ◌++◌, Option, Some, None, Ordering, refl, sym, ap, ◌∙◌}
use mathlib.Core.Bool.{true≢false}
use borrow.Author.Tests.{eqb-false}
use Rattle.std.proofs.lemmas.List.{append-nil, get_or_default}
use Rattle.std.proofs.lemmas.Cmp.{tied_back}
use Rattle.std.specs.declared.cmp.Ordering.TheVariants.{Less, Equal, Greater}
use Rattle.std.specs.Cmp.{IsTotalOrder, Equal-is}
use Rattle.std.specs.List.{AllByRecursion}
use Rattle.std.specs.Option.{option_or}
use Rattle.std.specs.Ordering.{is_eq, is_gt, eq_by_cmp, flip_args}
use Rattle.list_laws.proofs.Choices.{or_none, or_assoc}
use Rattle.target_tables.specs.Rising.{IsRising, NeverFalls, AreAbove}
use Rattle.target_tables.specs.Touches.{last_at, change_at}
use Rattle.target_tables.specs.Kept.{ends_at}
use Rattle.target_tables.proofs.Order.{all_left, all_right, all_join, each_two, before_middle, ordered_left, ordered_with}
use Rattle.target_tables.proofs.Values.{lookup-append}

-- no touch's key is greater than a key that is kept
abbrev pub NoneGreater : {K R : Type 0} → (K → K → Ordering) → List (K × Option R) → List (K × Option R) → Type 0
NoneGreater cmp touches kept = AllByRecursion (λ t. AllByRecursion (λ k. is_gt (cmp t.0 k.0) ≡ false) kept) touches

-- of the touches `all` the last of some keys are kept, by falling key, and the others are left
pub record Keeps {K R : Type 0} (cmp : K → K → Ordering) (all left kept : List (K × Option R)) : Type 0 where
  pub rising : NeverFalls cmp left
  pub falling : IsRising (flip_args cmp) kept
  pub apart : NoneGreater cmp left kept
  pub last : (k : K) → option_or (change_at cmp kept k) (last_at cmp left k) ≡ last_at cmp all k

-- whether the last of them has the key, by its place
pub ends_at-place : {K V : Type 0} (cmp : K → K → Ordering) (k : K) (xs : List (K × V)) (n : ℕ) (x : K × V) → length xs ≡ suc n → x ≡ get_or xs n x → ends_at cmp k xs ≡ is_eq (cmp x.0 k)
ends_at-place cmp k [] n x l is = absurd (omega arith)
ends_at-place {K} {V} cmp k (y ∷ []) n x l is =
    let zero : n ≡ 0 = omega arith in
    ap (λ (z : K × V). is_eq (cmp z.0 k)) (sym (is ∙ ap (λ m. get_or (y ∷ []) m x) zero))
ends_at-place cmp k (y ∷ z ∷ xs) n x l is =
    let above : n ≡ suc (n - 1) = omega arith in
    ends_at-place cmp k (z ∷ xs) (n - 1) x (omega arith) (is ∙ ap (λ m. get_or (y ∷ z ∷ xs) m x) above)

-- the same, by what is read there
pub ends_at-read : {K V : Type 0} (cmp : K → K → Ordering) (k : K) (xs : List (K × V)) (d : K × V) → false ≡ (length xs == 0) → ends_at cmp k xs ≡ is_eq (cmp (get_or xs (length xs - 1) d).0 k)
ends_at-read cmp k xs d h =
    let some : length xs ≡ 0 → ⊥ = eqb-false (length xs) 0 (sym h) in
    ends_at-place cmp k xs (length xs - 1) (get_or xs (length xs - 1) d) (omega arith) (get_or_default xs (length xs - 1) d (get_or xs (length xs - 1) d) (omega arith))

pub last_at-push : {K R : Type 0} (cmp : K → K → Ordering) (xs : List (K × Option R)) (x : K × Option R) (k : K) → last_at cmp (xs ++ x ∷ []) k ≡ option_or (cond (eq_by_cmp cmp k x.0) (Some x.1) None) (last_at cmp xs k)
last_at-push cmp [] x k = sym (or_none (cond (eq_by_cmp cmp k x.0) (Some x.1) None))
last_at-push {R = R} cmp (y ∷ xs) x k =
    ap (λ (v : Option (Option R)). option_or v (cond (eq_by_cmp cmp k y.0) (Some y.1) None)) (last_at-push cmp xs x k)
    ∙ or_assoc (cond (eq_by_cmp cmp k x.0) (Some x.1) None) (last_at cmp xs k) (cond (eq_by_cmp cmp k y.0) (Some y.1) None)

module _ {K : Type 0} {cmp : K → K → Ordering} (o : IsTotalOrder cmp) where
  neither : (t j : K) (r : Ordering) → cmp t j ≡ r → is_gt r ≡ false → is_eq (cmp j t) ≡ false → cmp t j ≡ Less
  neither t j Less e h n = e
  neither t j Equal e h n = absurd (true≢false (sym (ap is_eq (tied_back o t j e)) ∙ n))
  neither t j Greater e h n = absurd (true≢false h)

module _ {K R : Type 0} {cmp : K → K → Ordering} (o : IsTotalOrder cmp) where
  nothing_greater : (xs : List (K × Option R)) → NoneGreater cmp xs []
  nothing_greater [] = tt
  nothing_greater (x ∷ xs) = (tt, nothing_greater xs)

  -- before the first touch is looked at
  pub keeps_none : (all : List (K × Option R)) → NeverFalls cmp all → Keeps cmp all all []
  keeps_none all rising = record { rising = rising; falling = tt; apart = nothing_greater all; last = λ k. refl }

  -- behind the last one
  pub keeps_all : (all kept : List (K × Option R)) → Keeps cmp all [] kept → (k : K) → change_at cmp kept k ≡ last_at cmp all k
  keeps_all all kept h k = sym (or_none (change_at cmp kept k)) ∙ h.last k

  -- a touch whose key isn't the last kept one is less than all that are kept
  less_than_kept : (kept : List (K × Option R)) (t : K × Option R) → IsRising (flip_args cmp) kept → AllByRecursion (λ k. is_gt (cmp t.0 k.0) ≡ false) kept → ends_at cmp t.0 kept ≡ false → AreAbove cmp t.0 kept
  less_than_kept [] t falling h n = tt
  less_than_kept (x ∷ []) t falling h n = (neither o t.0 x.0 (cmp t.0 x.0) refl h.0 n, tt)
  less_than_kept (x ∷ y ∷ kept) t falling h n =
      let rest : AreAbove cmp t.0 (y ∷ kept) = less_than_kept (y ∷ kept) t falling.1 h.1 n in
      (o.trans t.0 y.0 x.0 rest.0 falling.0.0, rest)

  -- the key of the last kept touch is found among them
  found_at_end : (kept : List (K × Option R)) (t k : K) → ends_at cmp t kept ≡ true → cmp k t ≡ Equal → (w : Option (Option R)) → option_or (change_at cmp kept k) w ≡ change_at cmp kept k
  found_at_end [] t k h e w = absurd (true≢false (sym h))
  found_at_end (x ∷ []) t k h e w =
      let is : eq_by_cmp cmp k x.0 ≡ true = ap is_eq (o.congr k t x.0 e ∙ tied_back o x.0 t ((Equal-is (cmp x.0 t)).0 h)) in
      ap (λ b. option_or (cond b (Some x.1) None) w) is ∙ sym (ap (λ b. cond b (Some x.1) None) is)
  found_at_end (x ∷ y ∷ kept) t k h e w =
      elim (eq_by_cmp cmp k x.0) as (λ b. option_or (cond b (Some x.1) (change_at cmp (y ∷ kept) k)) w ≡ cond b (Some x.1) (change_at cmp (y ∷ kept) k)) [ true ↦ refl | false ↦ found_at_end (y ∷ kept) t k h e w ]

  -- a touch of the key that was kept last
  pub keeps_skip : (all left kept : List (K × Option R)) (t : K × Option R) → Keeps cmp all (left ++ t ∷ []) kept → ends_at cmp t.0 kept ≡ true → Keeps cmp all left kept
  keeps_skip all left kept t h ends = record {
    rising = ordered_left (λ a b. is_gt (cmp a b) ≡ false) left (t ∷ []) h.rising;
    falling = h.falling;
    apart = all_left (λ u. AllByRecursion (λ k. is_gt (cmp u.0 k.0) ≡ false) kept) left (t ∷ []) h.apart;
    last = λ k. skipped k (cmp k t.0) refl ∙ h.last k;
  }
    where
      other : (k : K) → eq_by_cmp cmp k t.0 ≡ false → option_or (change_at cmp kept k) (last_at cmp left k) ≡ option_or (change_at cmp kept k) (last_at cmp (left ++ t ∷ []) k)
      other k n = ap (λ (v : Option (Option R)). option_or (change_at cmp kept k) v) (sym (last_at-push cmp left t k ∙ ap (λ b. option_or (cond b (Some t.1) None) (last_at cmp left k)) n))

      skipped : (k : K) (r : Ordering) → cmp k t.0 ≡ r → option_or (change_at cmp kept k) (last_at cmp left k) ≡ option_or (change_at cmp kept k) (last_at cmp (left ++ t ∷ []) k)
      skipped k Less e = other k (ap is_eq e)
      skipped k Equal e = found_at_end kept t.0 k ends e (last_at cmp left k) ∙ sym (found_at_end kept t.0 k ends e (last_at cmp (left ++ t ∷ []) k))
      skipped k Greater e = other k (ap is_eq e)

  -- a touch of another key
  pub keeps_push : (all left kept : List (K × Option R)) (t : K × Option R) → Keeps cmp all (left ++ t ∷ []) kept → ends_at cmp t.0 kept ≡ false → Keeps cmp all left (kept ++ t ∷ [])
  keeps_push all left kept t h ends =
      let NotGreater : K → K → Type 0 = λ a b. is_gt (cmp a b) ≡ false in
      record {
        rising = ordered_left NotGreater left (t ∷ []) h.rising;
        falling = pushed;
        apart = each_two (λ u. AllByRecursion (λ k. is_gt (cmp u.0 k.0) ≡ false) kept) (λ u. is_gt (cmp u.0 t.0) ≡ false) (λ u. AllByRecursion (λ k. is_gt (cmp u.0 k.0) ≡ false) (kept ++ t ∷ []))
            (λ u all_kept new. all_join (λ k. is_gt (cmp u.0 k.0) ≡ false) kept (t ∷ []) all_kept (new, tt)) left
            (all_left (λ u. AllByRecursion (λ k. is_gt (cmp u.0 k.0) ≡ false) kept) left (t ∷ []) h.apart)
            (before_middle NotGreater left t [] h.rising);
        last = λ k. joined k ∙ h.last k;
      }
    where
      own_part : AllByRecursion (λ k. is_gt (cmp t.0 k.0) ≡ false) kept
      own_part = (all_right (λ u. AllByRecursion (λ k. is_gt (cmp u.0 k.0) ≡ false) kept) left (t ∷ []) h.apart).0

      pushed : IsRising (flip_args cmp) (kept ++ t ∷ [])
      pushed = ordered_with (λ a b. flip_args cmp a b ≡ Less) kept t [] (rw append-nil h.falling) (less_than_kept kept t h.falling own_part ends) tt

      joined : (k : K) → option_or (change_at cmp (kept ++ t ∷ []) k) (last_at cmp left k) ≡ option_or (change_at cmp kept k) (last_at cmp (left ++ t ∷ []) k)
      joined k =
          ap (λ (v : Option (Option R)). option_or v (last_at cmp left k)) (lookup-append (eq_by_cmp cmp k) kept (t ∷ []))
          ∙ or_assoc (change_at cmp kept k) (cond (eq_by_cmp cmp k t.0) (Some t.1) None) (last_at cmp left k)
          ∙ ap (λ (v : Option (Option R)). option_or (change_at cmp kept k) v) (sym (last_at-push cmp left t k))

-- one touch more, as a test
pub last_at-snoc : {K R : Type 0} (cmp : K → K → Ordering) (xs : List (K × Option R)) (k q : K) (row : Option R) → last_at cmp (xs ++ (k, row) ∷ []) q ≡ cond (eq_by_cmp cmp q k) (Some row) (last_at cmp xs q)
last_at-snoc cmp xs k q row =
    last_at-push cmp xs (k, row) q
    ∙ (elim (eq_by_cmp cmp q k) as (λ b. option_or (cond b (Some row) None) (last_at cmp xs q) ≡ cond b (Some row) (last_at cmp xs q)) [ true ↦ refl | false ↦ refl ])
