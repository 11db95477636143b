-- What a stream's touch does to its own row at a key, and to the rows of others.
use Rattle.std.proofs.Common.{◌≡◌, ◌≢◌, ◌==◌, ℕ, Bool, true, false, cond, Option, Some, None, refl, sym, ap, ◌∙◌}
use Rattle.std.proofs.lemmas.Bool.{ne_eqb}
use borrow.Author.Tests.{eq-eqb, eqb-true}
use Rattle.std.specs.Prelude.{unwrap_or}
use Rattle.std.specs.Option.{option_map}
use Rattle.source_feed.specs.History.{RowValue}
use Rattle.target_tables.specs.Touches.{touched, owner_in_the_way}
use Rattle.board_laws.specs.Cut.{own_row}

-- a touch leaves the stream's own row, or what it was
pub own-touched : (s : ℕ) (touch : Option (Option RowValue)) (there : Option (ℕ × RowValue)) → own_row s (touched s touch there) ≡ unwrap_or touch (own_row s there)
own-touched s None there = refl
own-touched s (Some (Some row)) there = ap (λ b. cond b (Some row) None) (eq-eqb s s refl)
own-touched s (Some None) None = refl
own-touched s (Some None) (Some there) = by (there.0 == s) refl
  where
    by : (b : Bool) → (there.0 == s) ≡ b → own_row s (cond (there.0 == s) None (Some there)) ≡ None
    by true e = ap (λ b. own_row s (cond b None (Some there))) e
    by false e = ap (λ b. own_row s (cond b None (Some there))) e ∙ ap (λ b. cond b (Some there.1) None) e

-- a row of one stream isn't another's
pub not-own : (s t : ℕ) (there : ℕ × RowValue) → t ≢ s → (there.0 == s) ≡ true → own_row t (Some there) ≡ None
not-own s t there other e = ap (λ b. cond b (Some there.1) None) (ne_eqb there.0 t (λ same. other (sym same ∙ eqb-true there.0 s e)))

-- where no row of another stream is in the way, a touch leaves other streams their rows
pub other-touched : (s t : ℕ) (touch : Option (Option RowValue)) (there : Option (ℕ × RowValue)) → t ≢ s → owner_in_the_way s touch there ≡ None → own_row t (touched s touch there) ≡ own_row t there
other-touched s t None there other clear = refl
other-touched s t (Some (Some row)) there other clear = not-own s t (s, row) other (eq-eqb s s refl) ∙ sym (before there clear)
  where
    before : (there : Option (ℕ × RowValue)) → owner_in_the_way s (Some (Some row)) there ≡ None → own_row t there ≡ None
    before None clear = refl
    before (Some x) clear = by (x.0 == s) refl clear
      where
        by : (b : Bool) → (x.0 == s) ≡ b → cond (x.0 == s) None (Some x.0) ≡ None → own_row t (Some x) ≡ None
        by true e clear = not-own s t x other e
        by false e clear = let some : Some x.0 ≡ None = sym (ap (λ b. cond b None (Some x.0)) e) ∙ clear in cc
other-touched s t (Some None) None other clear = refl
other-touched s t (Some None) (Some x) other clear = by (x.0 == s) refl
  where
    by : (b : Bool) → (x.0 == s) ≡ b → own_row t (cond (x.0 == s) None (Some x)) ≡ own_row t (Some x)
    by true e = ap (λ b. own_row t (cond b None (Some x))) e ∙ sym (not-own s t x other e)
    by false e = ap (λ b. own_row t (cond b None (Some x))) e

-- the same owner is in the way of a touch and of the row that is due behind it
pub same-owner : (s : ℕ) (touch : Option (Option RowValue)) (there : Option (ℕ × RowValue))
    → owner_in_the_way s (option_map Some (unwrap_or touch (own_row s there))) there ≡ owner_in_the_way s touch there
same-owner s None None = refl
same-owner s None (Some x) = by (x.0 == s) refl
  where
    by : (b : Bool) → (x.0 == s) ≡ b → owner_in_the_way s (option_map Some (cond (x.0 == s) (Some x.1) None)) (Some x) ≡ None
    by true e = ap (λ b. owner_in_the_way s (option_map Some (cond b (Some x.1) None)) (Some x)) e ∙ ap (λ b. cond b None (Some x.0)) e
    by false e = ap (λ b. owner_in_the_way s (option_map Some (cond b (Some x.1) None)) (Some x)) e
same-owner s (Some (Some row)) there = refl
same-owner s (Some None) there = refl
