-- What stands at a key by the rows of each stream.
use Rattle.std.proofs.Common.{◌≡◌, ◌==◌, ℕ, Bool, true, false, cond, Option, Some, None, sym, ap, refl, ◌∙◌}
use Rattle.std.proofs.lemmas.Option.{same_Some, none-some}
use borrow.Author.Tests.{eq-eqb, eqb-true}
use Rattle.source_feed.specs.History.{RowValue}
use Rattle.board_laws.specs.Cut.{own_row}

own-some : (x : ℕ × RowValue) → own_row x.0 (Some x) ≡ Some x.1
own-some x = ap (λ b. cond b (Some x.1) None) (eq-eqb x.0 x.0 refl)

-- what stands there is the stream's row
its_row : (s : ℕ) (row : RowValue) (there : Option (ℕ × RowValue)) → own_row s there ≡ Some row → there ≡ Some (s, row)
its_row s row None e = absurd (none-some row e)
its_row s row (Some x) e = by (x.0 == s) refl e
  where
    by : (b : Bool) → (x.0 == s) ≡ b → cond b (Some x.1) None ≡ Some row → Some x ≡ Some (s, row)
    by true q e = ap (λ (n : ℕ). Some (n, x.1)) (eqb-true x.0 s q) ∙ ap (λ (r : RowValue). Some (s, r)) (same_Some x.1 row e)
    by false q e = absurd (none-some row e)

-- the rows of all streams say what stands there
pub same-standing : (a b : Option (ℕ × RowValue)) → ((s : ℕ) → own_row s a ≡ own_row s b) → a ≡ b
same-standing None None h = refl
same-standing None (Some y) h = its_row y.0 y.1 None (h y.0 ∙ own-some y)
same-standing (Some x) None h = sym (its_row x.0 x.1 None (sym (h x.0) ∙ own-some x))
same-standing (Some x) (Some y) h = sym (its_row x.0 x.1 (Some y) (sym (h x.0) ∙ own-some x))
