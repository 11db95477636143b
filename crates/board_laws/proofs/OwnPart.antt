-- The rows of one stream among the rows of a target.
use Rattle.std.proofs.Common.{◌≡◌, ◌≢◌, ◌==◌, ℕ, Bool, true, false, cond, [], ◌∷◌, Option, Some, None, refl, sym, ap, ◌∙◌}
use Rattle.std.proofs.lemmas.Bool.{eqb-false}
use borrow.Author.Tests.{eq-eqb}
use Rattle.std.specs.declared.cmp.Ordering.TheVariants.{Less}
use Rattle.std.specs.Cmp.{Equal-is}
use Rattle.std.specs.List.{AllByRecursion, filter}
use Rattle.std.specs.Map.{lookup}
use Rattle.std.specs.Ordering.{is_le}
use Rattle.pk_copy.specs.KeyOrder.{key_cmp}
use Rattle.pk_copy.specs.KeyValue.{KeyValue}
use Rattle.target_tables.specs.Rising.{IsRising}
use Rattle.target_tables.specs.Contents.{value_at}
use Rattle.target_tables.specs.Touches.{owner_in_the_way}
use Rattle.source_feed.specs.History.{RowValue}
use Rattle.board_laws.specs.Meaning.{TargetRows}
use Rattle.board_laws.specs.Cut.{own_row}
use Rattle.board_laws.proofs.Lookups.{is_key, none_above}
use Rattle.board_laws.proofs.Owning.{not-own}

-- the rows of stream s
abbrev pub own_part : ℕ → TargetRows → TargetRows
own_part s rows = filter (λ e. e.1.0 == s) rows

-- what stands at a key, if it is of stream s
abbrev pub only : ℕ → Option (ℕ × RowValue) → Option (ℕ × RowValue)
only s None = None
only s (Some there) = cond (there.0 == s) (Some there) None

above_part : (s : ℕ) (k : KeyValue) (rows : TargetRows) → AllByRecursion (λ e. key_cmp k e.0 ≡ Less) rows → AllByRecursion (λ e. key_cmp k e.0 ≡ Less) (own_part s rows)
above_part s k [] h = tt
above_part s k (e ∷ rows) h = by (above_part s k rows h.1) (e.1.0 == s)
  where
    by : AllByRecursion (λ e. key_cmp k e.0 ≡ Less) (own_part s rows) → (b : Bool) → AllByRecursion (λ e. key_cmp k e.0 ≡ Less) (cond b (e ∷ own_part s rows) (own_part s rows))
    by rest true = (h.0, rest)
    by rest false = rest

pub rising_part : (s : ℕ) (rows : TargetRows) → IsRising key_cmp rows → IsRising key_cmp (own_part s rows)
rising_part s [] h = tt
rising_part s (e ∷ rows) h = by (rising_part s rows h.1) (e.1.0 == s)
  where
    by : IsRising key_cmp (own_part s rows) → (b : Bool) → IsRising key_cmp (cond b (e ∷ own_part s rows) (own_part s rows))
    by rest true = (above_part s e.0 rows h.0, rest)
    by rest false = rest

pub value_in_part : (s : ℕ) (rows : TargetRows) (q : KeyValue) → IsRising key_cmp rows → value_at key_cmp (own_part s rows) q ≡ only s (value_at key_cmp rows q)
value_in_part s [] q h = refl
value_in_part s (e ∷ rows) q h = by (value_in_part s rows q h.1) (is_key q e.0) refl (e.1.0 == s) refl
  where
    opened : (own : Bool) → lookup (is_key q) (cond own (e ∷ own_part s rows) (own_part s rows)) ≡ cond own (cond (is_key q e.0) (Some e.1) (lookup (is_key q) (own_part s rows))) (lookup (is_key q) (own_part s rows))
    opened true = refl
    opened false = refl

    nothing_else : is_key q e.0 ≡ true → value_at key_cmp rows q ≡ None
    nothing_else same = none_above q e.0 rows (ap is_le ((Equal-is (key_cmp q e.0)).0 same)) h.0

    by : value_at key_cmp (own_part s rows) q ≡ only s (value_at key_cmp rows q) → (key : Bool) → is_key q e.0 ≡ key → (own : Bool) → (e.1.0 == s) ≡ own
        → value_at key_cmp (own_part s (e ∷ rows)) q ≡ only s (value_at key_cmp (e ∷ rows) q)
    by rest true same true mine =
        opened (e.1.0 == s)
        ∙ ap (λ own. cond own (cond (is_key q e.0) (Some e.1) (lookup (is_key q) (own_part s rows))) (lookup (is_key q) (own_part s rows))) mine
        ∙ ap (λ key. cond key (Some e.1) (lookup (is_key q) (own_part s rows))) same
        ∙ sym (ap (λ own. cond own (Some e.1) None) mine)
        ∙ sym (ap (λ key. only s (cond key (Some e.1) (value_at key_cmp rows q))) same)
    by rest true same false mine =
        opened (e.1.0 == s)
        ∙ ap (λ own. cond own (cond (is_key q e.0) (Some e.1) (lookup (is_key q) (own_part s rows))) (lookup (is_key q) (own_part s rows))) mine
        ∙ rest
        ∙ ap (only s) (nothing_else same)
        ∙ sym (ap (λ own. cond own (Some e.1) None) mine)
        ∙ sym (ap (λ key. only s (cond key (Some e.1) (value_at key_cmp rows q))) same)
    by rest false other true mine =
        opened (e.1.0 == s)
        ∙ ap (λ own. cond own (cond (is_key q e.0) (Some e.1) (lookup (is_key q) (own_part s rows))) (lookup (is_key q) (own_part s rows))) mine
        ∙ ap (λ key. cond key (Some e.1) (lookup (is_key q) (own_part s rows))) other
        ∙ rest
        ∙ sym (ap (λ key. only s (cond key (Some e.1) (value_at key_cmp rows q))) other)
    by rest false other false mine =
        opened (e.1.0 == s)
        ∙ ap (λ own. cond own (cond (is_key q e.0) (Some e.1) (lookup (is_key q) (own_part s rows))) (lookup (is_key q) (own_part s rows))) mine
        ∙ rest
        ∙ sym (ap (λ key. only s (cond key (Some e.1) (value_at key_cmp rows q))) other)

-- the stream's own row among them is its own row
pub own-only : (s : ℕ) (there : Option (ℕ × RowValue)) → own_row s (only s there) ≡ own_row s there
own-only s None = refl
own-only s (Some x) = by (x.0 == s) refl
  where
    by : (b : Bool) → (x.0 == s) ≡ b → own_row s (cond (x.0 == s) (Some x) None) ≡ own_row s (Some x)
    by true e = ap (λ b. own_row s (cond b (Some x) None)) e
    by false e = ap (λ b. own_row s (cond b (Some x) None)) e ∙ sym (ap (λ b. cond b (Some x.1) None) e)

-- and another stream has none among them
pub other-only : (s t : ℕ) (there : Option (ℕ × RowValue)) → t ≢ s → own_row t (only s there) ≡ None
other-only s t None other = refl
other-only s t (Some x) other = by (x.0 == s) refl
  where
    by : (b : Bool) → (x.0 == s) ≡ b → own_row t (cond (x.0 == s) (Some x) None) ≡ None
    by true e = ap (λ b. own_row t (cond b (Some x) None)) e ∙ not-own s t x other e
    by false e = ap (λ b. own_row t (cond b (Some x) None)) e

-- where no other stream has a row none is in the way
pub none-in_the_way : (s : ℕ) (touch : Option (Option RowValue)) (there : Option (ℕ × RowValue)) → ((t : ℕ) → t ≢ s → own_row t there ≡ None) → owner_in_the_way s touch there ≡ None
none-in_the_way s None there h = refl
none-in_the_way s (Some None) there h = refl
none-in_the_way s (Some (Some row)) None h = refl
none-in_the_way s (Some (Some row)) (Some x) h = by (x.0 == s) refl
  where
    by : (b : Bool) → (x.0 == s) ≡ b → cond (x.0 == s) None (Some x.0) ≡ None
    by true e = ap (λ b. cond b None (Some x.0)) e
    by false e =
        let clash : Some x.1 ≡ None = sym (ap (λ b. cond b (Some x.1) None) (eq-eqb x.0 x.0 refl)) ∙ h x.0 (eqb-false x.0 s e) in
        cc
