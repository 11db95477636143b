-- Rows of a table, counted by stream among rising entries.
use Rattle.std.proofs.Common.{◌≡◌, ◌==◌, ℕ, zero, suc, ◌+◌, ◌<◌, ◌≤◌, ◌^◌, arith, Bool, true, false, ◌&&◌, cond, not, Some, slice_get, List, [], ◌∷◌, ◌++◌, length, take, get_or, subst, refl, ap, ◌∙◌}
use Rattle.std.proofs.lemmas.Bool.{eqb-true, true≢false}
use Rattle.std.specs.List.{AllByRecursion, count_by}
use Rattle.std.specs.Prelude.{replicate}
use Rattle.std.specs.Ordering.{is_lt}
use Rattle.std.proofs.lemmas.List.Sums.{count_by-le-length, length-filter}
use Rattle.std.proofs.lemmas.Option.{same_Some}
use Rattle.list_laws.proofs.Fronts.{take-own}
use Rattle.target_tables.specs.Contents.{from_key}
use Rattle.pk_copy.specs.KeyOrder.{key_cmp}
use Rattle.pk_copy.specs.KeyValue.{KeyValue}
use Rattle.target_tables.specs.Rising.{IsRising}
use Rattle.board_laws.specs.Meaning.{TargetRows}
use Rattle.live_session.specs.Counts.{AreCounts, HaveCounted, rows_of}
use Rattle.live_session.proofs.PageLaws.{Entry, all-later}

-- ---- rows of a stream in a table

-- an entry of another table is none of them
other-table : (e : Entry) (es : TargetRows) (t s : ℕ) → (e.0.table == t) ≡ false → rows_of (e ∷ es) t s ≡ rows_of es t s
other-table e es t s other = ap (λ b. cond (b && e.1.0 == s) (e ∷ rows_of es t s) (rows_of es t s)) other

none-of : (es : TargetRows) (t s : ℕ) → AllByRecursion (λ (e : Entry). (e.0.table == t) ≡ false) es → rows_of es t s ≡ []
none-of [] t s h = refl
none-of (e ∷ es) t s h = other-table e es t s h.0 ∙ none-of es t s h.1

-- ---- counts

-- what is counted so far, and what is still to be counted among the others, are all
pub record Goes (initial rest : TargetRows) (t : ℕ) (old now : List ℕ) : Type 0 where
  pub count : length now ≡ length old
  pub each : (s : ℕ) → s < length old → get_or now s 0 + length (rows_of rest t s) ≡ get_or old s 0 + length (rows_of initial t s)

module _ (initial es rest : TargetRows) (e : Entry) (t : ℕ) (old now : List ℕ) (parts : es ≡ e ∷ rest) where
  pub goes-later : t < e.0.table → IsRising key_cmp es → Goes initial es t old now → HaveCounted initial t old now
  goes-later later rising so_far = record {
    count = so_far.count;
    each = λ s less.
        let none : length (rows_of es t s) ≡ 0 = ap (λ (all : TargetRows). length (rows_of all t s)) parts ∙ ap length (none-of (e ∷ rest) t s (all-later e rest t later (subst (λ (all : TargetRows). IsRising key_cmp all) parts rising))) in
        let before = so_far.each s less in
        omega (arith, none, before);
  }

-- ---- from the least key of the table on

and-first : (a b : Bool) → (a && b) ≡ true → a ≡ true
and-first true b h = refl
and-first false b h = h

spread : (t s : ℕ) (before : Bool) (e : Entry) (rest : TargetRows)
    → rows_of (cond (not before) (e ∷ rest) rest) t s ≡ cond (not before) (cond (e.0.table == t && e.1.0 == s) (e ∷ rows_of rest t s) (rows_of rest t s)) (rows_of rest t s)
spread t s true e rest = refl
spread t s false e rest = refl

of-least : (before keep : Bool) (e : Entry) (found rest : TargetRows) → (keep ≡ true → before ≡ false) → found ≡ rest → cond (not before) (cond keep (e ∷ found) found) found ≡ cond keep (e ∷ rest) rest
of-least true true e found rest h same = absurd (true≢false (h refl))
of-least true false e found rest h same = same
of-least false true e found rest h same = ap (λ (rows : TargetRows). e ∷ rows) same
of-least false false e found rest h same = same

from-least : (t s : ℕ) (least : KeyValue) → ((key : KeyValue) → key.table ≡ t → is_lt (key_cmp key least) ≡ false) → (rows : TargetRows) → rows_of (from_key key_cmp rows least) t s ≡ rows_of rows t s
from-least t s least h [] = refl
from-least t s least h (e ∷ es) =
    let rest : TargetRows = from_key key_cmp es least in
    spread t s (is_lt (key_cmp e.0 least)) e rest
    ∙ of-least (is_lt (key_cmp e.0 least)) (e.0.table == t && e.1.0 == s) e (rows_of rest t s) (rows_of es t s) (λ keep. h e.0 (eqb-true e.0.table t (and-first (e.0.table == t) (e.1.0 == s) keep))) (from-least t s least h es)

-- ---- all counts

zero-at : (m s : ℕ) → get_or (replicate {A = ℕ} m 0) s 0 ≡ 0
zero-at zero s = refl
zero-at (suc m) zero = refl
zero-at (suc m) (suc s) = zero-at m s

length-zeros : (m : ℕ) → length (replicate {A = ℕ} m 0) ≡ m
length-zeros zero = refl
length-zeros (suc m) = ap suc (length-zeros m)

get-of : (xs : List ℕ) (s n : ℕ) → slice_get xs s ≡ Some n → (s < length xs) × (get_or xs s 0 ≡ n)
get-of [] s n there = cc
get-of (x ∷ xs) zero n there = (omega arith, same_Some x n there)
get-of (x ∷ xs) (suc s) n there = let rest = get-of xs s n there in (omega (arith, rest.0), rest.1)

-- what a loan of numbers writes back is what they are now
pub written-back : (numbers behind : List ℕ) (n : ℕ) → n ≡ length numbers → take n (numbers ++ behind) ≡ numbers
written-back numbers behind n long = ap (λ k. take k (numbers ++ behind)) long ∙ take-own numbers behind

-- no more than all come from a key on
pub scans-fewer : (rows scanned : TargetRows) (from : KeyValue) → scanned ≡ from_key key_cmp rows from → length scanned ≤ length rows
scans-fewer rows scanned from is =
    let less : count_by (λ (e : Entry). not (is_lt (key_cmp e.0 from))) rows ≤ length rows = count_by-le-length (λ (e : Entry). not (is_lt (key_cmp e.0 from))) rows in
    let same : length scanned ≡ count_by (λ (e : Entry). not (is_lt (key_cmp e.0 from))) rows = ap (λ (es : TargetRows). length es) is ∙ length-filter (λ (e : Entry). not (is_lt (key_cmp e.0 from))) rows in
    omega (arith, less, same)

pub few-zeros : (m n : ℕ) (zeros : List ℕ) → zeros ≡ replicate m 0 → n < 2 ^ 64 → (s : ℕ) → get_or zeros s 0 + n < 2 ^ 64
few-zeros m n zeros is few s = let none : get_or zeros s 0 ≡ 0 = ap (λ (xs : List ℕ). get_or xs s 0) is ∙ zero-at m s in omega (arith, none, few)

pub counts-are : (rows scanned : TargetRows) (t streams : ℕ) (least : KeyValue) (zeros counts : List ℕ) → scanned ≡ from_key key_cmp rows least → ((key : KeyValue) → key.table ≡ t → is_lt (key_cmp key least) ≡ false) → zeros ≡ replicate streams 0
    → HaveCounted scanned t zeros counts → AreCounts rows t streams counts
counts-are rows scanned t streams least zeros counts is h none counted = record {
  count = counted.count ∙ ap length none ∙ length-zeros streams;
  each = λ s n there.
      let at = get-of counts s n there in
      let within : s < length zeros = omega (arith, at.0, counted.count) in
      let all = counted.each s within in
      let zero_there : get_or zeros s 0 ≡ 0 = ap (λ (xs : List ℕ). get_or xs s 0) none ∙ zero-at streams s in
      let same : length (rows_of scanned t s) ≡ length (rows_of rows t s) = ap (λ (es : TargetRows). length (rows_of es t s)) is ∙ ap length (from-least t s least h rows) in
      omega (arith, at.1, all, zero_there, same);
}
