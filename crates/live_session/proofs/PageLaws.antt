-- The first rows of a table among rising entries.
use Rattle.std.proofs.Common.{◌≡◌, ◌==◌, ℕ, zero, suc, ◌+◌, ◌-◌, ◌<◌, ◌≤◌, arith, Bool, true, false, cond, not, List, [], ◌∷◌, ◌++◌, length, map, take, append_assoc, length-append, subst, Bor, Option, Some, slice_get, refl, sym, ap, ◌∙◌}
use Rattle.std.proofs.Math.Seq.{take-nil}
use Rattle.std.proofs.lemmas.List.{length-map, map-append}
use Rattle.std.proofs.lemmas.Bool.{ne_eqb}
use Rattle.std.proofs.lemmas.Cmp.{ranked}
use Rattle.std.specs.Ordering.{ordering_then, nat_cmp, is_lt}
use Rattle.std.specs.declared.cmp.Ordering.{Ordering}
use Rattle.std.specs.declared.cmp.Ordering.TheVariants.{Less, Equal, Greater}
use Rattle.std.specs.List.{AllByRecursion, filter}
use Rattle.pk_copy.specs.KeyOrder.{parts_cmp, key_cmp}
use Rattle.pk_copy.specs.KeyValue.{KeyValue}
use Rattle.target_tables.specs.Contents.{entry, from_key}
use Rattle.target_tables.specs.Rising.{IsRising}
use Rattle.source_feed.specs.History.{KeptRow}
use Rattle.board_laws.specs.Meaning.{TargetRows}
use Rattle.std.specs.Prelude.{option_map, option_copied}
use Rattle.list_laws.proofs.Fronts.{take-own}
use Rattle.list_laws.proofs.Places.{get_in_front}
use Rattle.live_json.specs.Answers.{PageValue}
use Rattle.live_session.specs.Pages.{of_table, first_of, key_at, page_of, table_from}

abbrev pub Entry : Type 0
Entry = KeyValue × (ℕ × KeptRow)

-- ---- entries from a key on rise

all-filter : (P : Entry → Type 0) (p : Entry → Bool) (es : TargetRows) → AllByRecursion P es → AllByRecursion P (filter p es)
all-filter P p [] h = h
all-filter P p (e ∷ es) h =
    elim (p e) as (λ b. AllByRecursion P (cond b (e ∷ filter p es) (filter p es))) [ true ↦ (h.0, all-filter P p es h.1) | false ↦ all-filter P p es h.1 ]

rising-filter : (p : Entry → Bool) (es : TargetRows) → IsRising key_cmp es → IsRising key_cmp (filter p es)
rising-filter p [] h = h
rising-filter p (e ∷ es) h =
    elim (p e) as (λ b. IsRising key_cmp (cond b (e ∷ filter p es) (filter p es))) [
      | true ↦ (all-filter (λ later. key_cmp e.0 later.0 ≡ Less) p es h.0, rising-filter p es h.1)
      | false ↦ rising-filter p es h.1
    ]

pub rising-from : (rows scanned : TargetRows) (from : KeyValue) → scanned ≡ from_key key_cmp rows from → IsRising key_cmp rows → IsRising key_cmp scanned
rising-from rows scanned from is rising = subst (λ (es : TargetRows). IsRising key_cmp es) (sym is) (rising-filter (λ e. not (is_lt (key_cmp e.0 from))) rows rising)

-- ---- one entry after another

first_of-skip : (e : Entry) (es : TargetRows) (t n : ℕ) → (e.0.table == t) ≡ false → first_of (e ∷ es) t n ≡ first_of es t n
first_of-skip e es t n other = ap (λ b. take n (cond b (e ∷ of_table es t) (of_table es t))) other

take-less : (e : Entry) (rest : TargetRows) (rows n : ℕ) → n < rows → take (rows - n) (e ∷ rest) ≡ e ∷ take (rows - (n + 1)) rest
take-less e rest rows n h =
    let more : rows - n ≡ suc (rows - (n + 1)) = omega arith in
    ap (λ k. take k (e ∷ rest)) more

first_of-take : (e : Entry) (es : TargetRows) (t rows n : ℕ) → (e.0.table == t) ≡ true → n < rows → first_of (e ∷ es) t (rows - n) ≡ e ∷ first_of es t (rows - (n + 1))
first_of-take e es t rows n same h =
    ap (λ b. take (rows - n) (cond b (e ∷ of_table es t) (of_table es t))) same ∙ take-less e (of_table es t) rows n h

-- ---- entries of a later table

not-later : (a b : KeyValue) (t : ℕ) → t < a.table → key_cmp a b ≡ Less → (b.table == t) ≡ false
not-later a b t later less = ne_eqb b.table t (λ same. by (nat_cmp a.table b.table) refl less same)
  where
    by : (r : Ordering) → r ≡ nat_cmp a.table b.table → ordering_then r (parts_cmp a.parts b.parts) ≡ Less → b.table ≡ t → ⊥
    by Less e h same = let below : a.table < b.table = ranked a.table b.table Less e in omega arith
    by Equal e h same = let equal : a.table ≡ b.table = ranked a.table b.table Equal e in omega arith
    by Greater e h same = cc

pub none-of : (t : ℕ) (es : TargetRows) → AllByRecursion (λ (e : Entry). (e.0.table == t) ≡ false) es → of_table es t ≡ []
none-of t [] h = refl
none-of t (e ∷ es) h = ap (λ b. cond b (e ∷ of_table es t) (of_table es t)) h.0 ∙ none-of t es h.1

each-not : (a : KeyValue) (t : ℕ) → t < a.table → (es : TargetRows) → AllByRecursion (λ (later : Entry). key_cmp a later.0 ≡ Less) es → AllByRecursion (λ (e : Entry). (e.0.table == t) ≡ false) es
each-not a t h [] all = tt
each-not a t h (e ∷ es) all = (not-later a e.0 t h all.0, each-not a t h es all.1)

-- none of them is of the table
pub all-later : (e : Entry) (es : TargetRows) (t : ℕ) → t < e.0.table → IsRising key_cmp (e ∷ es) → AllByRecursion (λ (e : Entry). (e.0.table == t) ≡ false) (e ∷ es)
all-later e es t later rising = (ne_eqb e.0.table t (λ same. omega arith), each-not e.0 t later es rising.0)

first_of-later : (e : Entry) (es : TargetRows) (t n : ℕ) → t < e.0.table → IsRising key_cmp (e ∷ es) → first_of (e ∷ es) t n ≡ []
first_of-later e es t n later rising = ap (λ (rows : TargetRows). take n rows) (none-of t (e ∷ es) (all-later e es t later rising)) ∙ take-nil n

-- ---- what the loop keeps

append-none : (rows : TargetRows) → rows ++ [] ≡ rows
append-none [] = refl
append-none (row ∷ rows) = ap (λ (rest : TargetRows). row ∷ rest) (append-none rows)

module _ (es rest : TargetRows) (e : Entry) (t : ℕ) (parts : es ≡ e ∷ rest) where
  pub rises-on : IsRising key_cmp es → IsRising key_cmp rest
  rises-on rising = (subst (λ (all : TargetRows). IsRising key_cmp all) parts rising).1

  module _ (whole : TargetRows) where
    pub ends-later : (found : TargetRows) (n : ℕ) → t < e.0.table → IsRising key_cmp es → found ++ first_of es t n ≡ whole → found ≡ whole
    ends-later found n later rising seen =
        let none : first_of es t n ≡ [] = ap (λ (all : TargetRows). first_of all t n) parts ∙ first_of-later e rest t n later (subst (λ (all : TargetRows). IsRising key_cmp all) parts rising) in
        sym (append-none found) ∙ ap (λ (rows : TargetRows). found ++ rows) (sym none) ∙ seen

    pub skipped : (found : TargetRows) (n : ℕ) → (e.0.table == t) ≡ false → found ++ first_of es t n ≡ whole → found ++ first_of rest t n ≡ whole
    skipped found n other seen = ap (λ (rows : TargetRows). found ++ rows) (sym (ap (λ (all : TargetRows). first_of all t n) parts ∙ first_of-skip e rest t n other)) ∙ seen

    pub pushed : (found items : List (Bor KeyValue × ℕ × Bor KeptRow)) (x : Bor KeyValue × ℕ × Bor KeptRow) (rows : ℕ) → items ≡ found ++ x ∷ [] → entry x ≡ e → (e.0.table == t) ≡ true → length found < rows
        → map entry found ++ first_of es t (rows - length found) ≡ whole → map entry items ++ first_of rest t (rows - length items) ≡ whole
    pushed found items x rows made row same within seen =
        ap (λ (its : List (Bor KeyValue × ℕ × Bor KeptRow)). map entry its ++ first_of rest t (rows - length its)) made
        ∙ ap (λ (xs : TargetRows). xs ++ first_of rest t (rows - length (found ++ x ∷ []))) (map-append entry found (x ∷ []))
        ∙ append_assoc (map entry found) (entry x ∷ []) (first_of rest t (rows - length (found ++ x ∷ [])))
        ∙ ap (λ n. map entry found ++ entry x ∷ first_of rest t (rows - n)) (length-append found (x ∷ []))
        ∙ ap (λ (r : Entry). map entry found ++ r ∷ first_of rest t (rows - (length found + 1))) row
        ∙ ap (λ (rs : TargetRows). map entry found ++ rs) (sym (ap (λ (all : TargetRows). first_of all t (rows - length found)) parts ∙ first_of-take e rest t rows (length found) same within))
        ∙ seen

-- ---- a page of them

last-there : {A : Type 0} (xs : List A) (x : A) → slice_get (xs ++ x ∷ []) (length xs) ≡ Some x
last-there [] x = refl
last-there (y ∷ ys) x = last-there ys x

-- one more than asked: it is the next
pub more-rows : (rows front : TargetRows) (e : Entry) (most : ℕ) → rows ≡ front ++ e ∷ [] → length front ≡ most → (front ≡ take most rows) × (Some e.0 ≡ key_at rows most)
more-rows rows front e most is count = (
  sym (ap (take most) is ∙ ap (λ n. take n (front ++ e ∷ [])) (sym count) ∙ take-own front (e ∷ [])),
  sym (ap (λ (all : TargetRows). key_at all most) is ∙ ap (λ n. key_at (front ++ e ∷ []) n) (sym count) ∙ ap (λ (found : Option Entry). option_map (λ (e : Entry). e.0) found) (last-there front e)),
)

-- the last of the found rows taken off them
pub popped-page : (rows front : List (Bor KeyValue × ℕ × Bor KeptRow)) (x : Bor KeyValue × ℕ × Bor KeptRow) (most : ℕ) → rows ≡ front ++ x ∷ [] → most < length rows → length rows ≤ most + 1
    → (map entry front ≡ take most (map entry rows)) × (Some x.0.now ≡ key_at (map entry rows) most)
popped-page rows front x most is more few =
    let longer : length rows ≡ length front + 1 = ap (λ (all : List (Bor KeyValue × ℕ × Bor KeptRow)). length all) is ∙ length-append front (x ∷ []) in
    let count : length (map entry front) ≡ most = length-map front (entry {K = KeyValue} {R = KeptRow}) ∙ omega arith in
    more-rows (map entry rows) (map entry front) (entry x) most (ap (λ (all : List (Bor KeyValue × ℕ × Bor KeptRow)). map entry all) is ∙ map-append (entry {K = KeyValue} {R = KeptRow}) front (x ∷ [])) count

take-twice : {A : Type 0} (n : ℕ) (xs : List A) → take n (take (suc n) xs) ≡ take n xs
take-twice zero xs = refl
take-twice (suc n) [] = refl
take-twice {A} (suc n) (x ∷ xs) = ap (λ (rest : List A). x ∷ rest) (take-twice n xs)

plus-one : (n : ℕ) → n + 1 ≡ suc n
plus-one n = omega arith

-- a page of the first ones, of which there is at most one more than asked, is one of all
pub page-is : (all rows : TargetRows) (most : ℕ) → rows ≡ take (most + 1) all → (take most rows ≡ take most all) × (key_at rows most ≡ key_at all most)
page-is all rows most is =
    let first : rows ≡ take (suc most) all = is ∙ ap (λ n. take n all) (plus-one most) in (
      ap (take most) first ∙ take-twice most all,
      ap (λ (found : Option Entry). option_map (λ (e : Entry). e.0) found) (ap (λ (found : TargetRows). slice_get found most) first ∙ get_in_front (suc most) all most (omega arith)),
    )

a-page : TargetRows → Option KeyValue → PageValue
a-page rows next = record { rows = rows; next = next }

-- the first rows that were found, of which there is at most one more than asked, make the page
pub page-told : (rows entries scanned : TargetRows) (from : KeyValue) (t most : ℕ) (found told : List (Bor KeyValue × ℕ × Bor KeptRow)) (next : Option (Bor KeyValue))
    → scanned ≡ from_key key_cmp entries from → entries ≡ rows → t ≡ from.table → map entry found ≡ first_of scanned t (most + 1)
    → (map entry told ≡ take most (map entry found)) × (option_copied next ≡ key_at (map entry found) most) → page_of rows from most ≡ record { rows = map entry told; next = option_copied next }
unfolding a-page
page-told rows entries scanned from t most found told next scans same table is parts =
    let first : map entry found ≡ take (most + 1) (table_from rows from) = is ∙ ap (λ n. first_of scanned n (most + 1)) table ∙ ap (λ (es : TargetRows). first_of es from.table (most + 1)) (scans ∙ ap (λ (es : TargetRows). from_key key_cmp es from) same) in
    let page = page-is (table_from rows from) (map entry found) most first in
    ap (λ (r : TargetRows). a-page r (key_at (table_from rows from) most)) (sym (parts.0 ∙ page.0)) ∙ ap (λ (n : Option KeyValue). a-page (map entry told) n) (sym (parts.1 ∙ page.1))
