-- The first rows of a table past a key, among rising entries.
use Rattle.std.proofs.Common.{◌≡◌, ◌==◌, ℕ, suc, ◌+◌, ◌-◌, ◌<◌, arith, Bool, true, false, ◌&&◌, cond, not, List, [], ◌∷◌, ◌++◌, length, map, take, append_assoc, length-append, subst, Bor, Option, Some, None, refl, sym, ap, ◌∙◌}
use Rattle.std.proofs.Math.Seq.{take-nil}
use Rattle.std.proofs.lemmas.List.{map-append}
use Rattle.std.proofs.lemmas.Bool.{ne_eqb, eqb-true, true≢false}
use Rattle.std.proofs.lemmas.Cmp.{ranked}
use Rattle.std.specs.Ordering.{ordering_then, nat_cmp, is_lt}
use Rattle.std.specs.declared.cmp.Ordering.{Ordering}
use Rattle.std.specs.declared.cmp.Ordering.TheVariants.{Less, Equal, Greater}
use Rattle.std.specs.List.{AllByRecursion, filter}
use Rattle.pk_copy.specs.KeyOrder.{parts_cmp, key_cmp}
use Rattle.pk_copy.specs.KeyValue.{KeyValue}
use Rattle.pk_copy.specs.Marks.{is_beyond}
use Rattle.target_tables.specs.Contents.{from_key, past_key}
use Rattle.target_tables.specs.Rising.{IsRising}
use Rattle.source_feed.specs.History.{RowValue}
use Rattle.source_feed.specs.Image.{ImageRows, chunk_of, lent_row}
use Rattle.source_feed.specs.Private.ImageEntries.{Entries, rows_of, first_of}

abbrev pub Entry : Type 0
Entry = KeyValue × (ℕ × RowValue)

-- ---- rows past a key

and-kept : (of_table : Bool) (row : KeyValue × RowValue) (found rest : ImageRows) → found ≡ rest → cond of_table (row ∷ found) found ≡ cond (of_table && true) (row ∷ rest) rest
and-kept true row found rest e = ap (λ (rows : ImageRows). row ∷ rows) e
and-kept false row found rest e = e

and-dropped : (of_table : Bool) (row : KeyValue × RowValue) (found rest : ImageRows) → found ≡ rest → found ≡ cond (of_table && false) (row ∷ rest) rest
and-dropped true row found rest e = e
and-dropped false row found rest e = e

pub first-past : (t : ℕ) (after : Option KeyValue) (entries : Entries)
    → filter (λ row. row.0.table == t) (rows_of (filter (λ e. is_beyond after e.0) entries)) ≡ filter (λ row. row.0.table == t && is_beyond after row.0) (rows_of entries)
first-past t after [] = refl
first-past t after (e ∷ es) =
    let past : Entries = filter (λ e. is_beyond after e.0) es in
    let rest : ImageRows = filter (λ row. row.0.table == t && is_beyond after row.0) (rows_of es) in
    elim (is_beyond after e.0) as (λ beyond. filter (λ row. row.0.table == t) (rows_of (cond beyond (e ∷ past) past)) ≡ cond ((e.0.table == t) && beyond) ((e.0, e.1.1) ∷ rest) rest) [
      | true ↦ and-kept (e.0.table == t) (e.0, e.1.1) _ rest (first-past t after es)
      | false ↦ and-dropped (e.0.table == t) (e.0, e.1.1) _ rest (first-past t after es)
    ]

-- ---- rows from the least key of a table on

spread : (t : ℕ) (before : Bool) (e : Entry) (rest : Entries)
    → filter (λ row. row.0.table == t) (rows_of (cond (not before) (e ∷ rest) rest))
    ≡ cond (not before) (cond (e.0.table == t) ((e.0, e.1.1) ∷ filter (λ row. row.0.table == t) (rows_of rest)) (filter (λ row. row.0.table == t) (rows_of rest)))
    (filter (λ row. row.0.table == t) (rows_of rest))
spread t true e rest = refl
spread t false e rest = refl

of-table : (before of_table : Bool) (row : KeyValue × RowValue) (found rest : ImageRows) → (of_table ≡ true → before ≡ false) → found ≡ rest
    → cond (not before) (cond of_table (row ∷ found) found) found ≡ cond (of_table && true) (row ∷ rest) rest
of-table true true row found rest h e = absurd (true≢false (h refl))
of-table true false row found rest h e = e
of-table false true row found rest h e = ap (λ (rows : ImageRows). row ∷ rows) e
of-table false false row found rest h e = e

from-least : (t : ℕ) (least : KeyValue) → ((key : KeyValue) → key.table ≡ t → is_lt (key_cmp key least) ≡ false) → (entries : Entries)
    → filter (λ row. row.0.table == t) (rows_of (from_key key_cmp entries least)) ≡ filter (λ row. row.0.table == t && is_beyond None row.0) (rows_of entries)
from-least t least h [] = refl
from-least t least h (e ∷ es) =
    let rest : Entries = from_key key_cmp es least in
    spread t (is_lt (key_cmp e.0 least)) e rest
    ∙ of-table (is_lt (key_cmp e.0 least)) (e.0.table == t) (e.0, e.1.1) (filter (λ row. row.0.table == t) (rows_of rest)) _ (λ same. h e.0 (eqb-true e.0.table t same)) (from-least t least h es)

pub chunk-past : (entries : Entries) (t n : ℕ) (key : KeyValue) → first_of (past_key key_cmp entries key) t n ≡ chunk_of (rows_of entries) t (Some key) n
chunk-past entries t n key = ap (λ (rows : ImageRows). take n rows) (first-past t (Some key) entries)

-- ---- entries past a key rise

all-filter : (P : Entry → Type 0) (p : Entry → Bool) (es : Entries) → AllByRecursion P es → AllByRecursion P (filter p es)
all-filter P p [] h = h
all-filter P p (e ∷ es) h =
    elim (p e) as (λ b. AllByRecursion P (cond b (e ∷ filter p es) (filter p es))) [ true ↦ (h.0, all-filter P p es h.1) | false ↦ all-filter P p es h.1 ]

pub rising-filter : (p : Entry → Bool) (es : Entries) → IsRising key_cmp es → IsRising key_cmp (filter p es)
rising-filter p [] h = h
rising-filter p (e ∷ es) h =
    elim (p e) as (λ b. IsRising key_cmp (cond b (e ∷ filter p es) (filter p es))) [
      | true ↦ (all-filter (λ later. key_cmp e.0 later.0 ≡ Less) p es h.0, rising-filter p es h.1)
      | false ↦ rising-filter p es h.1
    ]

-- ---- one entry after another

pub first_of-skip : (e : Entry) (es : Entries) (t n : ℕ) → (e.0.table == t) ≡ false → first_of (e ∷ es) t n ≡ first_of es t n
first_of-skip e es t n other =
    let rest : ImageRows = filter (λ row. row.0.table == t) (rows_of es) in
    ap (λ b. take n (cond b ((e.0, e.1.1) ∷ rest) rest)) other

take-less : (row : KeyValue × RowValue) (rest : ImageRows) (rows n : ℕ) → n < rows → take (rows - n) (row ∷ rest) ≡ row ∷ take (rows - (n + 1)) rest
take-less row rest rows n h =
    let more : rows - n ≡ suc (rows - (n + 1)) = omega arith in
    ap (λ k. take k (row ∷ rest)) more

pub first_of-take : (e : Entry) (es : Entries) (t rows n : ℕ) → (e.0.table == t) ≡ true → n < rows → first_of (e ∷ es) t (rows - n) ≡ (e.0, e.1.1) ∷ first_of es t (rows - (n + 1))
first_of-take e es t rows n same h =
    let rest : ImageRows = filter (λ row. row.0.table == t) (rows_of es) in
    ap (λ b. take (rows - n) (cond b ((e.0, e.1.1) ∷ rest) rest)) same ∙ take-less (e.0, e.1.1) rest rows n h

-- ---- entries of a later table

not-later : (a b : KeyValue) (t : ℕ) → t < a.table → key_cmp a b ≡ Less → (b.table == t) ≡ false
not-later a b t later less = ne_eqb b.table t (λ same. by (nat_cmp a.table b.table) refl less same)
  where
    by : (r : Ordering) → r ≡ nat_cmp a.table b.table → ordering_then r (parts_cmp a.parts b.parts) ≡ Less → b.table ≡ t → ⊥
    by Less e h same = let below : a.table < b.table = ranked a.table b.table Less e in omega arith
    by Equal e h same = let equal : a.table ≡ b.table = ranked a.table b.table Equal e in omega arith
    by Greater e h same = cc

none-of : (t : ℕ) (es : Entries) → AllByRecursion (λ e. (e.0.table == t) ≡ false) es → filter (λ row. row.0.table == t) (rows_of es) ≡ []
none-of t [] h = refl
none-of t (e ∷ es) h =
    let rest : ImageRows = filter (λ row. row.0.table == t) (rows_of es) in
    ap (λ b. cond b ((e.0, e.1.1) ∷ rest) rest) h.0 ∙ none-of t es h.1

each-not : (a : KeyValue) (t : ℕ) → t < a.table → (es : Entries) → AllByRecursion (λ later. key_cmp a later.0 ≡ Less) es → AllByRecursion (λ e. (e.0.table == t) ≡ false) es
each-not a t h [] all = tt
each-not a t h (e ∷ es) all = (not-later a e.0 t h all.0, each-not a t h es all.1)

pub first_of-later : (e : Entry) (es : Entries) (t n : ℕ) → t < e.0.table → IsRising key_cmp (e ∷ es) → first_of (e ∷ es) t n ≡ []
first_of-later e es t n later rising =
    let differs : (e.0.table == t) ≡ false = ne_eqb e.0.table t (λ same. omega arith) in
    ap (λ (rows : ImageRows). take n rows) (none-of t (e ∷ es) (differs, each-not e.0 t later es rising.0)) ∙ take-nil n

-- ---- what the loop keeps

append-none : (rows : ImageRows) → rows ++ [] ≡ rows
append-none [] = refl
append-none (row ∷ rows) = ap (λ (rest : ImageRows). row ∷ rest) (append-none rows)

module _ (es rest : Entries) (e : Entry) (t : ℕ) (whole : ImageRows) (parts : es ≡ e ∷ rest) where
  pub ends-later : (found : ImageRows) (n : ℕ) → t < e.0.table → IsRising key_cmp es → found ++ first_of es t n ≡ whole → found ≡ whole
  ends-later found n later rising seen =
      let none : first_of es t n ≡ [] = ap (λ (all : Entries). first_of all t n) parts ∙ first_of-later e rest t n later (subst (λ (all : Entries). IsRising key_cmp all) parts rising) in
      sym (append-none found) ∙ ap (λ (rows : ImageRows). found ++ rows) (sym none) ∙ seen

  pub rises-on : IsRising key_cmp es → IsRising key_cmp rest
  rises-on rising = (subst (λ (all : Entries). IsRising key_cmp all) parts rising).1

  pub skipped : (found : ImageRows) (n : ℕ) → (e.0.table == t) ≡ false → found ++ first_of es t n ≡ whole → found ++ first_of rest t n ≡ whole
  skipped found n other seen = ap (λ (rows : ImageRows). found ++ rows) (sym (ap (λ (all : Entries). first_of all t n) parts ∙ first_of-skip e rest t n other)) ∙ seen

  pub pushed : (found items : List (Bor KeyValue × Bor RowValue)) (x : Bor KeyValue × Bor RowValue) (rows : ℕ) → items ≡ found ++ x ∷ [] → lent_row x ≡ (e.0, e.1.1) → (e.0.table == t) ≡ true → length found < rows
      → map lent_row found ++ first_of es t (rows - length found) ≡ whole → map lent_row items ++ first_of rest t (rows - length items) ≡ whole
  pushed found items x rows made row same within seen =
      ap (λ (its : List (Bor KeyValue × Bor RowValue)). map lent_row its ++ first_of rest t (rows - length its)) made
      ∙ ap (λ (xs : ImageRows). xs ++ first_of rest t (rows - length (found ++ x ∷ []))) (map-append lent_row found (x ∷ []))
      ∙ append_assoc (map lent_row found) (lent_row x ∷ []) (first_of rest t (rows - length (found ++ x ∷ [])))
      ∙ ap (λ n. map lent_row found ++ lent_row x ∷ first_of rest t (rows - n)) (length-append found (x ∷ []))
      ∙ ap (λ (r : KeyValue × RowValue). map lent_row found ++ r ∷ first_of rest t (rows - (length found + 1))) row
      ∙ ap (λ (rs : ImageRows). map lent_row found ++ rs) (sym (ap (λ (all : Entries). first_of all t (rows - length found)) parts ∙ first_of-take e rest t rows (length found) same within))
      ∙ seen

-- ---- what a chunk answers

pub rising-past : (entries scanned : Entries) (key : KeyValue) → scanned ≡ past_key key_cmp entries key → IsRising key_cmp entries → IsRising key_cmp scanned
rising-past entries scanned key past rising =
    subst (λ (es : Entries). IsRising key_cmp es) (sym past) (rising-filter (λ e. is_beyond (Some key) e.0) entries rising)

pub chunk-answer : (entries scanned : Entries) (key given : KeyValue) (after : Option KeyValue) (rows : ImageRows) (t n : ℕ) → scanned ≡ past_key key_cmp entries key
    → key ≡ given → after ≡ Some given → rows_of entries ≡ rows → first_of scanned t n ≡ chunk_of rows t after n
chunk-answer entries scanned key given after rows t n past same some seen =
    ap (λ (es : Entries). first_of es t n) past
    ∙ chunk-past entries t n key
    ∙ ap (λ (k : KeyValue). chunk_of (rows_of entries) t (Some k) n) same
    ∙ ap (λ (a : Option KeyValue). chunk_of (rows_of entries) t a n) (sym some)
    ∙ ap (λ (rs : ImageRows). chunk_of rs t after n) seen

pub rising-least : (entries scanned : Entries) (least : KeyValue) → scanned ≡ from_key key_cmp entries least → IsRising key_cmp entries → IsRising key_cmp scanned
rising-least entries scanned least from rising = subst (λ (es : Entries). IsRising key_cmp es) (sym from) (rising-filter (λ e. not (is_lt (key_cmp e.0 least))) entries rising)

pub chunk-whole : (entries scanned : Entries) (least : KeyValue) (after : Option KeyValue) (rows : ImageRows) (t n : ℕ) → scanned ≡ from_key key_cmp entries least
    → ((key : KeyValue) → key.table ≡ t → is_lt (key_cmp key least) ≡ false) → after ≡ None → rows_of entries ≡ rows → first_of scanned t n ≡ chunk_of rows t after n
chunk-whole entries scanned least after rows t n from h none seen =
    ap (λ (es : Entries). first_of es t n) from
    ∙ ap (λ (rs : ImageRows). take n rs) (from-least t least h entries)
    ∙ ap (λ (a : Option KeyValue). chunk_of (rows_of entries) t a n) (sym none)
    ∙ ap (λ (rs : ImageRows). chunk_of rs t after n) seen
