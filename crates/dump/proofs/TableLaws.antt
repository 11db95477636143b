-- Rows by rising key, table after table.
use Rattle.std.proofs.Common.{◌≡◌, ℕ, zero, suc, ◌+◌, ◌<◌, ◌≤◌, List, [], ◌∷◌, ◌++◌, length, take, drop, cond, true, false, not, refl, sym, ap, ◌∙◌, arith, Bool, ◌⊎◌, inl, inr, Option, Some, slice_get, subst, take-append-drop}
use Rattle.std.specs.Prelude.{◌==◌, nat_lt, position}
use Rattle.std.specs.Option.{option_map_or, unwrap_or}
use Rattle.std.specs.List.{AllByRecursion, position_or_len}
use Rattle.std.specs.Ordering.{nat_cmp, ordering_then}
use Rattle.std.specs.Cmp.{nat_cmp_is}
use Rattle.std.proofs.lemmas.Bool.{cases_lt}
use Rattle.std.proofs.lemmas.List.Sums.{prefix_len-le-length}
use Rattle.std.specs.declared.cmp.Ordering.TheVariants.{Less, Greater}
use Rattle.std.proofs.lemmas.List.Elements.{filter-append}
use Rattle.std.proofs.lemmas.Bool.Decides.{nat_tests}
use Rattle.std.proofs.lemmas.Option.{slice_get_within}
use Rattle.list_laws.proofs.Places.{place_of}
use Rattle.list_laws.proofs.Choices.{or_len_at}
use Rattle.list_laws.proofs.Fronts.{each}
use Rattle.filter_rule.specs.PlanTable.{TableValue}
use Rattle.filter_rule.specs.PlanValue.{PlanValue, kept_columns_of}
use Rattle.filter_rule.specs.WellFormed.{Holds, IsTable, IsPlan}
use Rattle.pk_copy.specs.KeyOrder.{key_cmp, parts_cmp}
use Rattle.pk_copy.specs.KeyValue.{KeyValue}
use Rattle.target_tables.specs.Rising.{IsRising}
use Rattle.dump.specs.Dump.{row_line, row_lines, rows_of_table, table_line, table_lines}
use Rattle.dump.specs.Private.Tables.{AreFrom, behind_table, IsOtherFirst, IsTakenOf}
use Rattle.dump.specs.DumpRowsValue.{RowValue, DumpRowsValue, all_rows}

-- a lesser key is of the same table or of one before
lesser_table : (a b : KeyValue) → (b.table < a.table) ⊎ (a.table ≤ b.table) → key_cmp a b ≡ Less → a.table ≤ b.table
lesser_table a b (inr le) e = le
lesser_table a b (inl lt) e =
    let greater : Greater ≡ nat_cmp a.table b.table = nat_cmp_is a.table b.table Greater lt in
    let all : key_cmp a b ≡ Greater = ap (λ o. ordering_then o (parts_cmp a.parts b.parts)) (sym greater) in
    cc

pub table_of_less : (a b : KeyValue) → key_cmp a b ≡ Less → a.table ≤ b.table
table_of_less a b e = lesser_table a b (cases_lt b.table a.table) e

-- rows behind a row are of its table or of one behind
from_first : (t : ℕ) (row : KeyValue × RowValue) (rows : DumpRowsValue) → IsRising key_cmp (row ∷ rows) → t ≤ row.0.table → AreFrom t (row ∷ rows)
from_first t row rows rising le = (le, each (λ later. key_cmp row.0 later.0 ≡ Less) (λ later. t ≤ later.0.table) (λ later less. omega (arith, le, table_of_less row.0 later.0 less)) rows rising.0)

-- there are no rows of a table before all
none_before : (s t : ℕ) (rows : DumpRowsValue) → s < t → AreFrom t rows → rows_of_table s rows ≡ []
none_before s t [] lt from = refl
none_before s t (row ∷ rows) lt from =
    let differs : (row.0.table == s) ≡ false = grind (arith, nat_tests, from.0, lt) in
    ap (λ b. cond b (row ∷ rows_of_table s rows) (rows_of_table s rows)) differs ∙ none_before s t rows lt from.1

abbrev pub other : ℕ → KeyValue × RowValue → Bool
other t row = not (row.0.table == t)

-- the rows in front that are of table t, where none is of one before
abbrev IsFront : ℕ → DumpRowsValue → Type 0
IsFront t rows = (rows_of_table t rows ≡ take (position_or_len (other t) rows) rows) × AreFrom (t + 1) (drop (position_or_len (other t) rows) rows)

front_first : (t : ℕ) (row : KeyValue × RowValue) (rows : DumpRowsValue) (b : Bool) → (row.0.table == t) ≡ b → IsRising key_cmp (row ∷ rows) → AreFrom t (row ∷ rows) → IsFront t rows → IsFront t (row ∷ rows)
front_first t row rows true e rising from others =
    let n : ℕ = position_or_len (other t) rows in
    let more : (k : ℕ) → k ≡ suc n → (row ∷ rows_of_table t rows ≡ take k (row ∷ rows)) × AreFrom (t + 1) (drop k (row ∷ rows)) = λ k is. rw is (ap (λ (l : DumpRowsValue). row ∷ l) others.0, others.1) in
    rw e (more (1 + n) (omega arith))
front_first t row rows false e rising from others =
    let later : t + 1 ≤ row.0.table = grind (arith, nat_tests, from.0, e) in
    let all : AreFrom (t + 1) (row ∷ rows) = from_first (t + 1) row rows rising later in
    rw e (none_before t (t + 1) rows (omega arith) all.1, all)

in_front : (t : ℕ) (rows : DumpRowsValue) → IsRising key_cmp rows → AreFrom t rows → IsFront t rows
in_front t [] rising from = (refl, tt)
in_front t (row ∷ rows) rising from = front_first t row rows (row.0.table == t) refl rising from (in_front t rows rising.1 from.1)

place_or_all : (p : KeyValue × RowValue → Bool) (rows : DumpRowsValue) → unwrap_or (position p rows) (length rows) ≡ position_or_len p rows
place_or_all p rows = or_len_at (position_or_len p rows) (length rows) (nat_lt (position_or_len p rows) (length rows)) refl (prefix_len-le-length (λ row. not (p row)) rows)

pub front_rows : (t : ℕ) (rows : DumpRowsValue) (n : ℕ) → n ≡ unwrap_or (position (other t) rows) (length rows) → IsRising key_cmp rows → AreFrom t rows → (rows_of_table t rows ≡ take n rows) × AreFrom (t + 1) (drop n rows)
front_rows t rows n is rising from = rw (is ∙ place_or_all (other t) rows) (in_front t rows rising from)

-- the rows that are left rise
pub rising_left : (n : ℕ) (rows : DumpRowsValue) → IsRising key_cmp rows → IsRising key_cmp (drop n rows)
rising_left zero rows rising = rising
rising_left (suc n) [] rising = tt
rising_left (suc n) (row ∷ rows) rising = rising_left n rows rising.1

-- rows of a table behind are found behind the front ones
behind_first : (s t : ℕ) (row : KeyValue × RowValue) (rows : DumpRowsValue) (b : Bool) → (row.0.table == t) ≡ b → t < s → rows_of_table s (rows_of_table t rows) ≡ [] → rows_of_table s (rows_of_table t (row ∷ rows)) ≡ []
behind_first s t row rows true e lt others =
    let differs : (row.0.table == s) ≡ false = grind (arith, nat_tests, e, lt) in
    rw e (rw differs others)
behind_first s t row rows false e lt others = rw e others

rows_behind : (s t : ℕ) (rows : DumpRowsValue) → t < s → rows_of_table s (rows_of_table t rows) ≡ []
rows_behind s t [] lt = refl
rows_behind s t (row ∷ rows) lt = behind_first s t row rows (row.0.table == t) refl lt (rows_behind s t rows lt)

pub rows_left : (s t n : ℕ) (rows : DumpRowsValue) → t < s → rows_of_table t rows ≡ take n rows → rows_of_table s rows ≡ rows_of_table s (drop n rows)
rows_left s t n rows lt front =
    let none : rows_of_table s (take n rows) ≡ [] = ap (rows_of_table s) (sym front) ∙ rows_behind s t rows lt in
    ap (rows_of_table s) (sym (take-append-drop n rows)) ∙ filter-append (λ row. row.0.table == s) (take n rows) (drop n rows) ∙ ap (λ (l : DumpRowsValue). l ++ rows_of_table s (drop n rows)) none

lines_left : (s t n : ℕ) (tables : List TableValue) (rows : DumpRowsValue) → t < s → rows_of_table t rows ≡ take n rows → table_lines s tables rows ≡ table_lines s tables (drop n rows)
lines_left s t n [] rows lt front = refl
lines_left s t n (table ∷ tables) rows lt front =
    rw (rows_left s t n rows lt front, lines_left (s + 1) t n tables rows (omega (arith, lt)) front) refl

-- the lines of a table, and of those behind it
pub first_table : (t n : ℕ) (table : TableValue) (tables : List TableValue) (rows : DumpRowsValue) → rows_of_table t rows ≡ take n rows
    → table_lines t (table ∷ tables) rows ≡ (table_line table.name ++ row_lines (take n rows)) ++ table_lines (t + 1) tables (drop n rows)
first_table t n table tables rows front =
    rw (front, lines_left (t + 1) t n tables rows (omega arith) front) refl

-- ---- rows that are taken out one after another

behind_at : (t : ℕ) (row : KeyValue × RowValue) (rows : DumpRowsValue) (b : Bool) → (row.0.table == t) ≡ b → behind_table t rows ≡ drop (position_or_len (other t) rows) rows
    → behind_table t (row ∷ rows) ≡ drop (position_or_len (other t) (row ∷ rows)) (row ∷ rows)
behind_at t row rows true e others =
    let n : ℕ = position_or_len (other t) rows in
    let more : (k : ℕ) → k ≡ suc n → behind_table t rows ≡ drop k (row ∷ rows) = λ k is. rw is others in
    rw e (more (1 + n) (omega arith))
behind_at t row rows false e others = rw e refl

behind_is : (t : ℕ) (rows : DumpRowsValue) → behind_table t rows ≡ drop (position_or_len (other t) rows) rows
behind_is t [] = refl
behind_is t (row ∷ rows) = behind_at t row rows (row.0.table == t) refl (behind_is t rows)

-- the rows behind a table rise, and are of those behind it
pub behind_rows : (t : ℕ) (rows : DumpRowsValue) → IsRising key_cmp rows → AreFrom t rows → IsRising key_cmp (behind_table t rows) × AreFrom (t + 1) (behind_table t rows)
behind_rows t rows rising from = (
  subst (IsRising key_cmp) (sym (behind_is t rows)) (rising_left (position_or_len (other t) rows) rows rising),
  subst (AreFrom (t + 1)) (sym (behind_is t rows)) (in_front t rows rising from).1,
)

-- the lines of a table, and of those behind it
pub table_and_others : (t : ℕ) (table : TableValue) (tables : List TableValue) (rows : DumpRowsValue) → IsRising key_cmp rows → AreFrom t rows
    → table_lines t (table ∷ tables) rows ≡ (table_line table.name ++ row_lines (rows_of_table t rows)) ++ table_lines (t + 1) tables (behind_table t rows)
table_and_others t table tables rows rising from =
    let n : ℕ = position_or_len (other t) rows in
    let front : rows_of_table t rows ≡ take n rows = (in_front t rows rising from).0 in
    first_table t n table tables rows front
    ∙ ap (λ (l : DumpRowsValue). (table_line table.name ++ row_lines l) ++ table_lines (t + 1) tables (drop n rows)) (sym front)
    ∙ ap (λ (l : DumpRowsValue). (table_line table.name ++ row_lines (rows_of_table t rows)) ++ table_lines (t + 1) tables l) (sym (behind_is t rows))

-- the line of a row that is taken out, and those of the others of its table
pub taken_line : (t : ℕ) (old : DumpRowsValue) (row : RowValue) (new : DumpRowsValue) → IsTakenOf t old row new → row_lines (rows_of_table t old) ≡ row_line row ++ row_lines (rows_of_table t new)
taken_line t old row new taken =
    ap (λ (rows : DumpRowsValue). row_lines (rows_of_table t rows)) taken.parts
    ∙ ap (λ (b : Bool). row_lines (cond b ((taken.key, row) ∷ rows_of_table t new) (rows_of_table t new))) taken.of_table

-- the rows behind its table stay
pub taken_behind : (t : ℕ) (old : DumpRowsValue) (row : RowValue) (new : DumpRowsValue) → IsTakenOf t old row new → behind_table t new ≡ behind_table t old
taken_behind t old row new taken =
    sym (ap (behind_table t) taken.parts ∙ ap (λ (b : Bool). cond b (behind_table t new) ((taken.key, row) ∷ new)) taken.of_table)

-- no row of the table is left where the first one isn't of it
pub none_taken : (t : ℕ) (rows : DumpRowsValue) → IsRising key_cmp rows → AreFrom t rows → IsOtherFirst t rows → (rows_of_table t rows ≡ []) × (behind_table t rows ≡ rows)
none_taken t [] rising from first = (refl, refl)
none_taken t (row ∷ rows) rising from first =
    let later : t + 1 ≤ row.0.table = grind (arith, nat_tests, from.0, first) in
    (none_before t (t + 1) (row ∷ rows) (omega arith) (from_first (t + 1) row rows rising later), ap (λ (b : Bool). cond b (behind_table t rows) (row ∷ rows)) first)

-- the keys of a target's rows rise, whoever owns them
above_unowned : (key : KeyValue) (entries : List (KeyValue × (ℕ × RowValue))) → AllByRecursion (λ (later : KeyValue × (ℕ × RowValue)). key_cmp key later.0 ≡ Less) entries → AllByRecursion (λ (later : KeyValue × RowValue). key_cmp key later.0 ≡ Less) (all_rows entries)
above_unowned key [] above = tt
above_unowned key (entry ∷ entries) above = (above.0, above_unowned key entries above.1)

pub rising_unowned : (entries : List (KeyValue × (ℕ × RowValue))) → IsRising key_cmp entries → IsRising key_cmp (all_rows entries)
rising_unowned [] rising = tt
rising_unowned (entry ∷ entries) rising = (above_unowned entry.0 entries rising.0, rising_unowned entries rising.1)

-- there is no table before the first one
pub from_none : (rows : DumpRowsValue) → AreFrom 0 rows
from_none [] = tt
from_none (row ∷ rows) = (omega arith, from_none rows)

-- ---- columns

-- of each table of a plan a column is kept, since its key is
pub kept_some : (plan : PlanValue) (t : ℕ) → t < length plan.tables → IsPlan plan → 1 ≤ length (kept_columns_of plan t)
kept_some plan t less is =
    let there : (table : TableValue) × (slice_get plan.tables t ≡ Some table) = place_of plan.tables t less in
    let table : IsTable there.0 = is.tables.each_table t there.0 there.1 in
    let first : (place : ℕ) × (slice_get there.0.key 0 ≡ Some place) = place_of there.0.key 0 (omega (arith, table.key_count.0)) in
    let held : Holds there.0.kept first.0 = table.kept_columns.key_kept 0 first.0 first.1 in
    let within : held.0 < length there.0.kept = slice_get_within there.0.kept held.0 first.0 held.1 in
    subst (λ (o : Option TableValue). 1 ≤ length (option_map_or (λ (table : TableValue). table.kept) o [])) (sym there.1) (omega (arith, within))
