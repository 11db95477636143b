-- Lines that can stand one behind the other are those of dumps.
use Rattle.std.proofs.Common.{◌≡◌, ℕ, zero, suc, ◌+◌, ◌<◌, ◌≤◌, ◌⊎◌, inl, inr, List, [], ◌∷◌, ◌++◌, length, take, drop, get_or, cond, true, false, refl, sym, ap, ◌∙◌, append_assoc, append-nil, Bool, Option, Some, None, arith, subst, Ok, Err, Result}
use Rattle.std.specs.Prelude.{◌==◌, slice_get, codes, IsErr}
use Rattle.std.specs.List.{AllByRecursion}
use Rattle.std.specs.Option.{option_map_or}
use Rattle.std.specs.declared.cmp.Ordering.TheVariants.{Less}
use Rattle.std.proofs.lemmas.Bool.{cases_lt, true≢false}
use Rattle.std.proofs.lemmas.Bool.Decides.{nat_tests}
use Rattle.std.proofs.lemmas.List.{take_more, take_all, length-take-le, length-append, append_cancel_left, take-append-drop, take-append-le}
use Rattle.std.proofs.lemmas.List.Concat.{flat_map-cons, flat_map-append}
use Rattle.std.proofs.lemmas.List.Elements.{filter-append}
use Rattle.std.proofs.lemmas.Option.{slice_get-get_or, same_Some}
use Rattle.std.specs.Str.{bytes_eq}
use Rattle.std.proofs.lemmas.Slice.Eq.{bytes_eq-Decides}
use Rattle.list_laws.proofs.Fronts.{each}
use Rattle.filter_rule.specs.PlanTable.{TableValue}
use Rattle.filter_rule.specs.PlanValue.{PlanValue, kept_columns_of, table_name}
use Rattle.pk_copy.specs.KeyOfKept.{key_of_kept}
use Rattle.pk_copy.specs.KeyOrder.{key_cmp}
use Rattle.pk_copy.specs.KeyValue.{KeyValue}
use Rattle.target_tables.specs.Rising.{AreAbove, AreBelow}
use Rattle.target_tables.proofs.Order.{all_join, all_right, before_middle, behind_middle}
use Rattle.dump.specs.Dump.{row_line, row_lines, rows_of_table, table_line, table_lines}
use Rattle.dump.specs.DumpReading.{AreByteValues, FitsPlan, AreRowsOf, IsDump, Behind, BeginsTable, AddsRow, CanStand, Stand, NoLineStands, IsFirstBad, AreReadOnce, at_front, joined_lines}
use Rattle.dump.specs.Private.Reading.{row_front, IsReadSoFar, NoRowStands, TakesLine, TakesRow, TakesRowLine}
use Rattle.dump.specs.DumpRowsValue.{RowValue, DumpRowsValue}
use Rattle.dump.proofs.ReadingLaws.{row_there}
use Rattle.dump.proofs.RowsLaws.{rising_pushed}
use Rattle.dump.proofs.TableLaws.{table_of_less}

-- ---- a line that can stand is the only one

-- no line of a row is that of a table's name
not_both : (name r : List ℕ) (row : RowValue) (q : List ℕ) → table_line name ++ r ≡ row_line row ++ q → ⊥
not_both name r [] q e = true≢false (sym (ap (λ (l : List ℕ). get_or l 0 0 == 10) e))
not_both name r (None ∷ cs) q e = true≢false (sym (ap (λ (l : List ℕ). get_or l 0 0 == 78) e))
not_both name r (Some v ∷ cs) q e = true≢false (sym (ap (λ (l : List ℕ). get_or l 0 0 == 120) e))

-- rows of as many columns that are spelled in front of one text are one
same_columns : (x y : RowValue) (r q : List ℕ) → length x ≡ length y → AreByteValues x → AreByteValues y → row_line x ++ r ≡ row_line y ++ q → (x ≡ y) × (r ≡ q)
same_columns [] [] r q w p s e = (refl, append_cancel_left (10 ∷ []) r q e)
same_columns [] (d ∷ ds) r q w p s e = absurd (omega arith)
same_columns (c ∷ cs) [] r q w p s e = absurd (omega arith)
same_columns (c ∷ cs) (d ∷ ds) r q w p s e =
    let a = row_there (length cs) (c ∷ cs) r refl p in
    let b = row_there (length cs) (d ∷ ds) q (sym w) s in
    let both = same_Some (c ∷ cs, r) (d ∷ ds, q) (sym a ∙ ap (row_front (length cs)) e ∙ b) in
    (ap (λ (pair : RowValue × List ℕ). pair.0) both, ap (λ (pair : RowValue × List ℕ). pair.1) both)

ok_same : {X E : Type 0} (x y : X) → ◌≡◌ {A = Result X E} (Ok x) (Ok y) → x ≡ y
ok_same x y e = cc

same_row : (plan : PlanValue) (a b : KeyValue × RowValue) (r q : List ℕ) → FitsPlan plan a → FitsPlan plan b → a.0.table ≡ b.0.table → row_line a.1 ++ r ≡ row_line b.1 ++ q → (a ≡ b) × (r ≡ q)
same_row plan a b r q fits other tables e =
    let width : length a.1 ≡ length b.1 = fits.width ∙ ap (λ (t : ℕ). length (kept_columns_of plan t)) tables ∙ sym other.width in
    let same = same_columns a.1 b.1 r q width fits.bytes other.bytes e in
    let key : a.0 ≡ b.0 = ok_same a.0 b.0 (sym fits.key ∙ ap (λ (t : ℕ). key_of_kept plan t a.1) tables ∙ ap (key_of_kept plan b.0.table) same.0 ∙ other.key) in
    (λ i. (key i, same.0 i), same.1)

same_line : (plan : PlanValue) (s n m : Behind) (l k r q : List ℕ) → CanStand plan s n l → CanStand plan s m k → l ++ r ≡ k ++ q → (n ≡ m) × (r ≡ q)
same_line plan s n m l k r q (inl x) (inl y) e =
    let lines : l ≡ k = x.is_line ∙ sym y.is_line in
    (x.is_new ∙ sym y.is_new, append_cancel_left l r q (e ∙ ap (λ (z : List ℕ). z ++ q) (sym lines)))
same_line plan s n m l k r q (inl x) (inr y) e =
    absurd (not_both (table_name plan s.begun) r y.row.1 q (ap (λ (z : List ℕ). z ++ r) (sym x.is_line) ∙ e ∙ ap (λ (z : List ℕ). z ++ q) y.is_line))
same_line plan s n m l k r q (inr x) (inl y) e =
    absurd (not_both (table_name plan s.begun) q x.row.1 r (ap (λ (z : List ℕ). z ++ q) (sym y.is_line) ∙ sym e ∙ ap (λ (z : List ℕ). z ++ r) x.is_line))
same_line plan s n m l k r q (inr x) (inr y) e =
    let tables : x.row.0.table ≡ y.row.0.table = omega (arith, x.begun_last, y.begun_last) in
    let same = same_row plan x.row y.row r q x.fits y.fits tables (ap (λ (z : List ℕ). z ++ r) (sym x.is_line) ∙ e ∙ ap (λ (z : List ℕ). z ++ q) y.is_line) in
    let news : n ≡ m = x.is_new ∙ ap (λ (row : KeyValue × RowValue). record { begun = s.begun; rows = s.rows ++ row ∷ [] }) same.0 ∙ sym y.is_new in
    (news, same.1)

row_line_some : (row : RowValue) → [] ≡ row_line row → ⊥
row_line_some [] e = cc
row_line_some (None ∷ cs) e = cc
row_line_some (Some v ∷ cs) e = cc

line_some : (plan : PlanValue) (s n : Behind) → CanStand plan s n [] → ⊥
line_some plan s n (inl x) = let e : [] ≡ table_line (table_name plan s.begun) = x.is_line in cc
line_some plan s n (inr x) = row_line_some x.row.1 x.is_line

length_some : (l : List ℕ) → (l ≡ [] → ⊥) → 0 < length l
length_some [] h = absurd (h refl)
length_some (b ∷ l) h = omega arith

line_length : (plan : PlanValue) (s n : Behind) (line : List ℕ) → CanStand plan s n line → 0 < length line
line_length plan s n line can = length_some line (λ e. line_some plan s n (subst (CanStand plan s n) e can))

pub none_at_end : (plan : PlanValue) (s : Behind) → NoLineStands plan s []
none_at_end plan s [] others new e can = line_some plan s new can
none_at_end plan s (b ∷ line) others new e can = cc

joined_first : (l : List ℕ) (ls : List (List ℕ)) (r : List ℕ) → joined_lines (l ∷ ls) ++ r ≡ l ++ (joined_lines ls ++ r)
joined_first l ls r = ap (λ (t : List ℕ). t ++ r) (flat_map-cons (λ (line : List ℕ). line) l ls) ∙ append_assoc l (joined_lines ls) r

-- lines that can stand up to where none can are the only ones
pub same_end : (plan : PlanValue) (ls ms : List (List ℕ)) (s e f : Behind) (r q : List ℕ) → Stand plan s ls e → Stand plan s ms f → joined_lines ls ++ r ≡ joined_lines ms ++ q → NoLineStands plan e r → NoLineStands plan f q
    → (e ≡ f) × (r ≡ q) × (length ls ≡ length ms)
same_end plan [] [] s e f r q one two is stops ends = (sym one ∙ two, is, refl)
same_end plan [] (m ∷ ms) s e f r q one (now, can, others) is stops ends =
    absurd (stops m (joined_lines ms ++ q) now (is ∙ joined_first m ms q) (subst (λ (z : Behind). CanStand plan z now m) one can))
same_end plan (l ∷ ls) [] s e f r q (now, can, others) two is stops ends =
    absurd (ends l (joined_lines ls ++ r) now (sym is ∙ joined_first l ls r) (subst (λ (z : Behind). CanStand plan z now l) two can))
same_end plan (l ∷ ls) (m ∷ ms) s e f r q (now, can, others) (then, may, rest) is stops ends =
    let line = same_line plan s now then l m (joined_lines ls ++ r) (joined_lines ms ++ q) can may (sym (joined_first l ls r) ∙ is ∙ joined_first m ms q) in
    let tail = same_end plan ls ms now e f r q others (subst (λ (z : Behind). Stand plan z ms f) (sym line.0) rest) line.1 stops ends in
    (tail.0, tail.1, ap suc tail.2)

-- ---- the text of lines that can stand

-- what is true behind lines that can stand
pub record IsSound (plan : PlanValue) (s : Behind) : Type 0 where
  pub few : s.begun ≤ length plan.tables
  pub rows_of_plan : AreRowsOf plan s.rows
  pub under : AllByRecursion (λ (row : KeyValue × RowValue). row.0.table < s.begun) s.rows

pub sound_front : (plan : PlanValue) → IsSound plan at_front
sound_front plan = record { few = omega arith; rows_of_plan = record { rising = tt; each_row = tt }; under = tt }

abbrev written : PlanValue → Behind → List ℕ
written plan s = table_lines 0 (take s.begun plan.tables) s.rows

lines_append : (t : ℕ) (xs ys : List TableValue) (rows : DumpRowsValue) → table_lines t (xs ++ ys) rows ≡ table_lines t xs rows ++ table_lines (t + length xs) ys rows
lines_append t [] ys rows = ap (λ (k : ℕ). table_lines k ys rows) (omega arith)
lines_append t (x ∷ xs) ys rows =
    let first : List ℕ = table_line x.name ++ row_lines (rows_of_table t rows) in
    let place : t + 1 + length xs ≡ t + suc (length xs) = omega arith in
    ap (λ (l : List ℕ). first ++ l) (lines_append (t + 1) xs ys rows ∙ ap (λ (k : ℕ). table_lines (t + 1) xs rows ++ table_lines k ys rows) place)
    ∙ sym (append_assoc first (table_lines (t + 1) xs rows) (table_lines (t + suc (length xs)) ys rows))

no_rows : (t : ℕ) (rows : DumpRowsValue) → AllByRecursion (λ (row : KeyValue × RowValue). row.0.table < t) rows → rows_of_table t rows ≡ []
no_rows t [] under = refl
no_rows t (row ∷ rows) under =
    let differs : (row.0.table == t) ≡ false = grind (arith, nat_tests, under.0) in
    ap (λ b. cond b (row ∷ rows_of_table t rows) (rows_of_table t rows)) differs ∙ no_rows t rows under.1

-- the table at a place
table_there : (tables : List TableValue) (b : ℕ) → b < length tables → (table : TableValue) × (slice_get tables b ≡ Some table) × (take (b + 1) tables ≡ take b tables ++ table ∷ [])
table_there [] b lt = absurd (omega arith)
table_there (x ∷ xs) b lt = (get_or (x ∷ xs) b x, slice_get-get_or (x ∷ xs) b x lt, take_more (x ∷ xs) b x lt)

-- the line of the next table's name adds to the text
table_adds : (plan : PlanValue) (s : Behind) → IsSound plan s → s.begun < length plan.tables → table_lines 0 (take (s.begun + 1) plan.tables) s.rows ≡ written plan s ++ table_line (table_name plan s.begun)
table_adds plan s sound lt =
    let there = table_there plan.tables s.begun lt in
    let place : 0 + length (take s.begun plan.tables) ≡ s.begun = omega (arith, length-take-le s.begun plan.tables sound.few) in
    let none = no_rows s.begun s.rows sound.under in
    let name : there.0.name ≡ table_name plan s.begun = ap (λ (o : Option TableValue). option_map_or (λ table. table.name) o []) (sym there.1) in
    ap (λ (l : List TableValue). table_lines 0 l s.rows) there.2
    ∙ lines_append 0 (take s.begun plan.tables) (there.0 ∷ []) s.rows
    ∙ ap (λ (k : ℕ). written plan s ++ table_lines k (there.0 ∷ []) s.rows) place
    ∙ ap (λ (l : DumpRowsValue). written plan s ++ (table_line there.0.name ++ row_lines l ++ [])) none
    ∙ ap (λ (l : List ℕ). written plan s ++ l) (append-nil (table_line there.0.name ++ []) ∙ append-nil (table_line there.0.name) ∙ ap table_line name)

-- the row of a table behind others of it
same_table : (t : ℕ) (rows : DumpRowsValue) (row : KeyValue × RowValue) → row.0.table ≡ t → rows_of_table t (rows ++ row ∷ []) ≡ rows_of_table t rows ++ row ∷ []
same_table t rows row e =
    let same : (row.0.table == t) ≡ true = grind (arith, nat_tests, e) in
    filter-append (λ (r : KeyValue × RowValue). r.0.table == t) rows (row ∷ []) ∙ ap (λ b. rows_of_table t rows ++ cond b (row ∷ []) []) same

other_table : (t : ℕ) (rows : DumpRowsValue) (row : KeyValue × RowValue) → t < row.0.table → rows_of_table t (rows ++ row ∷ []) ≡ rows_of_table t rows
other_table t rows row lt =
    let differs : (row.0.table == t) ≡ false = grind (arith, nat_tests, lt) in
    filter-append (λ (r : KeyValue × RowValue). r.0.table == t) rows (row ∷ []) ∙ ap (λ b. rows_of_table t rows ++ cond b (row ∷ []) []) differs ∙ append-nil (rows_of_table t rows)

row_lines_more : (rows : DumpRowsValue) (row : KeyValue × RowValue) → row_lines (rows ++ row ∷ []) ≡ row_lines rows ++ row_line row.1
row_lines_more rows row =
    flat_map-append (λ (r : KeyValue × RowValue). row_line r.1) rows (row ∷ [])
    ∙ ap (λ (l : List ℕ). row_lines rows ++ l) (flat_map-cons (λ (r : KeyValue × RowValue). row_line r.1) row [] ∙ append-nil (row_line row.1))

-- the line of a row of the last table adds to the text
row_adds : (t : ℕ) (tables : List TableValue) (rows : DumpRowsValue) (row : KeyValue × RowValue) → row.0.table + 1 ≡ t + length tables → t ≤ row.0.table → table_lines t tables (rows ++ row ∷ []) ≡ table_lines t tables rows ++ row_line row.1
row_adds t [] rows row last le = absurd (omega arith)
row_adds t (x ∷ []) rows row last le =
    let here : row.0.table ≡ t = omega arith in
    let name : List ℕ = table_line x.name in
    ap (λ (l : DumpRowsValue). name ++ row_lines l ++ []) (same_table t rows row here)
    ∙ append-nil (name ++ row_lines (rows_of_table t rows ++ row ∷ []))
    ∙ ap (λ (l : List ℕ). name ++ l) (row_lines_more (rows_of_table t rows) row)
    ∙ sym (append_assoc name (row_lines (rows_of_table t rows)) (row_line row.1))
    ∙ ap (λ (l : List ℕ). l ++ row_line row.1) (sym (append-nil (name ++ row_lines (rows_of_table t rows))))
row_adds t (x ∷ y ∷ ys) rows row last le =
    let further : t < row.0.table = omega arith in
    let first : List ℕ = table_line x.name ++ row_lines (rows_of_table t rows) in
    ap (λ (l : DumpRowsValue). table_line x.name ++ row_lines l ++ table_lines (t + 1) (y ∷ ys) (rows ++ row ∷ [])) (other_table t rows row further)
    ∙ ap (λ (l : List ℕ). first ++ l) (row_adds (t + 1) (y ∷ ys) rows row (omega arith) (omega arith))
    ∙ sym (append_assoc first (table_lines (t + 1) (y ∷ ys) rows) (row_line row.1))

record IsStep (plan : PlanValue) (s n : Behind) (line : List ℕ) : Type 0 where
  pub sound : IsSound plan n
  pub text : written plan n ≡ written plan s ++ line

table_steps : (plan : PlanValue) (s n : Behind) (line : List ℕ) → IsSound plan s → BeginsTable plan s n line → IsStep plan s n line
table_steps plan s n line sound x =
    subst (λ (z : Behind). IsStep plan s z line) (sym x.is_new)
    record {
      sound = record { few = omega (arith, x.more); rows_of_plan = sound.rows_of_plan; under = each (λ (row : KeyValue × RowValue). row.0.table < s.begun) (λ (row : KeyValue × RowValue). row.0.table < s.begun + 1) (λ row lt. omega arith) s.rows sound.under };
      text = table_adds plan s sound x.more ∙ ap (λ (l : List ℕ). written plan s ++ l) (sym x.is_line);
    }

row_steps : (plan : PlanValue) (s n : Behind) (line : List ℕ) → IsSound plan s → AddsRow plan s n line → IsStep plan s n line
row_steps plan s n line sound x =
    let count : length (take s.begun plan.tables) ≡ s.begun = length-take-le s.begun plan.tables sound.few in
    subst (λ (z : Behind). IsStep plan s z line) (sym x.is_new)
    record {
      sound = record {
        few = sound.few;
        rows_of_plan = record { rising = rising_pushed s.rows x.row sound.rows_of_plan.rising x.above; each_row = all_join (FitsPlan plan) s.rows (x.row ∷ []) sound.rows_of_plan.each_row (x.fits, tt) };
        under = all_join (λ (row : KeyValue × RowValue). row.0.table < s.begun) s.rows (x.row ∷ []) sound.under (omega (arith, x.begun_last), tt);
      };
      text = row_adds 0 (take s.begun plan.tables) s.rows x.row (omega (arith, x.begun_last, count)) (omega arith) ∙ ap (λ (l : List ℕ). written plan s ++ l) (sym x.is_line);
    }

line_steps : (plan : PlanValue) (s n : Behind) (line : List ℕ) → IsSound plan s → CanStand plan s n line → IsStep plan s n line
line_steps plan s n line sound (inl x) = table_steps plan s n line sound x
line_steps plan s n line sound (inr x) = row_steps plan s n line sound x

stand_steps : (plan : PlanValue) (lines : List (List ℕ)) (s e : Behind) → IsSound plan s → Stand plan s lines e → IsStep plan s e (joined_lines lines)
stand_steps plan [] s e sound is = subst (λ (z : Behind). IsStep plan s z []) is record { sound = sound; text = sym (append-nil (written plan s)) }
stand_steps plan (line ∷ lines) s e sound (now, can, others) =
    let first = line_steps plan s now line sound can in
    let rest = stand_steps plan lines now e first.sound others in
    record {
      sound = rest.sound;
      text =
          rest.text ∙ ap (λ (l : List ℕ). l ++ joined_lines lines) first.text ∙ append_assoc (written plan s) line (joined_lines lines)
          ∙ ap (λ (l : List ℕ). written plan s ++ l) (sym (flat_map-cons (λ (l : List ℕ). l) line lines));
    }

-- lines that can stand and begin all tables are a dump
pub stand_is_dump : (plan : PlanValue) (lines : List (List ℕ)) (e : Behind) (text : List ℕ) → Stand plan at_front lines e → text ≡ joined_lines lines → length plan.tables ≤ e.begun → IsDump plan e.rows text
stand_is_dump plan lines e text stand is all =
    let step = stand_steps plan lines at_front e (sound_front plan) stand in
    record {
      rows_of_plan = step.sound.rows_of_plan;
      is_text = is ∙ sym step.text ∙ ap (λ (l : List TableValue). table_lines 0 l e.rows) (take_all e.begun plan.tables all);
    }

-- ---- the lines of a dump can stand

abbrev StandFrom : PlanValue → ℕ → DumpRowsValue → DumpRowsValue → Type 0
StandFrom plan begun done rest = (lines : List (List ℕ)) × Stand plan (record { begun = begun; rows = done }) lines (record { begun = length plan.tables; rows = done ++ rest })

-- the next table begins
then_table : (plan : PlanValue) (begun : ℕ) (done rest : DumpRowsValue) → begun < length plan.tables → StandFrom plan (begun + 1) done rest → StandFrom plan begun done rest
then_table plan begun done rest lt (lines, stand) =
    (table_line (table_name plan begun) ∷ lines, (record { begun = begun + 1; rows = done }, inl record { more = lt; is_line = refl; is_new = refl }, stand))

-- a row of the table that began last is added
then_row : (plan : PlanValue) (begun : ℕ) (done : DumpRowsValue) (row : KeyValue × RowValue) (rest : DumpRowsValue) → FitsPlan plan row → row.0.table + 1 ≡ begun → AreBelow key_cmp row.0 done → StandFrom plan begun (done ++ row ∷ []) rest
    → StandFrom plan begun done (row ∷ rest)
then_row plan begun done row rest fits last below (lines, stand) = (
  row_line row.1 ∷ lines,
  (
    record { begun = begun; rows = done ++ row ∷ [] },
    inr record { row = row; fits = fits; begun_last = last; above = below; is_line = refl; is_new = refl },
    subst (λ (l : DumpRowsValue). Stand plan (record { begun = begun; rows = done ++ row ∷ [] }) lines (record { begun = length plan.tables; rows = l })) (append_assoc done (row ∷ []) rest) stand,
  ),
)

-- rows from a table on
abbrev AreNotBefore : ℕ → DumpRowsValue → Type 0
AreNotBefore begun rows = AllByRecursion (λ (row : KeyValue × RowValue). begun ≤ row.0.table + 1) rows

not_before : (begun : ℕ) (row : KeyValue × RowValue) (rest : DumpRowsValue) → AreAbove key_cmp row.0 rest → begun ≤ row.0.table + 1 → AreNotBefore begun (row ∷ rest)
not_before begun row rest above le = (le, each (λ (later : KeyValue × RowValue). key_cmp row.0 later.0 ≡ Less) (λ (later : KeyValue × RowValue). begun ≤ later.0.table + 1) (λ later less. omega (arith, table_of_less row.0 later.0 less, le)) rest above)

abbrev Leads : PlanValue → ℕ → Type 0
Leads plan fuel = (begun : ℕ) (done rest : DumpRowsValue) → length plan.tables + length rest ≡ begun + fuel → begun ≤ length plan.tables → AreRowsOf plan (done ++ rest) → AreNotBefore begun rest → StandFrom plan begun done rest

leads_row : (f : ℕ) (plan : PlanValue) (begun : ℕ) (done : DumpRowsValue) (row : KeyValue × RowValue) (rest : DumpRowsValue) → Leads plan f → length plan.tables + length (row ∷ rest) ≡ begun + suc f → AreRowsOf plan (done ++ row ∷ rest) → AreNotBefore begun (row ∷ rest)
    → (begun < row.0.table + 1) ⊎ (row.0.table + 1 ≤ begun) → StandFrom plan begun done (row ∷ rest)
leads_row f plan begun done row rest more fuel are from (inl lt) =
    let fits = (all_right (FitsPlan plan) done (row ∷ rest) are.each_row).0 in
    let above = behind_middle (λ a b. key_cmp a b ≡ Less) done row rest are.rising in
    then_table plan begun done (row ∷ rest) (omega (arith, fits.table)) (more (begun + 1) done (row ∷ rest) (omega arith) (omega (arith, fits.table)) are (not_before (begun + 1) row rest above (omega arith)))
leads_row f plan begun done row rest more fuel are from (inr le) =
    let fits = (all_right (FitsPlan plan) done (row ∷ rest) are.each_row).0 in
    let last : row.0.table + 1 ≡ begun = omega (arith, from.0) in
    let below = before_middle (λ a b. key_cmp a b ≡ Less) done row rest are.rising in
    then_row plan begun done row rest fits last below
    (more begun (done ++ row ∷ []) rest (omega arith) (omega (arith, fits.table)) (subst (AreRowsOf plan) (sym (append_assoc done (row ∷ []) rest)) are) from.1)

leads : (fuel : ℕ) (plan : PlanValue) → Leads plan fuel
leads zero plan begun done [] fuel few are from =
    let all : begun ≡ length plan.tables = omega arith in
    let same : done ≡ done ++ [] = sym (append-nil done) in
    ([], λ i. record { begun = all i; rows = same i })
leads zero plan begun done (row ∷ rest) fuel few are from = absurd (omega arith)
leads (suc f) plan begun done [] fuel few are from = then_table plan begun done [] (omega arith) (leads f plan (begun + 1) done [] (omega arith) (omega arith) are tt)
leads (suc f) plan begun done (row ∷ rest) fuel few are from = leads_row f plan begun done row rest (leads f plan) fuel are from (cases_lt begun (row.0.table + 1))

all_not_before : (rows : DumpRowsValue) → AreNotBefore 0 rows
all_not_before [] = tt
all_not_before (row ∷ rows) = (omega arith, all_not_before rows)

-- a dump as lines that can stand
pub record IsLines (plan : PlanValue) (rows : DumpRowsValue) (text : List ℕ) : Type 0 where
  pub lines : List (List ℕ)
  pub stand : Stand plan at_front lines (record { begun = length plan.tables; rows = rows })
  pub is_text : text ≡ joined_lines lines

pub dump_lines : (plan : PlanValue) (rows : DumpRowsValue) (text : List ℕ) → IsDump plan rows text → IsLines plan rows text
dump_lines plan rows text dump =
    let lead = leads (length plan.tables + length rows) plan 0 [] rows (omega arith) (omega arith) dump.rows_of_plan (all_not_before rows) in
    let again = stand_is_dump plan lead.0 (record { begun = length plan.tables; rows = rows }) (joined_lines lead.0) lead.1 refl (omega arith) in
    record { lines = lead.0; stand = lead.1; is_text = dump.is_text ∙ sym again.is_text }

pub dumps_determine : (plan : PlanValue) (text : List ℕ) (rows others : DumpRowsValue) → IsDump plan rows text → IsDump plan others text → rows ≡ others
dumps_determine plan text rows others one two =
    let a = dump_lines plan rows text one in
    let b = dump_lines plan others text two in
    let ends : joined_lines a.lines ++ [] ≡ joined_lines b.lines ++ [] = ap (λ (l : List ℕ). l ++ []) (sym a.is_text ∙ b.is_text) in
    let same = same_end plan a.lines b.lines at_front _ _ [] [] a.stand b.stand ends (none_at_end plan _) (none_at_end plan _) in
    ap (λ (s : Behind). s.rows) same.0

-- no dump has a line that can't stand
pub no_dump : (plan : PlanValue) (rows : DumpRowsValue) (text : List ℕ) (n : ℕ) → IsFirstBad plan text n → IsDump plan rows text → ⊥
no_dump plan rows text n bad dump =
    let a = dump_lines plan rows text dump in
    let ends : joined_lines bad.lines ++ bad.rest ≡ joined_lines a.lines ++ [] = sym bad.parts ∙ a.is_text ∙ sym (append-nil (joined_lines a.lines)) in
    let same = same_end plan bad.lines a.lines at_front bad.now _ bad.rest [] bad.stand a.stand ends bad.stops (none_at_end plan _) in
    bad.unfinished (same.1, ap (λ (s : Behind). s.begun) same.0)

-- the first line that can't stand is one
pub one_bad : (plan : PlanValue) (text : List ℕ) (n m : ℕ) → IsFirstBad plan text n → IsFirstBad plan text m → n ≡ m
one_bad plan text n m a b =
    let same = same_end plan a.lines b.lines at_front a.now b.now a.rest b.rest a.stand b.stand (sym a.parts ∙ b.parts) a.stops b.stops in
    omega (arith, a.number, b.number, same.2)

pub read_once : AreReadOnce
read_once plan text (Ok rows) (Ok others) one other = ap Ok (dumps_determine plan text rows others one other)
read_once plan text (Ok rows) (Err n) one other = absurd (no_dump plan rows text n other one)
read_once plan text (Err n) (Ok rows) one other = absurd (no_dump plan rows text n one other)
read_once plan text (Err n) (Err m) one other = ap Err (one_bad plan text n m one other)

-- ---- the loop

stand_more : (plan : PlanValue) (lines : List (List ℕ)) (s now new : Behind) (line : List ℕ) → Stand plan s lines now → CanStand plan now new line → Stand plan s (lines ++ line ∷ []) new
stand_more plan [] s now new line is can = (new, subst (λ (z : Behind). CanStand plan z new line) (sym is) can, refl)
stand_more plan (l ∷ lines) s now new line (then, may, others) can = (then, may, stand_more plan lines then now new line others can)

pub read_more : (plan : PlanValue) (text : List ℕ) (now new : Behind) (rest behind : List ℕ) (n : ℕ) → IsReadSoFar plan text now rest n → TakesLine plan now new rest behind → IsReadSoFar plan text new behind (n + 1)
read_more plan text now new rest behind n so_far taken =
    let some : 0 < length taken.line = line_length plan now new taken.line taken.can in
    record {
      lines = so_far.lines ++ taken.line ∷ [];
      parts =
          so_far.parts ∙ ap (λ (l : List ℕ). joined_lines so_far.lines ++ l) taken.parts ∙ sym (append_assoc (joined_lines so_far.lines) taken.line behind)
          ∙ ap (λ (l : List ℕ). l ++ behind) (sym (flat_map-append (λ (l : List ℕ). l) so_far.lines (taken.line ∷ []) ∙ ap (λ (l : List ℕ). joined_lines so_far.lines ++ l) (flat_map-cons (λ (l : List ℕ). l) taken.line [] ∙ append-nil taken.line)));
      stand = stand_more plan so_far.lines at_front now new taken.line so_far.stand taken.can;
      number = omega (arith, so_far.number, length-append so_far.lines (taken.line ∷ []));
      bound = omega (arith, so_far.bound, some, ap length taken.parts, length-append taken.line behind);
    }

-- no line that can stand is in front of what is left
pub bad_line : (plan : PlanValue) (text : List ℕ) (now : Behind) (rest : List ℕ) (n : ℕ) → IsReadSoFar plan text now rest n → NoLineStands plan now rest → 0 < length rest → IsFirstBad plan text n
bad_line plan text now rest n so_far stops some = record {
  lines = so_far.lines;
  now = now;
  rest = rest;
  parts = so_far.parts;
  stand = so_far.stand;
  stops = stops;
  unfinished = λ both. let none : length rest ≡ 0 = ap length both.0 in absurd (omega arith);
  number = so_far.number;
}

nothing_left : (rest : List ℕ) → length rest ≡ 0 → rest ≡ []
nothing_left [] e = refl
nothing_left (b ∷ rest) e = absurd (omega arith)

pub missing_line : (plan : PlanValue) (text : List ℕ) (now : Behind) (rest : List ℕ) (n : ℕ) → IsReadSoFar plan text now rest n → length rest ≡ 0 → now.begun < length plan.tables → IsFirstBad plan text n
missing_line plan text now rest n so_far none lt = record {
  lines = so_far.lines;
  now = now;
  rest = rest;
  parts = so_far.parts;
  stand = so_far.stand;
  stops = subst (NoLineStands plan now) (sym (nothing_left rest none)) (none_at_end plan now);
  unfinished = λ both. absurd (omega (arith, both.1));
  number = so_far.number;
}

pub read_all : (plan : PlanValue) (text : List ℕ) (now : Behind) (rest : List ℕ) (n : ℕ) → IsReadSoFar plan text now rest n → length rest ≡ 0 → length plan.tables ≤ now.begun → IsDump plan now.rows text
read_all plan text now rest n so_far none all =
    stand_is_dump plan so_far.lines now text so_far.stand (so_far.parts ∙ ap (λ (l : List ℕ). joined_lines so_far.lines ++ l) (nothing_left rest none) ∙ append-nil (joined_lines so_far.lines)) all

-- ---- the line of a row

-- the row that is taken is the one that can be added
same_taken : (plan : PlanValue) (old new : Behind) (t width : ℕ) (row : RowValue) (text behind line rest : List ℕ) → TakesRow width row text behind → width ≡ length (kept_columns_of plan t) → old.begun ≡ t + 1 → text ≡ line ++ rest → (x : AddsRow plan old new line)
    → (x.row.1 ≡ row) × (x.row.0.table ≡ t)
same_taken plan old new t width row text behind line rest taken wide last is x =
    let table : x.row.0.table ≡ t = omega (arith, x.begun_last, last) in
    let widths : length x.row.1 ≡ length row = x.fits.width ∙ ap (λ (k : ℕ). length (kept_columns_of plan k)) table ∙ sym wide ∙ sym taken.width_is in
    let text_is : row_line x.row.1 ++ rest ≡ row_line row ++ behind = ap (λ (l : List ℕ). l ++ rest) (sym x.is_line) ∙ sym is ∙ taken.parts in
    ((same_columns x.row.1 row rest behind widths x.fits.bytes taken.bytes text_is).0, table)

not_ok : {X E : Type 0} (r : Result X E) (x : X) → r ≡ Ok x → IsErr r → ⊥
not_ok (Ok y) x e h = true≢false (sym h)
not_ok (Err y) x e h = cc

pub key_refused : (plan : PlanValue) (old : Behind) (t width : ℕ) (row : RowValue) (text behind : List ℕ) → TakesRow width row text behind → width ≡ length (kept_columns_of plan t) → old.begun ≡ t + 1 → IsErr (key_of_kept plan t row) → NoRowStands plan old text
key_refused plan old t width row text behind taken wide last refused line rest new is x =
    let same = same_taken plan old new t width row text behind line rest taken wide last is x in
    not_ok (key_of_kept plan t row) x.row.0 (sym (ap (λ (k : ℕ). key_of_kept plan k x.row.1) same.1 ∙ ap (key_of_kept plan t) same.0) ∙ x.fits.key) refused

pub key_not_behind : (plan : PlanValue) (old : Behind) (t width : ℕ) (row : RowValue) (text behind : List ℕ) (key : KeyValue) → TakesRow width row text behind → width ≡ length (kept_columns_of plan t) → old.begun ≡ t + 1 → key_of_kept plan t row ≡ Ok key → (AreBelow key_cmp key old.rows → ⊥)
    → NoRowStands plan old text
key_not_behind plan old t width row text behind key taken wide last is_key not_below line rest new is x =
    let same = same_taken plan old new t width row text behind line rest taken wide last is x in
    let keys : x.row.0 ≡ key = ok_same x.row.0 key (sym x.fits.key ∙ ap (λ (k : ℕ). key_of_kept plan k x.row.1) same.1 ∙ ap (key_of_kept plan t) same.0 ∙ is_key) in
    not_below (subst (λ (k : KeyValue). AreBelow key_cmp k old.rows) keys x.above)

pub row_is_added : (plan : PlanValue) (old : Behind) (t width : ℕ) (row : RowValue) (text behind : List ℕ) (key : KeyValue) → TakesRow width row text behind → width ≡ length (kept_columns_of plan t) → old.begun ≡ t + 1 → t < length plan.tables → key_of_kept plan t row ≡ Ok key → key.table ≡ t
    → AreBelow key_cmp key old.rows → TakesRowLine plan old (record { begun = old.begun; rows = old.rows ++ (key, row) ∷ [] }) text behind
row_is_added plan old t width row text behind key taken wide last lt is_key table below = record {
  line = row_line row;
  parts = taken.parts;
  adds = record {
    row = (key, row);
    fits = record {
      table = omega (arith, table, lt);
      width = taken.width_is ∙ wide ∙ ap (λ (k : ℕ). length (kept_columns_of plan k)) (sym table);
      key = ap (λ (k : ℕ). key_of_kept plan k row) table ∙ is_key;
      limits = taken.limits;
      bytes = taken.bytes;
    };
    begun_last = omega (arith, table, last);
    above = below;
    is_line = refl;
    is_new = refl;
  };
}

-- ---- one line

pub table_begins : (plan : PlanValue) (old : Behind) (text rest : List ℕ) → old.begun < length plan.tables → text ≡ table_line (table_name plan old.begun) ++ rest → TakesLine plan old (record { begun = old.begun + 1; rows = old.rows }) text rest
table_begins plan old text rest lt is = record { line = table_line (table_name plan old.begun); parts = is; can = inl record { more = lt; is_line = refl; is_new = refl } }

pub none_stands : (plan : PlanValue) (old : Behind) (text : List ℕ) → (old.begun < length plan.tables → (rest : List ℕ) → text ≡ table_line (table_name plan old.begun) ++ rest → ⊥) → NoRowStands plan old text → NoLineStands plan old text
none_stands plan old text no_table no_row line others new is (inl x) = no_table x.more others (is ∙ ap (λ (l : List ℕ). l ++ others) x.is_line)
none_stands plan old text no_table no_row line others new is (inr x) = no_row line others new is x

pub name_at : (plan : PlanValue) (t : ℕ) (table : TableValue) → t < length plan.tables → table ≡ get_or plan.tables t table → table.name ≡ table_name plan t
name_at plan t table lt is =
    let there : slice_get plan.tables t ≡ Some table = slice_get-get_or plan.tables t table lt ∙ ap Some (sym is) in
    ap (λ (o : Option TableValue). option_map_or (λ z. z.name) o []) (sym there)

-- what stands behind the word of a table's line
pub behind_word : (name rest text behind : List ℕ) → text ≡ codes "table " ++ behind → text ≡ table_line name ++ rest → behind ≡ name ++ 10 ∷ rest
behind_word name rest text behind one two =
    append_cancel_left (codes "table ") behind (name ++ 10 ∷ rest)
    (sym one ∙ two ∙ append_assoc (codes "table " ++ name) (10 ∷ []) rest ∙ append_assoc (codes "table ") name (10 ∷ rest))

pub whole_line : (name rest text behind : List ℕ) → text ≡ codes "table " ++ behind → behind ≡ name ++ 10 ∷ rest → text ≡ table_line name ++ rest
whole_line name rest text behind one two =
    one ∙ ap (λ (l : List ℕ). codes "table " ++ l) two ∙ sym (append_assoc (codes "table ") name (10 ∷ rest)) ∙ sym (append_assoc (codes "table " ++ name) (10 ∷ []) rest)

-- a text in front
pub stripped : (text front rest : List ℕ) → bytes_eq (take (length front) text) front ≡ true → rest ≡ drop (length front) text → text ≡ front ++ rest
stripped text front rest same is =
    sym (take-append-drop (length front) text) ∙ ap (λ (l : List ℕ). l ++ drop (length front) text) ((bytes_eq-Decides (take (length front) text) front).0 same) ∙ ap (λ (l : List ℕ). front ++ l) (sym is)

pub not_stripped : (text front : List ℕ) → bytes_eq (take (length front) text) front ≡ false → (rest : List ℕ) → text ≡ front ++ rest → ⊥
not_stripped text front differs rest is =
    let taken : take (length front) text ≡ front = ap (take (length front)) is ∙ take-append-le (length front) front rest (omega arith) ∙ take_all (length front) front (omega arith) in
    true≢false (sym ((bytes_eq-Decides (take (length front) text) front).1 taken) ∙ differs)

pub is_zero : (n : ℕ) (b : Bool) → b ≡ (n == 0) → b ≡ true → n ≡ 0
is_zero n b e t = let h : (n == 0) ≡ true = sym e ∙ t in grind (arith, nat_tests, h)

pub is_more : (n : ℕ) (b : Bool) → b ≡ (n == 0) → b ≡ false → 0 < n
is_more zero b e f = absurd (true≢false (sym e ∙ f))
is_more (suc n) b e f = omega arith
