-- What a row event of a log is told as: rows with all columns of their table, within what a feed has.
use Rattle.std.proofs.Common.{◌≡◌, ℕ, ◌+◌, ◌≤◌, ◌^◌, zero, suc, Bool, true, false, nat_lt, nat_le, List, [], ◌∷◌, ◌++◌, length, take, drop, map, Option, None, Some, Result, Ok, Err, refl, sym, ap, subst, ◌∙◌, arith}
use Rattle.std.proofs.lemmas.Bool.{leb-true, le-ltb, eq-eqb, eqb-true, and_from, and_parts}
use Rattle.std.specs.List.{AllByRecursion, list_all, list_any}
use Rattle.std.specs.Prelude.{◌==◌, ◌&&◌, not, if◌then◌else◌, IfSome}
use Rattle.list_laws.specs.Outcome.{◌>>=◌}
use Rattle.item_readers.specs.Reading.{Reading, put_first, reading_within, reading_of}
use Rattle.proto_wire.specs.Writing.{written_fields, text_field}
use Rattle.row_view.specs.WrittenRow.{packed_fields, length_field, length_fields, written_lengths, written_values, written_row, IsWithinLimits}
use Rattle.vevent.specs.Columns.{has_columns, have_columns}
use Rattle.vevent.specs.EventValue.{ChangeValue, EventValue, Row}
use Rattle.vevent.specs.WrittenEvent.{AreWithinLimits}
use Rattle.source_feed.specs.GroupValue.{TableChangeValue}
use Rattle.source_feed.specs.PastEvents.{change_in, changes_in}
use Rattle.log_values.specs.declared.fault.ValueFault.{ValueFault}
use Rattle.log_values.specs.declared.fault.ValueFault.TheVariants.{CutValue}
use Rattle.log_tables.specs.declared.fault.TableFault.{TableFault}
use Rattle.log_tables.specs.TableMap.{MapValue}
use Rattle.log_tables.specs.Extra.{part_of}
use Rattle.log_tables.specs.Collation.{collations_at}
use Rattle.log_tables.specs.Column.{ColumnValue, WantedValue, Told, column_at, columns_in, columns_of, is_all_told, has_names, signs_told}
use Rattle.log_rows.specs.declared.change.RowsKind.{RowsKind}
use Rattle.log_rows.specs.declared.change.RowsKind.TheVariants.{Write, Update, Delete}
use Rattle.log_rows.specs.Head.{HeadValue, has_all}
use Rattle.log_rows.specs.Image.{bit_of, bits_size, cell_at, cells_at, image_at}
use Rattle.log_rows.specs.Change.{Change, change_at, changes_of}
use Rattle.log_feed.specs.declared.fault.Trouble.{Trouble}
use Rattle.log_feed.specs.declared.fault.Trouble.TheVariants.{NotAll, TooLong}
use Rattle.log_feed.specs.Fault.{of_columns}
use Rattle.log_feed.specs.Rows.{change_of, is_short, told, told_under, row_told, row_of}
use Rattle.log_feed.specs.Table.{TableValue}
use Rattle.log_laws.specs.Read.{change_read}
use Rattle.log_laws.proofs.Steps.{given, given_if, given_unless, same_value}

abbrev Image : Type 0
Image = List (Option (List ℕ))

-- ---- a row has the columns of its table

cells_wide : (nulls : List ℕ) (n : ℕ) (columns : List ColumnValue) (bytes : List ℕ) (x : Image × List ℕ) → cells_at nulls n columns bytes ≡ Ok x → length x.0 ≡ length columns
unfolding cells_at
cells_wide nulls n [] bytes x e = let is : x ≡ ([], bytes) = cc in rw is refl
cells_wide nulls n (c ∷ columns) bytes x e =
    let cell = given (cell_at (bit_of nulls n) c bytes) (λ x. cells_at nulls (n + 1) columns x.1 >>= λ others. Ok (x.0 ∷ others.0, others.1)) x e in
    let others = given (cells_at nulls (n + 1) columns cell.0.1) (λ others. Ok (cell.0.0 ∷ others.0, others.1)) x cell.2 in
    let is : x ≡ (cell.0.0 ∷ others.0.0, others.0.1) = sym (same_value (cell.0.0 ∷ others.0.0, others.0.1) x others.2) in
    rw is (ap suc (cells_wide nulls (n + 1) columns cell.0.1 others.0 others.1))

image_wide : (columns : List ColumnValue) (bytes : List ℕ) (x : Image × List ℕ) → image_at columns bytes ≡ Ok x → length x.0 ≡ length columns
unfolding image_at
image_wide columns bytes x e =
    let there = given_unless (nat_lt (length bytes) (bits_size (length columns))) (cells_at (take (bits_size (length columns)) bytes) 0 columns (drop (bits_size (length columns)) bytes)) CutValue x e in
    cells_wide (take (bits_size (length columns)) bytes) 0 columns (drop (bits_size (length columns)) bytes) x there.1

-- a change that was read has rows of so many columns, one at least
record IsRead (columns : ℕ) (c : Change) : Type 0 where
  wide : have_columns columns (change_of c) ≡ true
  there : (name : List ℕ) → change_in name (change_of c) ≡ change_read name c ∷ []

read_at : (kind : RowsKind) (columns : List ColumnValue) (bytes : List ℕ) (x : Change × List ℕ) → change_at kind columns bytes ≡ Ok x → IsRead (length columns) x.0
read_at Write columns bytes x e =
    let row = given (image_at columns bytes) (λ row. Ok (record { before = None; after = Some row.0 }, row.1)) x e in
    let is = sym (same_value (record { before = None; after = Some row.0.0 }, row.0.1) x row.2) in
    rw is (record { wide = eq-eqb (length row.0.0) (length columns) (image_wide columns bytes row.0 row.1); there = λ name. refl })
read_at Delete columns bytes x e =
    let row = given (image_at columns bytes) (λ row. Ok (record { before = Some row.0; after = None }, row.1)) x e in
    let is = sym (same_value (record { before = Some row.0.0; after = None }, row.0.1) x row.2) in
    rw is (record { wide = and_from (length row.0.0 == length columns) true (eq-eqb (length row.0.0) (length columns) (image_wide columns bytes row.0 row.1)) refl; there = λ name. refl })
read_at Update columns bytes x e =
    let row = given (image_at columns bytes) (λ row. image_at columns row.1 >>= λ new. Ok (record { before = Some row.0; after = Some new.0 }, new.1)) x e in
    let new = given (image_at columns row.0.1) (λ new. Ok (record { before = Some row.0.0; after = Some new.0 }, new.1)) x row.2 in
    let is = sym (same_value (record { before = Some row.0.0; after = Some new.0.0 }, new.0.1) x new.2) in
    rw is (record {
      wide = and_from (length row.0.0 == length columns) (length new.0.0 == length columns)
          (eq-eqb (length row.0.0) (length columns) (image_wide columns bytes row.0 row.1))
          (eq-eqb (length new.0.0) (length columns) (image_wide columns row.0.1 new.0 new.1));
      there = λ name. refl;
    })

put_read : (columns : ℕ) (r : Result (Change × List ℕ) ValueFault) (others : List ℕ → Reading Change ValueFault)
    → ((x : Change × List ℕ) → r ≡ Ok x → IsRead columns x.0 × AllByRecursion (IsRead columns) (others x.1).items) → AllByRecursion (IsRead columns) (put_first r others).items
put_read columns (Err f) others h = tt
put_read columns (Ok x) others h = h x refl

within_read : (kind : RowsKind) (columns : List ColumnValue) (n : ℕ) (bytes : List ℕ) → AllByRecursion (IsRead (length columns)) (reading_within (change_at kind columns) n bytes).items
unfolding reading_within
within_read kind columns zero bytes = tt
within_read kind columns (suc n) [] = tt
within_read kind columns (suc n) (b ∷ bytes) =
    put_read (length columns) (change_at kind columns (b ∷ bytes)) (λ rest. reading_within (change_at kind columns) n rest) (λ x e. (read_at kind columns (b ∷ bytes) x e, within_read kind columns n x.1))

all_read : (kind : RowsKind) (columns : List ColumnValue) (bytes : List ℕ) → AllByRecursion (IsRead (length columns)) (changes_of kind columns bytes).items
unfolding reading_of
all_read kind columns bytes = within_read kind columns (length bytes) bytes

-- ---- as changes of a table

changes_wide : (columns : ℕ) (changes : List Change) → AllByRecursion (IsRead columns) changes → list_all (have_columns columns) (map change_of changes) ≡ true
changes_wide columns [] all = refl
changes_wide columns (c ∷ changes) all = and_from (have_columns columns (change_of c)) (list_all (have_columns columns) (map change_of changes)) all.0.wide (changes_wide columns changes all.1)

changes_there : (columns : ℕ) (name : List ℕ) (changes : List Change) → AllByRecursion (IsRead columns) changes → changes_in name (map change_of changes) ≡ map (change_read name) changes
changes_there columns name [] all = refl
changes_there columns name (c ∷ changes) all =
    ap (λ (front : List TableChangeValue). front ++ changes_in name (map change_of changes)) (all.0.there name) ∙ ap (λ (rest : List TableChangeValue). change_read name c ∷ rest) (changes_there columns name changes all.1)

-- ---- within the limits

short_row : (row : Image) → is_short (Some row) ≡ true → length (written_row row) ≤ 2 ^ 24
unfolding length_fields
short_row row short =
    let le : length (written_fields (packed_fields row)) ≤ 2 ^ 24 = leb-true _ _ short in
    let few : nat_lt (2 ^ 24) (length (written_fields (packed_fields row))) ≡ false = le-ltb _ _ le in
    subst (λ (bytes : List ℕ). length bytes ≤ 2 ^ 24) (plain (length row == 1) (nat_lt (2 ^ 24) (length (written_fields (packed_fields row)))) few) le
  where
    plain : (one more : Bool) → more ≡ false → written_fields (packed_fields row) ≡ written_fields ((if one && more then map length_field row else text_field 1 (written_lengths row)) ++ text_field 2 (written_values row))
    plain true more none = rw none refl
    plain false more none = refl

row_within : (columns : ℕ) (row : Option Image) → columns ≤ 256 → has_columns columns row ≡ true → is_short row ≡ true → IfSome row IsWithinLimits
row_within columns None few wide short = tt
row_within columns (Some row) few wide short = let many : length row ≡ columns = eqb-true _ _ wide in record { few = omega (arith, many, few); short = short_row row short }

-- what is told of changes is these, all of them, and they are short
record AreTold (changes : List Change) (cs : List ChangeValue) : Type 0 where
  are : cs ≡ map change_of changes
  short : AllByRecursion (λ c. (is_short c.before && is_short c.after) ≡ true) changes

are_told : (changes : List Change) (end : Option ValueFault) (cs : List ChangeValue) → told changes end ≡ Ok cs → AreTold changes cs
are_told [] None cs e = let is : cs ≡ [] = cc in record { are = is; short = tt }
are_told [] (Some fault) cs e = cc
are_told (c ∷ changes) end cs e =
    let short = given_if (is_short c.before && is_short c.after) (told changes end >>= λ others. Ok (change_of c ∷ others)) TooLong cs e in
    let others = given (told changes end) (λ others. Ok (change_of c ∷ others)) cs short.1 in
    let rest : AreTold changes others.0 = are_told changes end others.0 others.1 in
    record { are = sym (same_value (change_of c ∷ others.0) cs others.2) ∙ ap (λ (more : List ChangeValue). change_of c ∷ more) rest.are; short = (short.0, rest.short) }

changes_within : (columns : ℕ) (changes : List Change) → columns ≤ 256 → AllByRecursion (IsRead columns) changes → AllByRecursion (λ c. (is_short c.before && is_short c.after) ≡ true) changes
    → AllByRecursion AreWithinLimits (map change_of changes)
changes_within columns [] few all short = tt
changes_within columns (c ∷ changes) few all short =
    let wide = and_parts (has_columns columns c.before) (has_columns columns c.after) all.0.wide in
    let brief = and_parts (is_short c.before) (is_short c.after) short.0 in
    (record { before = row_within columns c.before few wide.0 brief.0; after = row_within columns c.after few wide.1 brief.1 }, changes_within columns changes few all.1 short.1)

-- ---- the columns of a map are as many as those of the table

columns_many : (wanted : List WantedValue) (types : List ℕ) (so_far : Told) (columns : List ColumnValue) → columns_in wanted types so_far ≡ Ok columns → length columns ≡ length wanted
unfolding columns_in
columns_many [] types so_far columns e = let end = given_if (is_all_told so_far) (Ok []) _ columns e in let is : columns ≡ [] = sym (same_value [] columns end.1) in rw is refl
columns_many (w ∷ wanted) [] so_far columns e = cc
columns_many (w ∷ wanted) (t ∷ types) so_far columns e =
    let one = given (column_at w.type_number t so_far) (λ c. columns_in wanted types c.1 >>= λ others. Ok (c.0 ∷ others)) columns e in
    let others = given (columns_in wanted types one.0.1) (λ others. Ok (one.0.0 ∷ others)) columns one.2 in
    rw (← same_value (one.0.0 ∷ others.0) columns others.2) (ap suc (columns_many wanted types one.0.1 others.0 others.1))

map_columns_many : (wanted : List WantedValue) (m : MapValue) (columns : List ColumnValue) → columns_of wanted m ≡ Ok columns → length columns ≡ length wanted
unfolding columns_of
map_columns_many wanted m columns e =
    let there = given_unless (not (length wanted == length m.types)) _ _ columns e in
    let names = given (part_of 4 m.extra) _ columns there.1 in
    let enums = given (part_of 6 m.extra) _ columns names.2 in
    let sets = given (part_of 5 m.extra) _ columns enums.2 in
    let signs = given (part_of 1 m.extra) _ columns sets.2 in
    let each = given (part_of 11 m.extra) _ columns signs.2 in
    let most = given (part_of 10 m.extra) _ columns each.2 in
    let all = given_if (has_names wanted names.0) _ _ columns most.2 in
    let collations = given (collations_at each.0 most.0) _ columns all.1 in
    columns_many wanted m.types _ columns collations.2

-- ---- the ROW of a row event

-- it is of the table, and has the changes that were read
pub record IsRowOf (kind : RowsKind) (m : MapValue) (head : HeadValue) (table : TableValue) (event : EventValue) : Type 0 where
  pub columns : List ColumnValue
  pub are : columns_of table.columns m ≡ Ok columns
  pub is : event ≡ Row table.name (map change_of (changes_of kind columns head.rows).items)
  pub wide : list_all (have_columns (length table.columns)) (map change_of (changes_of kind columns head.rows).items) ≡ true
  pub read : changes_in table.name (map change_of (changes_of kind columns head.rows).items) ≡ map (change_read table.name) (changes_of kind columns head.rows).items
  pub within : length table.columns ≤ 256 → AllByRecursion AreWithinLimits (map change_of (changes_of kind columns head.rows).items)

of_columns_given : (r : Result (List ColumnValue) TableFault) (columns : List ColumnValue) → of_columns r ≡ Ok columns → r ≡ Ok columns
of_columns_given (Ok x) columns e = ap Ok (same_value x columns e)
of_columns_given (Err fault) columns e = cc

pub row_is : (kind : RowsKind) (m : MapValue) (head : HeadValue) (table : TableValue) (event : EventValue) → row_of kind m head table ≡ Ok event → IsRowOf kind m head table event
row_is kind m head table event e =
    let found = given (of_columns (columns_of table.columns m)) (λ columns. row_told table.name (told_under kind head columns)) event e in
    let columns : List ColumnValue = found.0 in
    let are : columns_of table.columns m ≡ Ok columns = of_columns_given (columns_of table.columns m) columns found.1 in
    let changes = given (told_under kind head columns) (λ changes. Ok (Row table.name changes)) event found.2 in
    let all = given_if (has_all (length columns) head) (told (changes_of kind columns head.rows).items (changes_of kind columns head.rows).fault) NotAll changes.0 changes.1 in
    let t : AreTold (changes_of kind columns head.rows).items changes.0 = are_told (changes_of kind columns head.rows).items (changes_of kind columns head.rows).fault changes.0 all.1 in
    let many : length columns ≡ length table.columns = map_columns_many table.columns m columns are in
    let read : AllByRecursion (IsRead (length columns)) (changes_of kind columns head.rows).items = all_read kind columns head.rows in
    record {
      columns = columns;
      are = are;
      is = sym (same_value (Row table.name changes.0) event changes.2) ∙ ap (Row table.name) t.are;
      wide = ap (λ (n : ℕ). list_all (have_columns n) (map change_of (changes_of kind columns head.rows).items)) (sym many) ∙ changes_wide (length columns) (changes_of kind columns head.rows).items read;
      read = changes_there (length columns) table.name (changes_of kind columns head.rows).items read;
      within = λ few. changes_within (length columns) (changes_of kind columns head.rows).items (omega (arith, many, few)) read t.short;
    }
