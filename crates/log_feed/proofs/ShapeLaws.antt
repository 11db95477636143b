-- The bytes of a row event's changes are those of the changes that it tells.
use Rattle.std.proofs.Common.{◌≡◌, ℕ, ◌≤◌, ◌^◌, zero, suc, Bool, true, false, nat_lt, List, [], ◌∷◌, ◌++◌, length, map, Option, None, Some, Result, Ok, Err, refl, sym, ap, ◌∙◌, append_assoc}
use Rattle.std.proofs.lemmas.Bool.{leb-true, le-ltb}
use Rattle.std.proofs.lemmas.List.{append-nil}
use Rattle.std.proofs.lemmas.List.Concat.{flat_map-append}
use Rattle.std.specs.List.{AllByRecursion}
use Rattle.std.specs.Prelude.{◌==◌, ◌&&◌, if◌then◌else◌}
use Rattle.list_laws.specs.Outcome.{◌>>=◌}
use Rattle.item_readers.specs.Reading.{Reading, put_first, reading_within, reading_of}
use Rattle.proto_wire.specs.Writing.{written_field, written_fields, text_field, message_field}
use Rattle.row_view.specs.WrittenRow.{packed_fields, length_field, length_fields, written_lengths, written_values, written_row}
use Rattle.vevent.specs.EventValue.{ChangeValue}
use Rattle.vevent.specs.WrittenEvent.{message_fields, written_change, written_row_event}
use Rattle.log_values.specs.declared.fault.ValueFault.{ValueFault}
use Rattle.log_tables.specs.Column.{ColumnValue}
use Rattle.log_rows.specs.declared.change.RowsKind.{RowsKind}
use Rattle.log_rows.specs.declared.change.RowsKind.TheVariants.{Write, Update, Delete}
use Rattle.log_rows.specs.Head.{HeadValue, has_all}
use Rattle.log_rows.specs.Image.{image_at}
use Rattle.log_rows.specs.Change.{Change, change_at, changes_of}
use Rattle.log_rows.specs.Written.{cells_of, cells_of_either}
use Rattle.log_feed.specs.declared.fault.Trouble.{Trouble}
use Rattle.log_feed.specs.declared.fault.Trouble.TheVariants.{NotAll, TooLong}
use Rattle.log_feed.specs.Rows.{change_of, is_short, told, told_under}
use Rattle.log_feed.specs.Private.Bytes.{row_bytes, with_row, change_bytes, with_change, with_changes, rows_bytes}

abbrev Image : Type 0
Image = List (Option (List ℕ))

-- ---- a change has the rows that its kind has

abbrev Fits : RowsKind → Change → Type 0
Fits Write c = (c.before ≡ None) × ((row : Image) × (c.after ≡ Some row))
Fits Update c = ((row : Image) × (c.before ≡ Some row)) × ((row : Image) × (c.after ≡ Some row))
Fits Delete c = ((row : Image) × (c.before ≡ Some row)) × (c.after ≡ None)

write_fits : (r : Result (Image × List ℕ) ValueFault) (x : Change × List ℕ) → r >>= (λ row. Ok (record { before = None; after = Some row.0 }, row.1)) ≡ Ok x → Fits Write x.0
write_fits (Err f) x e = cc
write_fits (Ok row) x e = let is : x ≡ (record { before = None; after = Some row.0 }, row.1) = cc in rw is (refl, (row.0, refl))

delete_fits : (r : Result (Image × List ℕ) ValueFault) (x : Change × List ℕ) → r >>= (λ row. Ok (record { before = Some row.0; after = None }, row.1)) ≡ Ok x → Fits Delete x.0
delete_fits (Err f) x e = cc
delete_fits (Ok row) x e = let is : x ≡ (record { before = Some row.0; after = None }, row.1) = cc in rw is ((row.0, refl), refl)

update_after : (row : Image × List ℕ) (r : Result (Image × List ℕ) ValueFault) (x : Change × List ℕ) → r >>= (λ new. Ok (record { before = Some row.0; after = Some new.0 }, new.1)) ≡ Ok x → Fits Update x.0
update_after row (Err f) x e = cc
update_after row (Ok new) x e = let is : x ≡ (record { before = Some row.0; after = Some new.0 }, new.1) = cc in rw is ((row.0, refl), (new.0, refl))

update_fits : (columns : List ColumnValue) (r : Result (Image × List ℕ) ValueFault) (x : Change × List ℕ)
    → r >>= (λ row. image_at columns row.1 >>= λ new. Ok (record { before = Some row.0; after = Some new.0 }, new.1)) ≡ Ok x → Fits Update x.0
update_fits columns (Err f) x e = cc
update_fits columns (Ok row) x e = update_after row (image_at columns row.1) x e

fits_at : (kind : RowsKind) (columns : List ColumnValue) (bytes : List ℕ) (x : Change × List ℕ) → change_at kind columns bytes ≡ Ok x → Fits kind x.0
fits_at Write columns bytes x e = write_fits (image_at columns bytes) x e
fits_at Update columns bytes x e = update_fits columns (image_at columns bytes) x e
fits_at Delete columns bytes x e = delete_fits (image_at columns bytes) x e

put_fits : (kind : RowsKind) (r : Result (Change × List ℕ) ValueFault) (others : List ℕ → Reading Change ValueFault) → ((x : Change × List ℕ) → r ≡ Ok x → Fits kind x.0 × AllByRecursion (Fits kind) (others x.1).items)
    → AllByRecursion (Fits kind) (put_first r others).items
put_fits kind (Err f) others h = tt
put_fits kind (Ok x) others h = h x refl

within_fit : (kind : RowsKind) (columns : List ColumnValue) (n : ℕ) (bytes : List ℕ) → AllByRecursion (Fits kind) (reading_within (change_at kind columns) n bytes).items
unfolding reading_within
within_fit kind columns zero bytes = tt
within_fit kind columns (suc n) [] = tt
within_fit kind columns (suc n) (b ∷ bytes) =
    put_fits kind (change_at kind columns (b ∷ bytes)) (λ rest. reading_within (change_at kind columns) n rest) (λ x e. (fits_at kind columns (b ∷ bytes) x e, within_fit kind columns n x.1))

pub all_fit : (kind : RowsKind) (columns : List ColumnValue) (bytes : List ℕ) → AllByRecursion (Fits kind) (changes_of kind columns bytes).items
unfolding reading_of
all_fit kind columns bytes = within_fit kind columns (length bytes) bytes

-- ---- the message of a row

short_row : (row : Image) → is_short (Some row) ≡ true → row_bytes (cells_of row) ≡ written_row row
unfolding length_fields
short_row row short =
    let le : length (written_fields (packed_fields row)) ≤ 2 ^ 24 = leb-true _ _ short in
    let few : nat_lt (2 ^ 24) (length (written_fields (packed_fields row))) ≡ false = le-ltb _ _ le in
    plain (length row == 1) (nat_lt (2 ^ 24) (length (written_fields (packed_fields row)))) few
  where
    plain : (one more : Bool) → more ≡ false → written_fields (packed_fields row) ≡ written_fields ((if one && more then map length_field row else text_field 1 (written_lengths row)) ++ text_field 2 (written_values row))
    plain true more few = rw few refl
    plain false more few = refl

-- ---- the message of a change

abbrev told_change : Change → Result (List ℕ) Trouble
told_change c = if is_short c.before && is_short c.after then Ok (written_change (change_of c)) else Err TooLong

one_row : (number : ℕ) (row : Image) (old : List ℕ) (r : Bool) → is_short (Some row) ≡ r → with_row number (cells_of row) old ≡ (if r then Ok (old ++ written_field (message_field number (written_row row))) else Err TooLong)
one_row number row old true short = rw short (ap (λ (bytes : List ℕ). Ok (old ++ written_field (message_field number bytes))) (short_row row short))
one_row number row old false long = rw long refl

two_rows : (before after : Image) (r s : Bool) → is_short (Some before) ≡ r → is_short (Some after) ≡ s → with_row 1 (cells_of before) [] >>= (λ bytes. with_row 2 (cells_of after) bytes)
    ≡ (if r && s then Ok (written_change (record { before = Some before; after = Some after })) else Err TooLong)
two_rows before after false s long e = rw (one_row 1 before [] false long) refl
two_rows before after true false short long =
    let first = one_row 1 before [] true short in
    rw first (one_row 2 after (written_field (message_field 1 (written_row before))) false long)
two_rows before after true true short also =
    let first = one_row 1 before [] true short in
    rw first
    (one_row 2 after (written_field (message_field 1 (written_row before))) true also
    ∙ ap (λ (bytes : List ℕ). Ok (written_field (message_field 1 (written_row before)) ++ bytes)) (sym (append-nil (written_field (message_field 2 (written_row after))))))

one_alone : (number : ℕ) (row : Image) (r : Bool) → is_short (Some row) ≡ r → with_row number (cells_of row) [] ≡ (if r then Ok (written_fields (message_field number (written_row row) ∷ [])) else Err TooLong)
one_alone number row true short = one_row number row [] true short ∙ ap (λ (bytes : List ℕ). Ok bytes) (sym (append-nil (written_field (message_field number (written_row row)))))
one_alone number row false long = one_row number row [] false long

change_told : (kind : RowsKind) (c : Change) → Fits kind c → change_bytes kind (cells_of_either c.before) (cells_of_either c.after) ≡ told_change c
change_told Write c (none, (row, is)) = rw (none, is) (one_alone 2 row (is_short (Some row)) refl)
change_told Delete c ((row, is), none) = rw (none, is) (deleted (is_short (Some row)) refl)
  where
    deleted : (r : Bool) → is_short (Some row) ≡ r → with_row 1 (cells_of row) [] ≡ (if r && true then Ok (written_fields (message_field 1 (written_row row) ∷ [])) else Err TooLong)
    deleted true short = one_alone 1 row true short
    deleted false long = one_alone 1 row false long
change_told Update c ((before, is), (after, also)) = rw (is, also) (two_rows before after (is_short (Some before)) (is_short (Some after)) refl refl)

-- ---- all changes

more : (r : Result (List ChangeValue) Trouble) (c : ChangeValue) (old : List ℕ)
    → r >>= (λ cs. Ok ((old ++ written_field (message_field 2 (written_change c))) ++ written_fields (message_fields 2 (map written_change cs))))
    ≡ (r >>= λ others. Ok (c ∷ others)) >>= λ cs. Ok (old ++ written_fields (message_fields 2 (map written_change cs)))
more (Err trouble) c old = refl
more (Ok others) c old = ap (λ (bytes : List ℕ). Ok bytes) (append_assoc old (written_field (message_field 2 (written_change c))) (written_fields (message_fields 2 (map written_change others))))

abbrev bytes_behind : List ℕ → Result (List ChangeValue) Trouble → Result (List ℕ) Trouble
bytes_behind old r = r >>= λ cs. Ok (old ++ written_fields (message_fields 2 (map written_change cs)))

pub told_bytes : (kind : RowsKind) (changes : List Change) (end : Option ValueFault) (old : List ℕ) → AllByRecursion (Fits kind) changes → with_changes kind changes end old ≡ bytes_behind old (told changes end)
unfolding with_changes with_change
told_bytes kind [] None old fit = ap (λ (bytes : List ℕ). Ok bytes) (sym (append-nil old))
told_bytes kind [] (Some fault) old fit = refl
told_bytes kind (c ∷ changes) end old (fit, others) =
    rw (change_told kind c fit) (by_length (is_short c.before && is_short c.after) (told_bytes kind changes end (old ++ written_field (message_field 2 (written_change (change_of c)))) others))
  where
    by_length : (r : Bool) → with_changes kind changes end (old ++ written_field (message_field 2 (written_change (change_of c)))) ≡ bytes_behind (old ++ written_field (message_field 2 (written_change (change_of c)))) (told changes end)
        → ((if r then Ok (written_change (change_of c)) else Err TooLong) >>= λ bytes. Ok (old ++ written_field (message_field 2 bytes))) >>= (λ new. with_changes kind changes end new)
        ≡ bytes_behind old (if r then (told changes end >>= λ others. Ok (change_of c ∷ others)) else Err TooLong)
    by_length true is = is ∙ more (told changes end) (change_of c) old
    by_length false is = refl

-- the message of a row event
pub rows_told : (name : List ℕ) (kind : RowsKind) (head : HeadValue) (columns : List ColumnValue) → rows_bytes name kind head columns ≡ told_under kind head columns >>= λ changes. Ok (written_row_event name changes)
rows_told name kind head columns = by_all (has_all (length columns) head)
  where
    named : (r : Result (List ChangeValue) Trouble) → bytes_behind (written_fields (text_field 1 name)) r ≡ r >>= λ changes. Ok (written_row_event name changes)
    named (Err trouble) = refl
    named (Ok changes) = ap (λ (bytes : List ℕ). Ok bytes) (sym (flat_map-append written_field (text_field 1 name) (message_fields 2 (map written_change changes))))

    by_all : (r : Bool)
        → (if r then with_changes kind (changes_of kind columns head.rows).items (changes_of kind columns head.rows).fault (written_fields (text_field 1 name)) else Err NotAll)
        ≡ (if r then told (changes_of kind columns head.rows).items (changes_of kind columns head.rows).fault else Err NotAll) >>= λ changes. Ok (written_row_event name changes)
    by_all true =
        told_bytes kind (changes_of kind columns head.rows).items (changes_of kind columns head.rows).fault (written_fields (text_field 1 name)) (all_fit kind columns head.rows)
        ∙ named (told (changes_of kind columns head.rows).items (changes_of kind columns head.rows).fault)
    by_all false = refl
