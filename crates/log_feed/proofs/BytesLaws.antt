-- The bytes of changes, one change further.
use Rattle.std.proofs.Common.{◌≡◌, arith, Bool, true, false, ℕ, ◌+◌, ◌<◌, length, map, drop, get_or, List, [], ◌∷◌, ◌++◌, None, Some, Result, Ok, Err, refl, sym, ap, ◌∙◌, append_assoc}
use Rattle.proto_wire.specs.Field.{WireField}
use Rattle.proto_wire.specs.Writing.{written_field, written_fields, text_field, message_field}
use Rattle.row_view.specs.FieldValue.{FieldValue}
use Rattle.vevent.specs.EventValue.{ChangeValue}
use Rattle.vevent.specs.WrittenEvent.{message_fields, written_column, written_field_event, written_row_event}
use Rattle.std.proofs.lemmas.List.{at_drop_more}
use Rattle.std.proofs.lemmas.List.Concat.{flat_map-append}
use Rattle.list_laws.specs.Outcome.{◌>>=◌, Refuses}
use Rattle.item_readers.specs.Reading.{Reading}
use Rattle.log_values.specs.declared.fault.ValueFault.{ValueFault}
use Rattle.log_tables.specs.Column.{WantedValue, ColumnValue}
use Rattle.log_rows.specs.Head.{HeadValue}
use Rattle.log_rows.specs.declared.fault.RowError.{RowError}
use Rattle.log_rows.specs.declared.fault.RowError.TheVariants as row_error
use Rattle.log_rows.specs.declared.change.RowsKind.{RowsKind}
use Rattle.log_rows.specs.Change.{Change}
use Rattle.log_rows.specs.Written.{Cells, cells_of_either, NextChange}
use Rattle.log_feed.specs.declared.fault.Trouble.{Trouble}
use Rattle.log_feed.specs.declared.fault.Trouble.TheVariants.{Value}
use Rattle.log_feed.specs.declared.fault.TroubleError.{TroubleError}
use Rattle.log_feed.specs.declared.fault.TroubleError.TheVariants.{Memory, Is}
use Rattle.log_feed.specs.Fault.{trouble_meant, trouble_of}
use Rattle.log_feed.specs.Table.{field_of}
use Rattle.log_feed.specs.Private.Bytes.{with_change, with_changes, event_with, event_bytes, rows_bytes, PutsIf, PutsNext}
use Rattle.log_feed.specs.Rows.{row_told, told_under}
use Rattle.log_feed.proofs.ShapeLaws.{rows_told}

pub changes-further : (kind : RowsKind) (old new : Reading Change ValueFault) (before after : Cells) (c : Change) (out next : List ℕ) (all : Result (List ℕ) Trouble) → old.items ≡ c ∷ new.items → old.fault ≡ new.fault
    → before ≡ cells_of_either c.before → after ≡ cells_of_either c.after → with_change kind before after out ≡ Ok next → with_changes kind old.items old.fault out ≡ all → with_changes kind new.items new.fault next ≡ all
unfolding with_changes
changes-further kind old new before after c out next all items fault b a put seen =
    let one : with_change kind (cells_of_either c.before) (cells_of_either c.after) out ≡ Ok next = rw (b, a) at put in
    sym (rw (items, fault, one) refl) ∙ seen

pub changes-wrong : (kind : RowsKind) (old new : Reading Change ValueFault) (before after : Cells) (c : Change) (out : List ℕ) (trouble : Trouble) (all : Result (List ℕ) Trouble) → old.items ≡ c ∷ new.items
    → before ≡ cells_of_either c.before → after ≡ cells_of_either c.after → with_change kind before after out ≡ Err trouble → with_changes kind old.items old.fault out ≡ all → all ≡ Err trouble
unfolding with_changes
changes-wrong kind old new before after c out trouble all items b a put seen =
    let one : with_change kind (cells_of_either c.before) (cells_of_either c.after) out ≡ Err trouble = rw (b, a) at put in
    sym seen ∙ rw (items, one) refl

pub changes-end : (kind : RowsKind) (old : Reading Change ValueFault) (out : List ℕ) (all : Result (List ℕ) Trouble) → old.items ≡ [] → old.fault ≡ None → with_changes kind old.items old.fault out ≡ all → all ≡ Ok out
unfolding with_changes
changes-end kind old out all none end seen = sym seen ∙ rw (none, end) refl

pub changes-fault : (kind : RowsKind) (old : Reading Change ValueFault) (out : List ℕ) (fault : ValueFault) (all : Result (List ℕ) Trouble) → old.items ≡ [] → old.fault ≡ Some fault → with_changes kind old.items old.fault out ≡ all → all ≡ Err (Value fault)
unfolding with_changes
changes-fault kind old out fault all none end seen = sym seen ∙ rw (none, end) refl

abbrev NextIs : Reading Change ValueFault → Reading Change ValueFault → Cells → Cells → Type 0
NextIs old new before after = (change : Change) × (old.items ≡ change ∷ new.items) × (old.fault ≡ new.fault) × (before ≡ cells_of_either change.before) × (after ≡ cells_of_either change.after)

further-by : (kind : RowsKind) (old new : Reading Change ValueFault) (before after : Cells) (out next : List ℕ) → NextIs old new before after → with_change kind before after out ≡ Ok next
    → (with_changes kind old.items old.fault out ≡ with_changes kind new.items new.fault next) × (length new.items < length old.items)
further-by kind old new before after out next (c, items, fault, b, a) put =
    (sym (changes-further kind old new before after c out next _ items fault b a put refl), let long : length old.items ≡ length (c ∷ new.items) = ap length items in omega (arith, long))

wrong-by : (kind : RowsKind) (old new : Reading Change ValueFault) (before after : Cells) (out : List ℕ) (error : TroubleError) → NextIs old new before after → Refuses trouble_meant error (with_change kind before after out) → Refuses trouble_meant error (with_changes kind old.items old.fault out)
wrong-by kind old new before after out Memory next put = tt
wrong-by kind old new before after out (Is trouble) (c, items, fault, b, a) put = changes-wrong kind old new before after c out trouble _ items b a put refl

pub puts-next : (kind : RowsKind) (old new : Reading Change ValueFault) (before after : Cells) (out next : List ℕ) (more : Bool) (answer : Result Bool TroubleError) → NextChange old (Ok more) new before after
    → PutsIf more (with_change kind before after out) answer out next → PutsNext kind old answer new out next
puts-next kind old new before after out next true (Ok true) read put = further-by kind old new before after out next read put.1
puts-next kind old new before after out next true (Ok false) read put = let wrong = put.0 in cc
puts-next kind old new before after out next false (Ok true) read put = let wrong = put.0 in cc
puts-next kind old new before after out next false (Ok false) read put = changes-end kind old out _ read.0 read.1 refl ∙ ap (λ (bytes : List ℕ). Ok bytes) (sym put.1)
puts-next kind old new before after out next true (Err error) read put = wrong-by kind old new before after out error read put.1
puts-next kind old new before after out next false (Err error) read put = let wrong = put.0 in cc

pub puts-none : (kind : RowsKind) (old new : Reading Change ValueFault) (before after : Cells) (out next : List ℕ) (error : RowError) → NextChange old (Err error) new before after → PutsNext kind old (Err (trouble_of error)) new out next
puts-none kind old new before after out next row_error.Memory read = tt
puts-none kind old new before after out next (row_error.Fault fault) read = changes-fault kind old out fault _ read.0 read.1 refl

-- the loop
pub loop-end : (kind : RowsKind) (old new : Reading Change ValueFault) (out next : List ℕ) (more : Bool) (all : Result (List ℕ) Trouble) → more ≡ false → PutsNext kind old (Ok more) new out next → with_changes kind old.items old.fault out ≡ all → all ≡ Ok next
loop-end kind old new out next true all last put seen = cc
loop-end kind old new out next false all last put seen = sym seen ∙ put

pub loop-further : (kind : RowsKind) (old new : Reading Change ValueFault) (out next : List ℕ) (more : Bool) (all : Result (List ℕ) Trouble) → more ≡ true → PutsNext kind old (Ok more) new out next → with_changes kind old.items old.fault out ≡ all → with_changes kind new.items new.fault next ≡ all
loop-further kind old new out next false all is put seen = cc
loop-further kind old new out next true all is put seen = sym put.0 ∙ seen

pub loop-less : (kind : RowsKind) (old new : Reading Change ValueFault) (out next : List ℕ) (more : Bool) → more ≡ true → PutsNext kind old (Ok more) new out next → length new.items < length old.items
loop-less kind old new out next false is put = cc
loop-less kind old new out next true is put = put.1

pub loop-wrong : (kind : RowsKind) (old new : Reading Change ValueFault) (out next : List ℕ) (error : TroubleError) (all : Result (List ℕ) Trouble) → PutsNext kind old (Err error) new out next → with_changes kind old.items old.fault out ≡ all → Refuses trouble_meant error all
loop-wrong kind old new out next error all put seen = rw (sym seen) put

-- a column more, of those that are still to come
pub column-further : (out new message : List ℕ) (column : FieldValue) (rest : List WireField) (all : List ℕ) → message ≡ written_column column → new ≡ out ++ written_field (message_field 2 message)
    → out ++ written_fields (message_field 2 (written_column column) ∷ rest) ≡ all → new ++ written_fields rest ≡ all
column-further out new message column rest all is put seen =
    ap (λ (w : List ℕ). w ++ written_fields rest) (put ∙ ap (λ (m : List ℕ). out ++ written_field (message_field 2 m)) is)
    ∙ append_assoc out (written_field (message_field 2 (written_column column))) (written_fields rest) ∙ seen

pub column-on : {W : Type 0} (view : W → FieldValue) (columns : List W) (i : ℕ) (d : W) (out new : List ℕ) (all : List ℕ) → i < length columns → new ≡ out ++ written_field (message_field 2 (written_column (view (get_or columns i d))))
    → out ++ written_fields (message_fields 2 (map written_column (map view (drop i columns)))) ≡ all → new ++ written_fields (message_fields 2 (map written_column (map view (drop (i + 1) columns)))) ≡ all
column-on view columns i d out new all lt put seen =
    column-further out new (written_column (view (get_or columns i d))) (view (get_or columns i d)) (message_fields 2 (map written_column (map view (drop (i + 1) columns)))) all refl put
    (sym (at_drop_more (λ xs. out ++ written_fields (message_fields 2 (map written_column (map view xs)))) columns i d lt) ∙ seen)

-- ---- events

pub fields-told : {W : Type 0} (view : W → WantedValue) (columns : List W) → map (λ w. field_of (view w)) columns ≡ map field_of (map view columns)
fields-told view [] = refl
fields-told view (w ∷ columns) = ap (λ (fs : List FieldValue). field_of (view w) ∷ fs) (fields-told view columns)

pub fields-bytes : (name zero one two : List ℕ) (fused fields : List FieldValue) → zero ≡ [] → one ≡ zero ++ written_fields (text_field 1 name) → two ≡ one ++ written_fields (message_fields 2 (map written_column fused)) → fused ≡ fields
    → two ≡ written_field_event name fields
fields-bytes name zero one two fused fields none text columns same =
    columns ∙ ap (λ (w : List ℕ). w ++ written_fields (message_fields 2 (map written_column fused))) (text ∙ ap (λ (w : List ℕ). w ++ written_fields (text_field 1 name)) none)
    ∙ sym (flat_map-append written_field (text_field 1 name) (message_fields 2 (map written_column fused))) ∙ ap (λ (fs : List FieldValue). written_field_event name fs) same

told_refused : (name : List ℕ) (r : Result (List ChangeValue) Trouble) (trouble : Trouble) → r >>= (λ changes. Ok (written_row_event name changes)) ≡ Err trouble → event_bytes (row_told name r) ≡ Err trouble
told_refused name (Ok changes) trouble e = cc
told_refused name (Err other) trouble e = cc

told_made : (name message event : List ℕ) (r : Result (List ChangeValue) Trouble) → r >>= (λ changes. Ok (written_row_event name changes)) ≡ Ok message → event ≡ event_with 12 5 message → event_bytes (row_told name r) ≡ Ok event
told_made name message event (Err trouble) e is = cc
told_made name message event (Ok changes) e is = let same : written_row_event name changes ≡ message = cc in ap (λ (bytes : List ℕ). Ok bytes) (ap (event_with 12 5) same ∙ sym is)

pub row-refused : (name : List ℕ) (kind : RowsKind) (head : HeadValue) (columns : List ColumnValue) (error : TroubleError) → Refuses trouble_meant error (rows_bytes name kind head columns)
    → Refuses trouble_meant error (event_bytes (row_told name (told_under kind head columns)))
row-refused name kind head columns Memory e = tt
row-refused name kind head columns (Is trouble) e = told_refused name (told_under kind head columns) trouble (sym (rows_told name kind head columns) ∙ e)

pub row-made : (name message event : List ℕ) (kind : RowsKind) (head : HeadValue) (columns : List ColumnValue) → rows_bytes name kind head columns ≡ Ok message → event ≡ event_with 12 5 message
    → event_bytes (row_told name (told_under kind head columns)) ≡ Ok event
row-made name message event kind head columns e is = told_made name message event (told_under kind head columns) (sym (rows_told name kind head columns) ∙ e) is
