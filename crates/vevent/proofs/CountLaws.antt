-- The count of columns that the walk gathers is that of the rows of the event.
use Rattle.std.proofs.Common.{◌≡◌, ℕ, suc, Bool, true, false, ltb, List, [], ◌∷◌, ◌&&◌, ◌||◌, length, Option, Some, None, Result, Ok, Err, refl, sym, subst, ◌∙◌, inl, inr, arith, ltb-false}
use Rattle.std.specs.Prelude.{map, option_map, unwrap_or}
use Rattle.std.specs.List.{list_all, list_any}
use Rattle.std.specs.Result.{result_ok, result_err, result_unwrap_or}
use Rattle.proto_wire.specs.Reading.{reading_of, reading_within}
use Rattle.proto_wire.specs.Field.{fields_of}
use Rattle.proto_wire.specs.Parts.{parts, first_of, is_repeated}
use Rattle.vevent.specs.Message.{image_of, change_of, changes_of}
use Rattle.row_view.specs.declared.fault.RowFault.{RowFault}
use Rattle.row_view.specs.Row.{row_of_message}
use Rattle.vevent.specs.Fault.{repeats_a_row, row_changes, change_fault, first_row_fault}
use Rattle.vevent.specs.Columns.{has_columns, have_columns}
use Rattle.vevent.specs.declared.event_parts.EventParts.{EventParts}
use Rattle.vevent.specs.Private.Singular.{message_behind}
use Rattle.vevent.specs.Private.ColumnCount.{all_have, image_has, images_have, changes_have, IsCountOf}
use Rattle.vevent.specs.Private.EventParts.{AreAllParts}
use Rattle.vevent.proofs.FirstFault.{none_first, none_second}
use Rattle.vevent.proofs.SoundRows.{single_is_sound}

pub fields_of_nothing : (fields_of []).items ≡ []
unfolding reading_of reading_within
fields_of_nothing = refl

-- ---- counts of two kinds of rows together

pub and_first : (o r a b : Bool) → ((o && r) && (a && b)) ≡ (o && ((r && a) && b))
and_first false r a b = refl
and_first true false a b = refl
and_first true true a b = refl

pub and_second : (o r a b : Bool) → ((o && r) && (a && b)) ≡ (o && (a && (r && b)))
and_second false r a b = refl
and_second true true a b = refl
and_second true false true b = refl
and_second true false false b = refl

-- ---- rows that stand alone are those of the change

and_true : (b : Bool) → (b && true) ≡ b
and_true true = refl
and_true false = refl

two_alone : (n : ℕ) → ltb 1 (suc (suc n)) ≡ false → ⊥
two_alone n h = omega (arith, ltb-false 1 (suc (suc n)) h)

-- a row that can be read has the columns that it is read as
read_has : (columns : ℕ) (row : List ℕ) → result_err (row_of_message row) ≡ None → image_has columns row ≡ has_columns columns (Some (image_of row))
read_has columns row = by (row_of_message row)
  where
    by : (r : Result (List (Option (List ℕ))) RowFault) → result_err r ≡ None → has_columns columns (result_ok r) ≡ has_columns columns (Some (result_unwrap_or r []))
    by (Ok cells) e = refl
    by (Err fault) e = cc

alone_has : (columns : ℕ) (rows : List (List ℕ)) → ltb 1 (length rows) ≡ false → ((row : List ℕ) → first_of rows ≡ Some row → result_err (row_of_message row) ≡ None) → list_all (image_has columns) rows ≡ has_columns columns (option_map image_of (first_of rows))
alone_has columns [] h sound = refl
alone_has columns (row ∷ []) h sound = and_true (image_has columns row) ∙ read_has columns row (sound row refl)
alone_has columns (row ∷ other ∷ rows) h sound = absurd (two_alone (length rows) h)

or_false_first : (a b : Bool) → (a || b) ≡ false → a ≡ false
or_false_first false b h = refl
or_false_first true b h = absurd cc

or_false_second : (a b : Bool) → (a || b) ≡ false → b ≡ false
or_false_second false b h = h
or_false_second true b h = absurd cc

both : (a b c d : Bool) → a ≡ c → b ≡ d → (a && b) ≡ (c && d)
both a b c d e h = rw (e, h) refl

change_has : (columns : ℕ) (change : List ℕ) → repeats_a_row change ≡ false → change_fault change ≡ None → images_have columns (fields_of change).items ≡ have_columns columns (change_of change)
change_has columns change h sound =
    both (list_all (image_has columns) (parts 1 change)) (list_all (image_has columns) (parts 2 change)) (has_columns columns (change_of change).before) (has_columns columns (change_of change).after)
    (alone_has columns (parts 1 change) (or_false_first (is_repeated 1 change) (is_repeated 2 change) h) (λ row. single_is_sound 1 (fields_of change).items row (inl refl) sound))
    (alone_has columns (parts 2 change) (or_false_second (is_repeated 1 change) (is_repeated 2 change) h) (λ row. single_is_sound 2 (fields_of change).items row (inr refl) sound))

pub all_changes_have : (columns : ℕ) (changes : List (List ℕ)) → list_any repeats_a_row changes ≡ false → first_row_fault changes ≡ None → changes_have columns changes ≡ list_all (have_columns columns) (map change_of changes)
all_changes_have columns [] h sound = refl
all_changes_have columns (change ∷ changes) h sound =
    both (images_have columns (fields_of change).items) (changes_have columns changes) (have_columns columns (change_of change)) (list_all (have_columns columns) (map change_of changes))
    (change_has columns change (or_false_first (repeats_a_row change) (list_any repeats_a_row changes) h) (none_first (change_fault change) (first_row_fault changes) sound))
    (all_changes_have columns changes (or_false_second (repeats_a_row change) (list_any repeats_a_row changes) h) (none_second (change_fault change) (first_row_fault changes) sound))

-- the count of what was met of an event is that of the changes of its row event
pub count_of : (event message : List ℕ) (met : EventParts) → AreAllParts event met → list_any repeats_a_row (row_changes event) ≡ false → first_row_fault (row_changes event) ≡ None → message ≡ unwrap_or (message_behind met.row_event []) [] → IsCountOf met.rows.columns (changes_of message)
count_of event message met held alone sound is_message = λ columns.
    let once : list_any repeats_a_row (parts 2 (unwrap_or (message_behind met.row_event []) [])) ≡ false = subst (λ (m : Option (List ℕ)). list_any repeats_a_row (parts 2 (unwrap_or m [])) ≡ false) (sym held.row_event) alone in
    let whole : first_row_fault (parts 2 (unwrap_or (message_behind met.row_event []) [])) ≡ None = subst (λ (m : Option (List ℕ)). first_row_fault (parts 2 (unwrap_or m [])) ≡ None) (sym held.row_event) sound in
    rw is_message (sym (and_true (all_have met.rows.columns columns)) ∙ (held.rows.columns columns ∙ all_changes_have columns (parts 2 (unwrap_or (message_behind met.row_event []) [])) once whole))
