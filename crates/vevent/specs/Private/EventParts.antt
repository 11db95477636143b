-- What the walk over an event, a row event or a row change has met so far, and the fields that are
-- still to come, are together what the message holds.
use Rattle.std.specs.Prelude.{◌≡◌, ◌||◌, ◌&&◌, ℕ, List, [], ◌∷◌, None, unwrap_or, option_copied}
use Rattle.std.specs.List.{filter_map, list_any}
use Rattle.proto_wire.specs.Field.{WireField, fields_of}
use Rattle.vevent.specs.declared.event_parts.EventParts.{EventParts}
use Rattle.vevent.specs.declared.row_parts.RowParts.{RowParts}
use Rattle.vevent.specs.declared.images.Images.{Images}
use Rattle.vevent.specs.declared.change_rows.ChangeRows.{ChangeRows}
use Rattle.proto_wire.specs.Parts.{part_in, count_in, last_of, text, scalar, parts, first_of, single, is_repeated}
use Rattle.std.specs.Option.{option_or}
use Rattle.vevent.specs.Fault.{first_in, in_change, change_fault, is_other_field, repeats_a_row, is_partial, first_row_fault}
use Rattle.vevent.specs.Private.Singular.{message_behind, repeats_behind}
use Rattle.vevent.specs.Private.ColumnCount.{all_have, images_have, changes_have}

-- ---- a row change

-- what was met, and these fields that are still to come, are the whole row change
pub record AreImages (change : List ℕ) (met : Images) (more : List WireField) : Type 0 where
  pub before : repeats_behind met.before (filter_map (part_in 1) more) ≡ is_repeated 1 change
  pub after : repeats_behind met.after (filter_map (part_in 2) more) ≡ is_repeated 2 change
  pub partial : (met.is_partial || list_any is_other_field more) ≡ is_partial change
  pub fault : option_or met.fault (first_in in_change more None) ≡ change_fault change
  pub columns : (wanted : ℕ) → (all_have met.columns wanted && images_have wanted more) ≡ images_have wanted (fields_of change).items

-- of its rows
pub record AreChangeRows (change : List ℕ) (met : ChangeRows) (more : List WireField) : Type 0 where
  pub before : option_or (option_copied met.before) (first_of (filter_map (part_in 1) more)) ≡ single 1 change
  pub after : option_or (option_copied met.after) (first_of (filter_map (part_in 2) more)) ≡ single 2 change

-- ---- a row event

-- what was met, and these fields that are still to come, are the whole row event
pub record AreRowParts (row_event : List ℕ) (met : RowParts) (more : List WireField) : Type 0 where
  pub name : last_of met.table_name.now (filter_map (part_in 1) more) ≡ text 1 row_event
  pub repeats : (met.repeats || list_any repeats_a_row (filter_map (part_in 2) more)) ≡ list_any repeats_a_row (parts 2 row_event)
  pub partial : (met.is_partial || list_any is_partial (filter_map (part_in 2) more)) ≡ list_any is_partial (parts 2 row_event)
  pub fault : option_or met.fault (first_row_fault (filter_map (part_in 2) more)) ≡ first_row_fault (parts 2 row_event)
  pub columns : (wanted : ℕ) → (all_have met.columns wanted && changes_have wanted (filter_map (part_in 2) more)) ≡ changes_have wanted (parts 2 row_event)

-- one more row change is met
pub record PutsChange (change : List ℕ) (old new : RowParts) : Type 0 where
  pub name : new.table_name.now ≡ old.table_name.now
  pub repeats : new.repeats ≡ (old.repeats || repeats_a_row change)
  pub partial : new.is_partial ≡ (old.is_partial || is_partial change)
  pub fault : new.fault ≡ option_or old.fault (change_fault change)
  pub columns : (wanted : ℕ) → all_have new.columns wanted ≡ (all_have old.columns wanted && images_have wanted (fields_of change).items)

-- nothing of the row event is still to come
abbrev pub AreAllRowParts : List ℕ → RowParts → Type 0
AreAllRowParts row_event met = AreRowParts row_event met []

-- ---- an event

-- what was met, and these fields that are still to come, are the whole event; the first of its row
-- events was walked
pub record AreParts (event : List ℕ) (met : EventParts) (more : List WireField) : Type 0 where
  pub type_number : last_of met.type_number (filter_map (count_in 1) more) ≡ scalar 1 event
  pub gtid : last_of met.gtid.now (filter_map (part_in 3) more) ≡ text 3 event
  pub row_event : message_behind met.row_event (filter_map (part_in 5) more) ≡ single 5 event
  pub row_events : repeats_behind met.row_event (filter_map (part_in 5) more) ≡ is_repeated 5 event
  pub rows : AreAllRowParts (unwrap_or (message_behind met.row_event []) []) met.rows
  pub field_event : message_behind met.field_event (filter_map (part_in 6) more) ≡ single 6 event
  pub field_events : repeats_behind met.field_event (filter_map (part_in 6) more) ≡ is_repeated 6 event
  pub vgtid : message_behind met.vgtid (filter_map (part_in 7) more) ≡ single 7 event
  pub vgtids : repeats_behind met.vgtid (filter_map (part_in 7) more) ≡ is_repeated 7 event

-- one more row event is met
pub record PutsRowEvent (message : List ℕ) (old new : EventParts) : Type 0 where
  pub type_number : new.type_number ≡ old.type_number
  pub gtid : new.gtid.now ≡ old.gtid.now
  pub row_event : (more : List (List ℕ)) → message_behind new.row_event more ≡ message_behind old.row_event (message ∷ more)
  pub row_events : (more : List (List ℕ)) → repeats_behind new.row_event more ≡ repeats_behind old.row_event (message ∷ more)
  pub rows : AreAllRowParts (unwrap_or (message_behind old.row_event []) []) old.rows → AreAllRowParts (unwrap_or (message_behind new.row_event []) []) new.rows
  pub field_event : new.field_event ≡ old.field_event
  pub vgtid : new.vgtid ≡ old.vgtid

-- nothing of the event is still to come
abbrev pub AreAllParts : List ℕ → EventParts → Type 0
AreAllParts event met = AreParts event met []
