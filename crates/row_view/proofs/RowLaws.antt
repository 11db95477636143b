-- What the row of a message is, by what stands in the bytes, and the other way round.
use Rattle.std.proofs.Common.{◌≡◌, ℕ, ◌^◌, ◌<◌, ◌≤◌, ◌⊎◌, inl, inr, List, [], ◌∷◌, length, Option, Some, None, Ok, Err, refl, sym, ap, ◌∙◌, arith}
use Rattle.std.specs.Option.{option_or}
use Rattle.std.specs.List.{AllByRecursion, filter_map, cons_option}
use Rattle.std.proofs.lemmas.Bool.{cases_lt}
use Rattle.std.proofs.lemmas.Bool.Decides.{nat_tests}
use Rattle.proto_wire.specs.declared.fault.WireFault.{WireFault}
use Rattle.proto_wire.specs.Field.{WireField, fields_of}
use Rattle.row_view.specs.declared.fault.RowFault.TheVariants.{RowTooLong, Wire, TooManyColumns, LengthsPastValues}
use Rattle.proto_wire.specs.Parts.{first_of}
use Rattle.row_view.specs.RowFields.{packed_fault_at, row_lengths, row_values, row_wire_fault}
use Rattle.row_view.specs.Row.{size_of_all, IsWhole, IsRow, columns_over, row_with, row_of_message}
use Rattle.row_view.proofs.ColumnLaws.{AreColumns-columns_over, columns_over-only}

-- ---- no fault of the wire

option_or-none : (o rest end : Option WireFault) → option_or (option_or o rest) end ≡ None → (o ≡ None) × (option_or rest end ≡ None)
option_or-none None rest end e = (refl, e)
option_or-none (Some fault) rest end e = cc

first_of-cons : (o : Option WireFault) (rest : List WireFault) → first_of (cons_option o rest) ≡ option_or o (first_of rest)
first_of-cons None rest = refl
first_of-cons (Some fault) rest = refl

none-from_first : (fs : List WireField) (end : Option WireFault) → option_or (first_of (filter_map packed_fault_at fs)) end ≡ None → (end ≡ None) × AllByRecursion (λ f. packed_fault_at f ≡ None) fs
none-from_first [] end e = (e, tt)
none-from_first (f ∷ fs) end e =
    let later = filter_map packed_fault_at fs in
    let first = option_or-none (packed_fault_at f) (first_of later) end (ap (λ o. option_or o end) (sym (first_of-cons (packed_fault_at f) later)) ∙ e) in
    let others = none-from_first fs end first.1 in
    (others.0, (first.0, others.1))

first-from_none : (fs : List WireField) (end : Option WireFault) → end ≡ None → AllByRecursion (λ f. packed_fault_at f ≡ None) fs → option_or (first_of (filter_map packed_fault_at fs)) end ≡ None
first-from_none [] end e all = e
first-from_none (f ∷ fs) end e all = rw all.0 (first-from_none fs end e all.1)

IsWhole-from_none : (bytes : List ℕ) → row_wire_fault bytes ≡ None → IsWhole bytes
IsWhole-from_none bytes e =
    let parts = none-from_first (fields_of bytes).items (fields_of bytes).fault e in
    record { fields = parts.0; packed = parts.1 }

pub none_from_IsWhole : (bytes : List ℕ) → IsWhole bytes → row_wire_fault bytes ≡ None
none_from_IsWhole bytes whole = first-from_none (fields_of bytes).items (fields_of bytes).fault whole.fields whole.packed

-- ---- the five cases

pub row_of_message-too_long : (bytes : List ℕ) → 2 ^ 24 < length bytes → row_of_message bytes ≡ Err RowTooLong
unfolding row_of_message
row_of_message-too_long bytes long = grind (arith, nat_tests)

pub row_of_message-broken : (bytes : List ℕ) (fault : WireFault) → length bytes ≤ 2 ^ 24 → row_wire_fault bytes ≡ Some fault → row_of_message bytes ≡ Err (Wire fault)
unfolding row_of_message
row_of_message-broken bytes fault size broken = rw broken (grind (arith, nat_tests))

pub row_of_message-too_many : (bytes : List ℕ) → length bytes ≤ 2 ^ 24 → row_wire_fault bytes ≡ None → 256 < length (row_lengths bytes) → row_of_message bytes ≡ Err TooManyColumns
unfolding row_of_message row_with
row_of_message-too_many bytes size none many = rw none (grind (arith, nat_tests))

pub row_of_message-past_values : (bytes : List ℕ) → length bytes ≤ 2 ^ 24 → row_wire_fault bytes ≡ None → length (row_lengths bytes) ≤ 256 → length (row_values bytes) < size_of_all (row_lengths bytes) → row_of_message bytes ≡ Err LengthsPastValues
unfolding row_of_message row_with
row_of_message-past_values bytes size none few past = rw none (grind (arith, nat_tests))

pub row_of_message-row : (bytes : List ℕ) → length bytes ≤ 2 ^ 24 → row_wire_fault bytes ≡ None → length (row_lengths bytes) ≤ 256 → size_of_all (row_lengths bytes) ≤ length (row_values bytes) → row_of_message bytes ≡ Ok (columns_over (row_values bytes) (row_lengths bytes))
unfolding row_of_message row_with
row_of_message-row bytes size none few within = rw none (grind (arith, nat_tests))

-- one of the five holds of any bytes
data Case (bytes : List ℕ) : Type 0 where
  too_long : 2 ^ 24 < length bytes → Case bytes
  broken : (fault : WireFault) → length bytes ≤ 2 ^ 24 → row_wire_fault bytes ≡ Some fault → Case bytes
  too_many : length bytes ≤ 2 ^ 24 → row_wire_fault bytes ≡ None → 256 < length (row_lengths bytes) → Case bytes
  past_values : length bytes ≤ 2 ^ 24 → row_wire_fault bytes ≡ None → length (row_lengths bytes) ≤ 256 → length (row_values bytes) < size_of_all (row_lengths bytes) → Case bytes
  is_row : length bytes ≤ 2 ^ 24 → row_wire_fault bytes ≡ None → length (row_lengths bytes) ≤ 256 → size_of_all (row_lengths bytes) ≤ length (row_values bytes) → Case bytes

case_of_sum : (bytes : List ℕ) → length bytes ≤ 2 ^ 24 → row_wire_fault bytes ≡ None → length (row_lengths bytes) ≤ 256 → (length (row_values bytes) < size_of_all (row_lengths bytes)) ⊎ (size_of_all (row_lengths bytes) ≤ length (row_values bytes)) → Case bytes
case_of_sum bytes size none few (inl past) = past_values size none few past
case_of_sum bytes size none few (inr within) = is_row size none few within

case_of_count : (bytes : List ℕ) → length bytes ≤ 2 ^ 24 → row_wire_fault bytes ≡ None → (256 < length (row_lengths bytes)) ⊎ (length (row_lengths bytes) ≤ 256) → Case bytes
case_of_count bytes size none (inl many) = too_many size none many
case_of_count bytes size none (inr few) = case_of_sum bytes size none few (cases_lt (length (row_values bytes)) (size_of_all (row_lengths bytes)))

case_of_fault : (bytes : List ℕ) → length bytes ≤ 2 ^ 24 → (fault : Option WireFault) → row_wire_fault bytes ≡ fault → Case bytes
case_of_fault bytes size None none = case_of_count bytes size none (cases_lt 256 (length (row_lengths bytes)))
case_of_fault bytes size (Some fault) is = broken fault size is

case_of_size : (bytes : List ℕ) → (2 ^ 24 < length bytes) ⊎ (length bytes ≤ 2 ^ 24) → Case bytes
case_of_size bytes (inl long) = too_long long
case_of_size bytes (inr size) = case_of_fault bytes size (row_wire_fault bytes) refl

case_of : (bytes : List ℕ) → Case bytes
case_of bytes = case_of_size bytes (cases_lt (2 ^ 24) (length bytes))

-- ---- what each answer says

row_from_ok : (bytes : List ℕ) (columns : List (Option (List ℕ))) → Case bytes → row_of_message bytes ≡ Ok columns → IsRow bytes columns
row_from_ok bytes columns (too_long long) e = let at = row_of_message-too_long bytes long in cc
row_from_ok bytes columns (broken fault size is) e = let at = row_of_message-broken bytes fault size is in cc
row_from_ok bytes columns (too_many size none many) e = let at = row_of_message-too_many bytes size none many in cc
row_from_ok bytes columns (past_values size none few past) e = let at = row_of_message-past_values bytes size none few past in cc
row_from_ok bytes columns (is_row size none few within) e =
    let at = row_of_message-row bytes size none few within in
    let same : columns_over (row_values bytes) (row_lengths bytes) ≡ columns = cc in
    record {
      size = size;
      whole = IsWhole-from_none bytes none;
      few = few;
      within = within;
      columns_are = rw (← same) (AreColumns-columns_over (row_values bytes) (row_lengths bytes));
    }

pub row : (bytes : List ℕ) (columns : List (Option (List ℕ))) → (row_of_message bytes ≡ Ok columns → IsRow bytes columns) × (IsRow bytes columns → row_of_message bytes ≡ Ok columns)
row bytes columns = (
  row_from_ok bytes columns (case_of bytes),
  λ is.
      row_of_message-row bytes is.size (none_from_IsWhole bytes is.whole) is.few is.within
      ∙ ap Ok (sym (columns_over-only (row_values bytes) (row_lengths bytes) columns is.columns_are)),
)

too_long_from : (bytes : List ℕ) → Case bytes → row_of_message bytes ≡ Err RowTooLong → 2 ^ 24 < length bytes
too_long_from bytes (too_long long) e = long
too_long_from bytes (broken fault size is) e = let at = row_of_message-broken bytes fault size is in cc
too_long_from bytes (too_many size none many) e = let at = row_of_message-too_many bytes size none many in cc
too_long_from bytes (past_values size none few past) e = let at = row_of_message-past_values bytes size none few past in cc
too_long_from bytes (is_row size none few within) e = let at = row_of_message-row bytes size none few within in cc

pub row_too_long : (bytes : List ℕ) → (row_of_message bytes ≡ Err RowTooLong → 2 ^ 24 < length bytes) × (2 ^ 24 < length bytes → row_of_message bytes ≡ Err RowTooLong)
row_too_long bytes = (too_long_from bytes (case_of bytes), row_of_message-too_long bytes)

broken_from : (bytes : List ℕ) (f : WireFault) → Case bytes → row_of_message bytes ≡ Err (Wire f) → (length bytes ≤ 2 ^ 24) × (row_wire_fault bytes ≡ Some f)
broken_from bytes f (too_long long) e = let at = row_of_message-too_long bytes long in cc
broken_from bytes f (broken fault size is) e = let at = row_of_message-broken bytes fault size is in let same : fault ≡ f = cc in (size, is ∙ ap Some same)
broken_from bytes f (too_many size none many) e = let at = row_of_message-too_many bytes size none many in cc
broken_from bytes f (past_values size none few past) e = let at = row_of_message-past_values bytes size none few past in cc
broken_from bytes f (is_row size none few within) e = let at = row_of_message-row bytes size none few within in cc

pub row_broken : (bytes : List ℕ) (f : WireFault) → (row_of_message bytes ≡ Err (Wire f) → (length bytes ≤ 2 ^ 24) × (row_wire_fault bytes ≡ Some f)) × ((length bytes ≤ 2 ^ 24) × (row_wire_fault bytes ≡ Some f) → row_of_message bytes ≡ Err (Wire f))
row_broken bytes f = (broken_from bytes f (case_of bytes), λ h. row_of_message-broken bytes f h.0 h.1)

too_many_from : (bytes : List ℕ) → Case bytes → row_of_message bytes ≡ Err TooManyColumns → (length bytes ≤ 2 ^ 24) × IsWhole bytes × (256 < length (row_lengths bytes))
too_many_from bytes (too_long long) e = let at = row_of_message-too_long bytes long in cc
too_many_from bytes (broken fault size is) e = let at = row_of_message-broken bytes fault size is in cc
too_many_from bytes (too_many size none many) e = (size, IsWhole-from_none bytes none, many)
too_many_from bytes (past_values size none few past) e = let at = row_of_message-past_values bytes size none few past in cc
too_many_from bytes (is_row size none few within) e = let at = row_of_message-row bytes size none few within in cc

pub row_too_many : (bytes : List ℕ) → (row_of_message bytes ≡ Err TooManyColumns → (length bytes ≤ 2 ^ 24) × IsWhole bytes × (256 < length (row_lengths bytes))) × ((length bytes ≤ 2 ^ 24) × IsWhole bytes × (256 < length (row_lengths bytes)) → row_of_message bytes ≡ Err TooManyColumns)
row_too_many bytes = (too_many_from bytes (case_of bytes), λ h. row_of_message-too_many bytes h.0 (none_from_IsWhole bytes h.1) h.2)

past_values_from : (bytes : List ℕ) → Case bytes → row_of_message bytes ≡ Err LengthsPastValues → (length bytes ≤ 2 ^ 24) × IsWhole bytes × (length (row_lengths bytes) ≤ 256) × (length (row_values bytes) < size_of_all (row_lengths bytes))
past_values_from bytes (too_long long) e = let at = row_of_message-too_long bytes long in cc
past_values_from bytes (broken fault size is) e = let at = row_of_message-broken bytes fault size is in cc
past_values_from bytes (too_many size none many) e = let at = row_of_message-too_many bytes size none many in cc
past_values_from bytes (past_values size none few past) e = (size, IsWhole-from_none bytes none, few, past)
past_values_from bytes (is_row size none few within) e = let at = row_of_message-row bytes size none few within in cc

pub row_past_values : (bytes : List ℕ) → (row_of_message bytes ≡ Err LengthsPastValues → (length bytes ≤ 2 ^ 24) × IsWhole bytes × (length (row_lengths bytes) ≤ 256) × (length (row_values bytes) < size_of_all (row_lengths bytes))) × ((length bytes ≤ 2 ^ 24) × IsWhole bytes × (length (row_lengths bytes) ≤ 256) × (length (row_values bytes) < size_of_all (row_lengths bytes)) → row_of_message bytes ≡ Err LengthsPastValues)
row_past_values bytes = (past_values_from bytes (case_of bytes), λ h. row_of_message-past_values bytes h.0 (none_from_IsWhole bytes h.1) h.2 h.3)
