-- Rows and the messages that insert them, by the sizes of their parts.
use Rattle.std.specs.Prelude.{◌≡◌, ◌⊎◌, ℕ, ◌+◌, ◌^◌, ◌≤◌, ◌==◌, nat_lt, if◌then◌else◌, List, [], ◌∷◌, length}
use Rattle.std.specs.List.{flat_map}
use Rattle.proto_wire.specs.Varint.{shortest}
use Rattle.proto_wire.specs.Writing.{written_field, message_field}
use Rattle.row_view.specs.Row.{RowValue}
use Rattle.row_view.specs.WrittenRow.{written_lengths, written_values, IsWithinLimits}
use Rattle.vevent.specs.WrittenEvent.{written_change, written_event}
use Rattle.event_laws.specs.WrittenMessages.{written_response, framed}
use Rattle.feed_bytes.specs.Inserts.{insert_change, inserts}

-- ---- sizes

-- how many bytes a field has that holds so many, under a number below 16
abbrev pub held_size : ℕ → ℕ
held_size n = 1 + length (shortest n) + n

-- the same of a text, which isn't written where it is empty
abbrev pub text_size : ℕ → ℕ
text_size n = if n == 0 then 0 else held_size n

-- a row whose lengths and values have so many bytes, with its lengths packed
abbrev pub packed_size : ℕ → ℕ → ℕ
packed_size lengths values = text_size lengths + text_size values

-- the same with its one length in a field of its own
abbrev pub plain_size : ℕ → ℕ → ℕ
plain_size lengths values = 1 + lengths + text_size values

-- the same of a row within the limits, whose length isn't packed only where it would be beyond them
abbrev pub row_size : ℕ → ℕ → ℕ
row_size lengths values = if nat_lt (2 ^ 24) (packed_size lengths values) then plain_size lengths values else packed_size lengths values

-- a row of so many columns, whose lengths and values have so many bytes, is within the limits
pub record IsWithin (columns lengths values : ℕ) : Type 0 where
  pub few : columns ≤ 256
  pub lengths_short : lengths ≤ 2 ^ 24
  pub values_short : values ≤ 2 ^ 24
  pub short : (packed_size lengths values ≤ 2 ^ 24) ⊎ ((columns ≡ 1) × (plain_size lengths values ≤ 2 ^ 24))

-- a row is within the limits, and its lengths and values have so many bytes
pub record HasSizes (row : RowValue) (lengths values : ℕ) : Type 0 where
  pub within : IsWithinLimits row
  pub lengths_are : length (written_lengths row) ≡ lengths
  pub values_are : length (written_values row) ≡ values
  pub lengths_short : lengths ≤ 2 ^ 24
  pub values_short : values ≤ 2 ^ 24

-- ---- what stands before a part

-- before so many bytes that a field holds
abbrev pub held_head : ℕ → ℕ → List ℕ
held_head tag n = tag ∷ shortest n

-- before a text of so many bytes
abbrev pub text_head : ℕ → ℕ → List ℕ
text_head tag n = if n == 0 then [] else held_head tag n

-- before the lengths of a row within the limits
abbrev pub lengths_head : ℕ → ℕ → List ℕ
lengths_head lengths values = if nat_lt (2 ^ 24) (packed_size lengths values) then 8 ∷ [] else text_head 10 lengths

-- ---- messages

-- the change that inserts a row, as a field of its event
abbrev pub change_field : RowValue → List ℕ
change_field row = written_field (message_field 2 (written_change (insert_change row)))

abbrev pub change_fields : List RowValue → List ℕ
change_fields rows = flat_map change_field rows

-- a message of one ROW that inserts rows of the table of this name
abbrev pub inserts_message : List ℕ → List RowValue → List ℕ
inserts_message name rows = framed (written_response (written_event (inserts name rows) ∷ []))

-- messages one after another
abbrev pub joined : List (List ℕ) → List ℕ
joined messages = flat_map (λ message. message) messages
