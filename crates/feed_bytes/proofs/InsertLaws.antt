-- A message of one event that inserts rows: its size and its parts.
use Rattle.std.proofs.Common.{◌≡◌, ℕ, ◌+◌, List, [], ◌∷◌, ◌++◌, map, length, sym, ap, ◌∙◌, arith, append_assoc}
use Rattle.std.proofs.lemmas.List.{append-nil}
use Rattle.proto_wire.specs.Varint.{shortest}
use Rattle.proto_wire.specs.Writing.{written_field, written_fields, number_field, message_field}
use Rattle.row_view.specs.Row.{RowValue}
use Rattle.vevent.specs.WrittenEvent.{written_row_event, written_event}
use Rattle.vevent.proofs.WritingSteps.{length-with_message}
use Rattle.event_laws.specs.WrittenMessages.{written_response, framed}
use Rattle.feed_bytes.specs.Inserts.{insert_change, inserts}

-- the type's number, and behind it what the event holds
pub event_long : (name : List ℕ) (rows : List RowValue) (number body size : ℕ) → number ≡ length (written_fields (number_field 1 12))
    → body ≡ length (written_field (message_field 5 (written_row_event name (map insert_change rows)))) → size ≡ number + body → size ≡ length (written_event (inserts name rows))
event_long name rows number body size n b s = omega (arith, n, b, s, length-with_message (number_field 1 12) (written_row_event name (map insert_change rows)) 5)

-- the length of the response, and behind it the event under its number
pub framed_one : (old one two three event : List ℕ) (size : ℕ) → size ≡ length (written_field (message_field 1 event)) → one ≡ old ++ shortest size
    → two ++ event ≡ one ++ written_field (message_field 1 event) → three ≡ two ++ event → three ≡ old ++ framed (written_response (event ∷ []))
framed_one old one two three event size a b c d =
    let field : List ℕ = written_field (message_field 1 event) in
    d ∙ c
    ∙ ap (λ (w : List ℕ). w ++ field) b
    ∙ append_assoc old (shortest size) field
    ∙ ap (λ (n : ℕ). old ++ (shortest n ++ field)) a
    ∙ ap (λ (m : List ℕ). old ++ framed m) (sym (append-nil field))
