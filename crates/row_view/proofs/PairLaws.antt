-- A row whose message has its packed lengths and its values alone.
use Rattle.std.proofs.Common.{◌≡◌, ℕ, List, [], ◌∷◌, None, refl}
use Rattle.proto_wire.specs.Field.{Bytes, fields_of}
use Rattle.row_view.specs.declared.found.TheConstants.{LENGTHS, VALUES}
use Rattle.row_view.specs.RowFields.{row_lengths, row_values}
use Rattle.row_view.specs.Private.Marks.{lengths_left}
use Rattle.row_view.proofs.ReadLaws.{no_fields}

-- the message is these lengths and these values
abbrev pub IsPair : List ℕ → List ℕ → List ℕ → Type 0
IsPair message packed values = fields_of message ≡ record {
  items = record { number = LENGTHS; value = Bytes packed } ∷ record { number = VALUES; value = Bytes values } ∷ [];
  fault = None;
}

pub pair_lengths : (message packed values : List ℕ) → IsPair message packed values → lengths_left packed [] ≡ row_lengths message
pair_lengths message packed values e = rw (no_fields, e) refl

pub pair_values : (message packed values : List ℕ) → IsPair message packed values → row_values message ≡ values
pair_values message packed values e = rw e refl
