-- The text of pieces of JSON (RFC 8259; this profile).
use Rattle.std.specs.Prelude.{ℕ, List, [], ◌∷◌, map, decimal, flat_map}
use Rattle.gtid_set.specs.Printed.{printed_position}
use Rattle.hex.specs.Hex.{encode_lower}
use Rattle.json.specs.Print.{quoted}
use Rattle.pk_copy.specs.KeyValue.{Part}
use Rattle.pk_copy.specs.Lastpk.{part_text}
use Rattle.pk_copy.specs.PartValue.{part_value}
use Rattle.serde_json.specs.Data.{Data, string, array}
use Rattle.serde_json.specs.View.{items_of}
use Rattle.serde_json.specs.Written.{compact_text}
use Rattle.shown_text.specs.Shown.{shown}
use Rattle.json_pieces.specs.declared.piece.Piece.{Piece}
use Rattle.json_pieces.specs.declared.piece.Piece.TheVariants.{Text, Name, Shown, Number, Position, Parts}

-- a part of a key as a cell of a dump; a number as its shortest decimal text
abbrev pub cell_of : List ℕ → List ℕ
cell_of bytes = 120 ∷ encode_lower bytes

abbrev pub part_data : Part → Data
part_data part = string (cell_of (part_text part))

-- a list of values of one kind
abbrev pub list_data : {X : Type 0} → (X → Data) → List X → Data
list_data data_of xs = array (items_of (map data_of xs))

-- a piece: text as it stands, or a value
abbrev pub piece_text : Piece → List ℕ
piece_text (Text text) = text.now
piece_text (Name text) = quoted text.now
piece_text (Shown text) = quoted (shown text.now)
piece_text (Number n) = decimal n
piece_text (Position position) = quoted (printed_position position.now)
piece_text (Parts parts) = compact_text (list_data part_data (map part_value parts.now))

-- pieces one behind the other
abbrev pub pieces_text : List Piece → List ℕ
pieces_text pieces = flat_map piece_text pieces
