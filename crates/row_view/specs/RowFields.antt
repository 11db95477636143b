-- What the fields of a row message say: repeated sint64 lengths = 1, bytes values = 2
-- (`query.proto`, Row). Fields of other numbers, and these two with another wire type, say nothing.
use Rattle.std.specs.Prelude.{ℕ, ℤ, ◌==◌, List, Option, None, if◌then◌else◌}
use Rattle.std.specs.Option.{option_or}
use Rattle.std.specs.List.{filter_map}
use Rattle.proto_wire.specs.declared.fault.WireFault.{WireFault}
use Rattle.proto_wire.specs.Reading.{Reading}
use Rattle.proto_wire.specs.Varint.{varints_of}
use Rattle.proto_wire.specs.Field.{WireValue, WireField, Varint, Eight, Bytes, Four, fields_of}
use Rattle.proto_wire.specs.Parts.{first_of, text}
use Rattle.proto_wire.specs.Sint64s.{sint64s_of, sint64s}
use Rattle.row_view.specs.declared.found.TheConstants.{LENGTHS, VALUES}

-- ---- lengths

-- all lengths of these fields, in order
abbrev pub lengths_of : List WireField → List ℤ
lengths_of fields = sint64s_of LENGTHS fields

-- ---- faults

-- why a payload is no list of lengths
abbrev pub packed_fault_in : WireValue → Option WireFault
packed_fault_in (Varint n) = None
packed_fault_in (Eight b) = None
packed_fault_in (Bytes b) = (varints_of b).fault
packed_fault_in (Four b) = None

-- why a packed part isn't a list of varints; nothing for the other fields
abbrev pub packed_fault_at : WireField → Option WireFault
packed_fault_at f = if f.number == LENGTHS then packed_fault_in f.value else None

-- the fault that lies furthest left: that of a packed part lies before the one that ends the fields
abbrev pub fault_of : Reading WireField WireFault → Option WireFault
fault_of fields = option_or (first_of (filter_map packed_fault_at fields.items)) fields.fault

-- ---- of a message

-- all its lengths, in order
abbrev pub row_lengths : List ℕ → List ℤ
row_lengths bytes = sint64s LENGTHS bytes

-- its values: the last that there are
abbrev pub row_values : List ℕ → List ℕ
row_values bytes = text VALUES bytes

-- why it isn't a list of fields whose packed lengths are lists of varints
abbrev pub row_wire_fault : List ℕ → Option WireFault
row_wire_fault bytes = fault_of (fields_of bytes)
