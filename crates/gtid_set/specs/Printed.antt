-- The printed form of a set: no flavour, lower case, uuids in the order of their text, intervals rising, joined by commas without blanks.
use Rattle.std.specs.Prelude.{ℕ, ◌+◌, ◌/◌, ◌%◌, ◌^◌, ◌==◌, nat_lt, if◌then◌else◌, Option, Some, None, List, [], ◌∷◌, ◌++◌, map, take}
use Rattle.std.specs.Fmt.{decimal}
use Rattle.gtid_set.specs.declared.interval.Interval.{Interval}
use Rattle.gtid_set.specs.Blank.{parts_between}

-- a hexadecimal digit in lower case
abbrev pub hex_glyph : ℕ → ℕ
hex_glyph digit = if nat_lt digit 10 then 48 + digit else 87 + digit

-- four hexadecimal digits
abbrev pub hex_four : ℕ → List ℕ
hex_four n = hex_glyph (n / 4096 % 16) ∷ hex_glyph (n / 256 % 16) ∷ hex_glyph (n / 16 % 16) ∷ hex_glyph (n % 16) ∷ []

-- the eight groups of 16 bits of a uuid, high one first
abbrev pub group_of : ℕ → ℕ → ℕ
group_of uuid place = uuid / 2 ^ place % 65536

-- the uuid's text, 8-4-4-4-12
unfoldable pub uuid_text : ℕ → List ℕ
uuid_text uuid =
    hex_four (group_of uuid 112) ++ hex_four (group_of uuid 96) ++ 45 ∷ hex_four (group_of uuid 80) ++ 45 ∷ hex_four (group_of uuid 64)
    ++ 45 ∷ hex_four (group_of uuid 48) ++ 45 ∷ hex_four (group_of uuid 32) ++ hex_four (group_of uuid 16) ++ hex_four (group_of uuid 0)

-- an interval's text behind its colon: its number, or its first and last one
abbrev pub span_text : ℕ → ℕ → List ℕ
span_text first last = if first == last then decimal first else decimal first ++ 45 ∷ decimal last

-- the numbers of an interval
abbrev pub numbers_text : Interval → List ℕ
numbers_text i = span_text i.first i.last

-- an interval behind one of another uuid or of the same one, or at the front of the text:
-- a colon and its numbers, for another uuid with that uuid and a comma before it
abbrev pub interval_text : Option ℕ → Interval → List ℕ
interval_text None i = uuid_text i.uuid ++ 58 ∷ numbers_text i
interval_text (Some before) i = if before == i.uuid then 58 ∷ numbers_text i else 44 ∷ uuid_text i.uuid ++ 58 ∷ numbers_text i

-- the intervals behind one of this uuid, if there is one
abbrev pub printed_behind : Option ℕ → List Interval → List ℕ
printed_behind before [] = []
printed_behind before (i ∷ set) = interval_text before i ++ printed_behind (Some i.uuid) set

-- the text of a set
abbrev pub printed_position : List Interval → List ℕ
printed_position set = printed_behind None set

-- the uuids of a printed set: the first 36 bytes of each part between its commas
abbrev pub printed_uuids : List Interval → List (List ℕ)
printed_uuids set = map (take 36) (parts_between 44 (printed_position set))
