-- The text of a position is ASCII, and so it is UTF-8.
use Rattle.std.proofs.Common.{◌≡◌, ◌==◌, ℕ, ◌<◌, Bool, true, false, cond, List, [], ◌∷◌, ◌++◌, Option, Some, None, arith}
use Rattle.std.proofs.lemmas.Fmt.{IsAscii-decimal}
use Rattle.std.proofs.lemmas.Str.{IsAscii-append, IsUtf8-append, IsUtf8-from_ascii, is_utf8-from_IsUtf8}
use Rattle.std.proofs.lemmas.Str.Ascii.{IsAscii-nil, IsAscii-cons}
use Rattle.std.specs.Fmt.{decimal}
use Rattle.std.specs.Str.{IsAscii, IsUtf8, is_utf8}
use Rattle.gtid_set.specs.declared.interval.Interval.{Interval}
use Rattle.gtid_set.specs.Position.{IsInterval, IsCanonical}
use Rattle.gtid_set.specs.Printed.{uuid_text, numbers_text, interval_text, printed_behind, printed_position}
use Rattle.gtid_set.proofs.HexText.{uuid-utf8}

-- a byte of ASCII before a text
before_utf8 : (b : ℕ) (text : List ℕ) → b < 128 → IsUtf8 text → IsUtf8 (b ∷ text)
before_utf8 b text small is = IsUtf8-append (b ∷ []) text (IsUtf8-from_ascii (b ∷ []) (IsAscii-cons b [] small IsAscii-nil)) is

number_ascii : (i : Interval) → IsInterval i → IsAscii (numbers_text i)
number_ascii i is = by (i.first == i.last)
  where
    first : IsAscii (decimal i.first)
    first = IsAscii-decimal i.first (omega (arith, is.holds_first, is.to_last))

    last : IsAscii (decimal i.last)
    last = IsAscii-decimal i.last (omega (arith, is.to_last))

    by : (b : Bool) → IsAscii (cond b (decimal i.first) (decimal i.first ++ 45 ∷ decimal i.last))
    by true = first
    by false = IsAscii-append (decimal i.first) (45 ∷ decimal i.last) first (IsAscii-cons 45 (decimal i.last) (omega arith) last)

-- a colon and the numbers of an interval
numbers_utf8 : (i : Interval) → IsInterval i → IsUtf8 (58 ∷ numbers_text i)
numbers_utf8 i is = before_utf8 58 (numbers_text i) (omega arith) (IsUtf8-from_ascii (numbers_text i) (number_ascii i is))

interval_utf8 : (before : Option ℕ) (i : Interval) → IsInterval i → IsUtf8 (interval_text before i)
interval_utf8 before i is = by before
  where
    whole : IsUtf8 (uuid_text i.uuid ++ 58 ∷ numbers_text i)
    whole = IsUtf8-append (uuid_text i.uuid) (58 ∷ numbers_text i) (uuid-utf8 i.uuid) (numbers_utf8 i is)

    behind : (b : Bool) → IsUtf8 (cond b (58 ∷ numbers_text i) (44 ∷ uuid_text i.uuid ++ 58 ∷ numbers_text i))
    behind true = numbers_utf8 i is
    behind false = before_utf8 44 (uuid_text i.uuid ++ 58 ∷ numbers_text i) (omega arith) whole

    by : (before : Option ℕ) → IsUtf8 (interval_text before i)
    by None = whole
    by (Some uuid) = behind (uuid == i.uuid)

printed_utf8 : (before : Option ℕ) (set : List Interval) → IsCanonical set → IsUtf8 (printed_behind before set)
printed_utf8 before [] is = IsUtf8-from_ascii [] IsAscii-nil
printed_utf8 before (i ∷ set) is = IsUtf8-append (interval_text before i) (printed_behind (Some i.uuid) set) (interval_utf8 before i is.0) (printed_utf8 (Some i.uuid) set is.2)

pub position_utf8 : (position : List Interval) → IsCanonical position → is_utf8 (printed_position position) ≡ true
position_utf8 position is = is_utf8-from_IsUtf8 (printed_position position) (printed_utf8 None position is)
