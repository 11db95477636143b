-- A value of a row in the log, and its text.
use Rattle.std.specs.Prelude.{◌≡◌, ℕ, ◌+◌, ◌-◌, ◌==◌, Bool, true, if◌then◌else◌, nat_lt, List, [], ◌++◌, length, take, drop, replicate, Result, Ok, Err, decimal}
use Rattle.log_events.specs.Number.{number, size_of}
use Rattle.log_values.specs.declared.fault.ValueFault.{ValueFault}
use Rattle.log_values.specs.declared.fault.ValueFault.TheVariants.{CutValue, OutOfRange}
use Rattle.log_values.specs.declared.fault.ValueError.{ValueError}
use Rattle.log_values.specs.declared.fault.ValueError.TheVariants.{Memory, Fault}
use Rattle.log_values.specs.declared.kind.Kind.{Kind}
use Rattle.log_values.specs.declared.kind.Kind.TheVariants.{Signed, Unsigned, Counted, Padded, Bits, Decimal, Date, Year, DateTime, Time, Timestamp, Label, Labels}
use Rattle.log_values.specs.Digits.{fraction_size}
use Rattle.log_values.specs.Whole.{signed_text}
use Rattle.log_values.specs.Moment.{date_fits, date_in, year_in, datetime_fits, datetime_in}
use Rattle.log_values.specs.Civil.{timestamp_fits, timestamp_in}
use Rattle.log_values.specs.TimeOfDay.{time_fits, time_in}
use Rattle.log_values.specs.Decimal.{decimal_size, decimal_fits, decimal_in}
use Rattle.log_values.specs.Comma.{comma_bytes}
use Rattle.log_values.specs.Labels.{label_fits, label_text, labels_text, bits_left}

-- the number of each fault (this profile)
abbrev pub number_of : ValueFault → ℕ
number_of CutValue = 147
number_of OutOfRange = 150

-- how many bytes the value at the front has, its count with them
abbrev pub value_size : Kind → List ℕ → ℕ
value_size (Signed size) bytes = size_of size
value_size (Unsigned size) bytes = size_of size
value_size (Counted size) bytes = size_of size + number 0 (size_of size) bytes
value_size (Padded size width) bytes = size_of size + number 0 (size_of size) bytes
value_size (Bits count) bytes = count
value_size (Decimal precision scale) bytes = decimal_size precision scale
value_size Date bytes = 3
value_size Year bytes = 1
value_size (DateTime f) bytes = 5 + fraction_size f
value_size (Time f) bytes = 3 + fraction_size f
value_size (Timestamp f) bytes = 4 + fraction_size f
value_size (Label size) bytes = size_of size
value_size (Labels size comma) bytes = size_of size

-- whether a value of these bytes is one that its type has
abbrev pub fits : Kind → List (List ℕ) → List ℕ → Bool
fits (Signed size) labels bytes = true
fits (Unsigned size) labels bytes = true
fits (Counted size) labels bytes = true
fits (Padded size width) labels bytes = true
fits (Bits count) labels bytes = true
fits (Decimal precision scale) labels bytes = decimal_fits precision scale bytes
fits Date labels bytes = date_fits bytes
fits Year labels bytes = true
fits (DateTime f) labels bytes = datetime_fits f bytes
fits (Time f) labels bytes = time_fits f bytes
fits (Timestamp f) labels bytes = timestamp_fits f bytes
fits (Label size) labels bytes = label_fits labels (number 0 (size_of size) bytes)
fits (Labels size comma) labels bytes = bits_left (length labels) (number 0 (size_of size) bytes) == 0

-- the text of a value of these bytes
abbrev pub text : Kind → List (List ℕ) → List ℕ → List ℕ
text (Signed size) labels bytes = signed_text size (number 0 (size_of size) bytes)
text (Unsigned size) labels bytes = decimal (number 0 (size_of size) bytes)
text (Counted size) labels bytes = drop (size_of size) bytes
text (Padded size width) labels bytes = drop (size_of size) bytes ++ replicate (width - length (drop (size_of size) bytes)) 0
text (Bits count) labels bytes = bytes
text (Decimal precision scale) labels bytes = decimal_in precision scale bytes
text Date labels bytes = date_in bytes
text Year labels bytes = year_in bytes
text (DateTime f) labels bytes = datetime_in f bytes
text (Time f) labels bytes = time_in f bytes
text (Timestamp f) labels bytes = timestamp_in f bytes
text (Label size) labels bytes = label_text labels (number 0 (size_of size) bytes)
text (Labels size comma) labels bytes = labels_text (comma_bytes comma) [] labels (number 0 (size_of size) bytes)

-- the text of the value at the front, and the bytes after it
unfoldable pub value_at : Kind → List (List ℕ) → List ℕ → Result (List ℕ × List ℕ) ValueFault
value_at kind labels bytes =
    if nat_lt (length bytes) (value_size kind bytes) then Err CutValue else
    if fits kind labels (take (value_size kind bytes) bytes) then Ok (text kind labels (take (value_size kind bytes) bytes), drop (value_size kind bytes) bytes) else Err OutOfRange

-- What a call that writes the text of the value at the front leaves, where it answers the bytes after it: the
-- text behind what was there; and at a fault what was there. Of want of memory it tells nothing: a beginning of
-- the text may stand there.
abbrev pub PutsValue : Result (List ℕ × List ℕ) ValueFault → List ℕ → List ℕ → Result (List ℕ) ValueError → Type 0
PutsValue definition old new (Ok rest) = (written : List ℕ) × (definition ≡ Ok (written, rest)) × (new ≡ old ++ written)
PutsValue definition old new (Err Memory) = Unit {0}
PutsValue definition old new (Err (Fault fault)) = (definition ≡ Err fault) × (new ≡ old)
