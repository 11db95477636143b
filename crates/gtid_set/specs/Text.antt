-- The set that a position text means, or its first fault (MySQL manual, 'GTID Sets'; the flavour and the limits are this profile's).
use Rattle.std.specs.Prelude.{◌≡◌, ℕ, ◌≤◌, ◌==◌, ◌&&◌, nat_lt, nat_le, if◌then◌else◌, Option, Some, None, Result, Ok, Err, List, [], ◌∷◌, ◌++◌, length, take, drop, codes}
use Rattle.gtid_set.specs.declared.interval.Interval.{Interval}
use Rattle.gtid_set.specs.declared.fault.GtidFault.{GtidFault}
use Rattle.gtid_set.specs.declared.fault.GtidFault.TheVariants.{TooLarge, Flavor, BadUuid, Syntax, BadNumber}
use Rattle.std.specs.Cmp.Lexicographic.{pointwise}
use Rattle.list_laws.specs.Outcome.{◌>>=◌}
use Rattle.gtid_set.specs.Position.{last_number, union_of, SamePairs}
use Rattle.gtid_set.specs.Blank.{trimmed, cut, parts_between}
use Rattle.gtid_set.specs.Digits.{decimal_of, uuid_of}

-- the greatest length of a position text, in bytes
abbrev pub text_limit : ℕ
text_limit = 1048576

-- each step's list, one after another; the first fault ends them
abbrev pub all_of : {A B : Type 0} → (A → Result (List B) GtidFault) → List A → Result (List B) GtidFault
all_of step [] = Ok []
all_of step (a ∷ more) = do
  front ← step a
  behind ← all_of step more
  Ok (front ++ behind)

-- a number of one or more digits, from low to the greatest
abbrev pub number_from : ℕ → Option ℕ → Result ℕ GtidFault
number_from low None = Err BadNumber
number_from low (Some n) = if nat_le low n && nat_le n last_number then Ok n else Err BadNumber

-- the upper bound of an interval: the lower one where none is written
abbrev pub upper_from : ℕ → Option (List ℕ) → Result ℕ GtidFault
upper_from first None = Ok first
upper_from first (Some text) = number_from 0 (decimal_of text)

-- an interval where it holds a number
abbrev pub interval_list : ℕ → ℕ → ℕ → List Interval
interval_list uuid first last = if nat_le first last then record { uuid = uuid; first = first; last = last } ∷ [] else []

-- an interval's text is m or m-n, split at the first hyphen; with m above n it holds no number
unfoldable pub intervals_of_piece : ℕ → List ℕ → Result (List Interval) GtidFault
intervals_of_piece uuid piece = do
  first ← number_from 1 (decimal_of (cut 45 piece).0)
  last ← upper_from first (cut 45 piece).1
  Ok (interval_list uuid first last)

-- a colon, and behind it the intervals between colons
abbrev pub intervals_behind : ℕ → List ℕ → Result (List Interval) GtidFault
intervals_behind uuid [] = Err Syntax
intervals_behind uuid (b ∷ text) = if b == 58 then all_of (intervals_of_piece uuid) (parts_between 58 text) else Err Syntax

-- the intervals behind the uuid of a part
abbrev pub intervals_for : Option ℕ → List ℕ → Result (List Interval) GtidFault
intervals_for None text = Err BadUuid
intervals_for (Some uuid) text = intervals_behind uuid text

-- a part without the blanks at its ends: nothing, or 36 bytes of uuid and the intervals behind it
unfoldable pub intervals_of_part : List ℕ → Result (List Interval) GtidFault
intervals_of_part [] = Ok []
intervals_of_part (b ∷ part) = intervals_for (uuid_of (take 36 (b ∷ part))) (drop 36 (b ∷ part))

-- what stands before a slash is MySQL56, and drops out with it
abbrev pub behind_flavor : List ℕ → List ℕ → Option (List ℕ) → Result (List ℕ) GtidFault
behind_flavor text flavor None = Ok text
behind_flavor text flavor (Some rest) = if pointwise ◌==◌ flavor (codes "MySQL56") then Ok rest else Err Flavor

-- a text without its flavour
abbrev pub without_flavor : List ℕ → Result (List ℕ) GtidFault
without_flavor text = behind_flavor text (cut 47 text).0 (cut 47 text).1

-- all intervals that a text names, in the order of the text
unfoldable pub intervals_of_text : List ℕ → Result (List Interval) GtidFault
intervals_of_text text = do
  parts ← without_flavor (trimmed text)
  all_of (λ part. intervals_of_part (trimmed part)) (parts_between 44 parts)

-- a list in front of what a reading gives
abbrev pub put_before : List Interval → Result (List Interval) GtidFault → Result (List Interval) GtidFault
put_before front reading = reading >>= λ more. Ok (front ++ more)

-- the same of a text within the limit
unfoldable pub within_limit : List ℕ → Result (List Interval) GtidFault
within_limit text = if nat_lt text_limit (length text) then Err TooLarge else intervals_of_text text

-- the set of some intervals
abbrev pub set_of : List Interval → List Interval
set_of intervals = union_of [] intervals

-- the set that a text of any length means
abbrev pub set_of_text : List ℕ → Result (List Interval) GtidFault
set_of_text text = do
  intervals ← intervals_of_text text
  Ok (set_of intervals)

-- what a position text means: its set, or its first fault
unfoldable pub position_of_text : List ℕ → Result (List Interval) GtidFault
position_of_text text = if nat_lt text_limit (length text) then Err TooLarge else set_of_text text

-- the set has exactly the pairs that the text names
abbrev pub IsOfText : List ℕ → List Interval → Type 0
IsOfText text set = (intervals : List Interval) × (intervals_of_text text ≡ Ok intervals) × SamePairs set intervals

-- the text has no fault and names two intervals or more
abbrev pub NamesSeveral : List ℕ → Type 0
NamesSeveral text = (intervals : List Interval) × (intervals_of_text text ≡ Ok intervals) × (2 ≤ length intervals)
