-- DECIMAL as it stands in the log (MySQL's `decimal2bin`): groups of nine digits in four bytes, the highest
-- first, and the digits that are over at both ends in as few bytes as they need. The first bit is turned, and
-- below 0 each other bit, too.
use Rattle.std.specs.Prelude.{◌≡◌, ℕ, zero, suc, ◌+◌, ◌-◌, ◌*◌, ◌/◌, ◌%◌, ◌^◌, ◌==◌, ◌&&◌, Bool, true, false, if◌then◌else◌, nat_lt, List, [], ◌∷◌, ◌++◌, drop, slice_index, Result, IfOk}
use Rattle.std.specs.List.{flat_map, list_all}
use Rattle.log_values.specs.Digits.{nine, minus_text}

-- ---- its bytes

-- whether the number is below 0
abbrev pub is_below : List ℕ → Bool
is_below bytes = nat_lt (slice_index bytes 0) 128

-- a byte with its bits turned back
abbrev pub turned_back : List ℕ → ℕ → ℕ
turned_back bytes place = if is_below bytes then 255 - slice_index bytes place else slice_index bytes place

abbrev pub plain_byte : List ℕ → ℕ → ℕ
plain_byte bytes place = if place == 0 then turned_back bytes 0 - 128 else turned_back bytes place

-- the number of so many of these bytes from a place on, the highest first
unfoldable pub plain_number : List ℕ → ℕ → ℕ → ℕ
plain_number bytes place zero = 0
plain_number bytes place (suc n) = plain_number bytes place n * 256 + plain_byte bytes (place + n)

-- ---- its groups

-- a group: where it begins, and how many digits it has
pub record Group : Type 0 where
  pub place : ℕ
  pub digits : ℕ

-- how many bytes some digits have, nine at most
abbrev pub group_size : ℕ → ℕ
group_size digits = if digits == 9 then 4 else (digits + 1) / 2

-- so many groups of nine digits from a place on
abbrev pub full_groups : ℕ → ℕ → List Group
full_groups place zero = []
full_groups place (suc n) = record { place = place; digits = 9 } ∷ full_groups (place + 4) n

-- those before the point, and where those behind it begin
abbrev pub whole_groups : ℕ → List Group
whole_groups digits = record { place = 0; digits = digits % 9 } ∷ full_groups (group_size (digits % 9)) (digits / 9)

abbrev pub whole_size : ℕ → ℕ
whole_size digits = group_size (digits % 9) + 4 * (digits / 9)

-- those behind the point
abbrev pub part_groups : ℕ → ℕ → List Group
part_groups place digits = full_groups place (digits / 9) ++ record { place = place + 4 * (digits / 9); digits = digits % 9 } ∷ []

abbrev pub part_size : ℕ → ℕ
part_size digits = 4 * (digits / 9) + group_size (digits % 9)

-- how many bytes a number of so many digits has, of which so many stand behind the point
abbrev pub decimal_size : ℕ → ℕ → ℕ
decimal_size precision scale = whole_size (precision - scale) + part_size scale

-- ---- its text

abbrev pub group_number : List ℕ → Group → ℕ
group_number bytes g = plain_number bytes g.place (group_size g.digits)

abbrev pub group_text : List ℕ → Group → List ℕ
group_text bytes g = drop (9 - g.digits) (nine (group_number bytes g))

abbrev pub group_fits : List ℕ → Group → Bool
group_fits bytes g = nat_lt (group_number bytes g) (10 ^ g.digits)

-- digits, or where none was shown yet those from the first on that isn't 0
abbrev pub shown : Bool → List ℕ → List ℕ
shown true digits = digits
shown false [] = []
shown false (d ∷ digits) = if d == 48 then shown false digits else d ∷ digits

abbrev pub or_zero : List ℕ → List ℕ
or_zero [] = 48 ∷ []
or_zero (d ∷ digits) = d ∷ digits

abbrev pub whole_text : List ℕ → ℕ → List ℕ
whole_text bytes digits = or_zero (shown false (flat_map (group_text bytes) (whole_groups digits)))

abbrev pub part_text : List ℕ → ℕ → ℕ → List ℕ
part_text bytes place digits = if digits == 0 then [] else 46 ∷ flat_map (group_text bytes) (part_groups place digits)

abbrev pub decimal_fits : ℕ → ℕ → List ℕ → Bool
decimal_fits precision scale bytes =
    list_all (group_fits bytes) (whole_groups (precision - scale)) && list_all (group_fits bytes) (part_groups (whole_size (precision - scale)) scale)

abbrev pub decimal_in : ℕ → ℕ → List ℕ → List ℕ
decimal_in precision scale bytes =
    minus_text (is_below bytes) ++ (whole_text bytes (precision - scale) ++ part_text bytes (whole_size (precision - scale)) scale)

-- ---- what a call that shows digits leaves

-- behind what was there stand the digits that it shows, whatever others come behind them
abbrev pub Shows : {E : Type 0} → List ℕ → List ℕ → Bool → List ℕ → Result Bool E → Type 0
Shows old new started digits result = IfOk result (λ now. (rest : List ℕ) → new ++ shown now rest ≡ old ++ shown started (digits ++ rest))
