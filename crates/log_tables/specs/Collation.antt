-- The collations of the columns of ENUM and of SET, as a server tells them (MySQL internals manual, "TABLE_MAP_EVENT",
-- optional metadata: ENUM_AND_SET_DEFAULT_CHARSET, 10, and ENUM_AND_SET_COLUMN_CHARSET, 11).
use Rattle.std.specs.Prelude.{ℕ, ◌+◌, ◌==◌, ◌&&◌, ◌||◌, ◌%◌, Bool, true, false, if◌then◌else◌, List, [], ◌∷◌, Option, Some, None, option_and_then, Result, Ok}
use Rattle.list_laws.specs.Outcome.{◌>>=◌}
use Rattle.log_values.specs.declared.comma.Comma.{Comma}
use Rattle.log_values.specs.Comma.{comma_of}
use Rattle.log_tables.specs.declared.fault.TableFault.{TableFault}
use Rattle.log_tables.specs.declared.collation.Collations as collations_of
use Rattle.log_tables.specs.Part.{packed_at}

-- What is told of the collations of these columns that are still to come, of which so many are past: the number of the one
-- that most have, and of each other column its place among these and its number; or without such a one the number of each.
pub record CollationsTold : Type 0 where
  pub usual : Option ℕ
  pub others : List ℕ
  pub past : ℕ

abbrev pub collations_value : collations_of.Collations → CollationsTold
collations_value c = record { usual = c.usual; others = c.others.now; past = c.past }

-- what the parts of kinds 11 and 10 tell, of which a server writes one
unfoldable pub collations_at : List ℕ → List ℕ → Result CollationsTold TableFault
collations_at [] [] = Ok (record { usual = None; others = []; past = 0 })
collations_at [] (b ∷ most) = packed_at (b ∷ most) >>= λ x. Ok (record { usual = Some x.0; others = x.1; past = 0 })
collations_at (b ∷ each) most = Ok (record { usual = None; others = b ∷ each; past = 0 })

-- the number of the next of these columns, where each is told
abbrev pub next_of_each : List ℕ → ℕ → Result (Option ℕ × CollationsTold) TableFault
next_of_each [] past = Ok (None, record { usual = None; others = []; past = past + 1 })
next_of_each (b ∷ each) past = packed_at (b ∷ each) >>= λ x. Ok (Some x.0, record { usual = None; others = x.1; past = past + 1 })

-- where most have one, and the other at the front is the next one's, if its place says so
abbrev pub next_of_most : ℕ → List ℕ → ℕ → Result (Option ℕ × CollationsTold) TableFault
next_of_most most [] past = Ok (Some most, record { usual = Some most; others = []; past = past + 1 })
next_of_most most (b ∷ others) past =
    packed_at (b ∷ others) >>= λ place.
    if place.0 == past then (packed_at place.1 >>= λ x. Ok (Some x.0, record { usual = Some most; others = x.1; past = past + 1 }))
    else Ok (Some most, record { usual = Some most; others = b ∷ others; past = past + 1 })

-- the number of the next of these columns, if one is told, and what is told of the others
abbrev pub next_by : Option ℕ → List ℕ → ℕ → Result (Option ℕ × CollationsTold) TableFault
next_by None others past = next_of_each others past
next_by (Some most) others past = next_of_most most others past

-- whether a type with this metadata is ENUM or SET
abbrev pub is_labelled : ℕ → ℕ → Bool
is_labelled t meta = (t == 254) && ((meta % 256 == 247) || (meta % 256 == 248))

-- the same of a column; one of another type has none
abbrev pub collation_at : Bool → CollationsTold → Result (Option ℕ × CollationsTold) TableFault
collation_at false c = Ok (None, c)
collation_at true c = next_by c.usual c.others c.past

-- the comma of a collation that is told
abbrev pub comma_told : Option ℕ → Option Comma
comma_told collation = option_and_then comma_of collation
