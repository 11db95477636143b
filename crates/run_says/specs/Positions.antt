-- What the text of a position says (MySQL manual, 'GTID Sets'): uuids, each with intervals of numbers. `SamePairs` and
-- `is_blank` are those of gtid_set/specs/Position.antt and Blank.antt.
use Rattle.std.specs.Prelude.{◌≡◌, ◌≢◌, ◌⊎◌, ℕ, List, [], ◌∷◌, ◌++◌, map, length, IsTrue, codes}
use Rattle.std.specs.List.{AllByRecursion, flat_map}
use Rattle.std.specs.Str.Parse.{AllDigits, IsNumeral, digits_value}
use Rattle.gtid_set.specs.declared.interval.Interval.{Interval}
use Rattle.gtid_set.specs.Position.{SamePairs}
use Rattle.gtid_set.specs.Blank.{is_blank}
use Rattle.run_says.specs.Wire.{EachIs, HaveTogether}

-- a text with blanks round it
abbrev pub IsPadded : List ℕ → List ℕ → Type 0
IsPadded padded text = (before behind : List ℕ) × (padded ≡ before ++ text ++ behind) × AllByRecursion (λ b. IsTrue (is_blank b)) (before ++ behind)

-- texts, each behind a separator
abbrev pub each_behind : ℕ → List (List ℕ) → List ℕ
each_behind separator texts = flat_map (λ text. separator ∷ text) texts

-- one or more decimal digits
abbrev pub IsDecimal : List ℕ → ℕ → Type 0
IsDecimal text n = IsNumeral 10 text × (n ≡ digits_value 10 text)

-- hexadecimal digits of either case, in groups of 8, 4, 4, 4 and 12 with hyphens between (RFC 9562)
abbrev pub IsUuid : List ℕ → ℕ → Type 0
IsUuid text uuid = (groups : List (List ℕ)) × (45 ∷ text ≡ each_behind 45 groups) × (map length groups ≡ 8 ∷ 4 ∷ 4 ∷ 4 ∷ 12 ∷ [])
    × AllDigits 16 (flat_map (λ group. group) groups) × (uuid ≡ digits_value 16 (flat_map (λ group. group) groups))

-- an interval is m, or m-n; with n below m it has no number
abbrev pub SaysInterval : ℕ → List ℕ → Interval → Type 0
SaysInterval uuid text i = (i.uuid ≡ uuid) × ((IsDecimal text i.first × (i.last ≡ i.first))
    ⊎ ((first last : List ℕ) × (text ≡ first ++ 45 ∷ last) × IsDecimal first i.first × IsDecimal last i.last))

-- a part is empty, or a uuid and one or more intervals of it, each behind a colon
abbrev pub SaysPart : List ℕ → List Interval → Type 0
SaysPart text intervals = (part : List ℕ) × IsPadded text part × (((part ≡ []) × (intervals ≡ []))
    ⊎ ((name : List ℕ) × (uuid : ℕ) × (pieces : List (List ℕ)) × (part ≡ name ++ each_behind 58 pieces) × IsUuid name uuid × (pieces ≢ []) × EachIs (SaysInterval uuid) pieces intervals))

-- A position: parts with commas between, behind `MySQL56/` or without it; it has just the pairs of uuids and numbers that
-- the parts' intervals have.
pub record IsPositionText (text : List ℕ) (position : List Interval) : Type 0 where
  pub named : List ℕ
  pub padded : IsPadded text named ⊎ IsPadded text (codes "MySQL56/" ++ named)
  pub parts : List (List ℕ)
  pub between : 44 ∷ named ≡ each_behind 44 parts
  pub intervals : List Interval
  pub say : HaveTogether SaysPart parts intervals
  pub pairs : SamePairs position intervals
