-- The columns of a table map, under what the workflow says of the table.
use Rattle.std.specs.Prelude.{ℕ, ◌+◌, ◌==◌, ◌&&◌, ◌||◌, not, nat_lt, if◌then◌else◌, Bool, true, List, [], ◌∷◌, length, map, Option, Some, None, Result, Ok, Err}
use Rattle.std.specs.List.{list_any}
use Rattle.list_laws.specs.Outcome.{◌>>=◌}
use Rattle.log_events.specs.Number.{number}
use Rattle.log_values.specs.declared.kind.Kind.{Kind}
use Rattle.log_values.specs.declared.kind.Kind.TheVariants.{Signed, Unsigned, Counted, Padded, Bits, Decimal, Date, Year, DateTime, Time, Timestamp, Label, Labels}
use Rattle.log_tables.specs.declared.fault.TableFault.{TableFault}
use Rattle.log_tables.specs.declared.fault.TableFault.TheVariants.{CutBody, OtherColumns, OtherType}
use Rattle.log_tables.specs.declared.column.LogColumn as log_column
use Rattle.log_tables.specs.declared.column.Wanted as wanted_column
use Rattle.log_tables.specs.declared.told.Told as told_of
use Rattle.log_tables.specs.Part.{front_at}
use Rattle.log_tables.specs.TableMap.{MapValue}
use Rattle.log_tables.specs.Extra.{part_of, are_names, labels_at, has_no_sign}
use Rattle.log_tables.specs.Collation.{CollationsTold, collations_value, collations_at, is_labelled, collation_at, comma_told}
use Rattle.log_tables.specs.Kind.{metadata_size, kind_of}

-- a column of the workflow: its name and its type number (`query.proto`, Type)
pub record WantedValue : Type 0 where
  pub name : List ℕ
  pub type_number : ℕ

abbrev pub wanted_value : wanted_column.Wanted → WantedValue
wanted_value w = record { name = w.name.now; type_number = w.type_number }

-- a column of the log: how its values are written, and the labels of an ENUM or a SET
pub record ColumnValue : Type 0 where
  pub kind : Kind
  pub labels : List (List ℕ)

abbrev pub column_value : log_column.LogColumn → ColumnValue
column_value c = record { kind = c.kind; labels = map (λ b. b.now) c.labels.items }

-- ---- one column

-- what a map tells of the columns that are still to come: their metadata, the labels and the collations of those of ENUM
-- and of SET, and the signs of all columns of numbers, of which so many are past; no signs where they aren't told
pub record Told : Type 0 where
  pub metadata : List ℕ
  pub enums : List ℕ
  pub sets : List ℕ
  pub collations : CollationsTold
  pub signs : List ℕ
  pub numbers : ℕ

abbrev pub told_value : told_of.Told → Told
told_value t = record { metadata = t.metadata.now; enums = t.enums.now; sets = t.sets.now; collations = collations_value t.collations; signs = t.signs.now; numbers = t.numbers }

-- types of numbers: whole ones, FLOAT, DOUBLE and DECIMAL
abbrev pub is_number : ℕ → Bool
is_number t = nat_lt t 6 && nat_lt 0 t || (t == 8) || (t == 9) || (t == 246)

-- whether the sign is the one that the map tells
abbrev pub sign_fits : Kind → List ℕ → ℕ → Bool
sign_fits (Signed size) signs n = not (has_no_sign signs n)
sign_fits (Unsigned size) signs n = has_no_sign signs n
sign_fits (Counted size) signs n = true
sign_fits (Padded size width) signs n = true
sign_fits (Bits count) signs n = true
sign_fits (Decimal precision scale) signs n = true
sign_fits Date signs n = true
sign_fits Year signs n = true
sign_fits (DateTime f) signs n = true
sign_fits (Time f) signs n = true
sign_fits (Timestamp f) signs n = true
sign_fits (Label size) signs n = true
sign_fits (Labels size comma) signs n = true

abbrev pub is_signed_so : Kind → List ℕ → ℕ → Bool
is_signed_so kind [] n = true
is_signed_so kind (b ∷ signs) n = sign_fits kind (b ∷ signs) n

-- its labels, and what is told of the others
abbrev pub with_labels : Kind → Told → Result (ColumnValue × Told) TableFault
with_labels (Label size) told = labels_at told.enums >>= λ x. Ok (record { kind = Label size; labels = x.0 }, record told { enums = x.1 })
with_labels (Labels size comma) told = labels_at told.sets >>= λ x. Ok (record { kind = Labels size comma; labels = x.0 }, record told { sets = x.1 })
with_labels (Signed size) told = Ok (record { kind = Signed size; labels = [] }, told)
with_labels (Unsigned size) told = Ok (record { kind = Unsigned size; labels = [] }, told)
with_labels (Counted size) told = Ok (record { kind = Counted size; labels = [] }, told)
with_labels (Padded size width) told = Ok (record { kind = Padded size width; labels = [] }, told)
with_labels (Bits count) told = Ok (record { kind = Bits count; labels = [] }, told)
with_labels (Decimal precision scale) told = Ok (record { kind = Decimal precision scale; labels = [] }, told)
with_labels Date told = Ok (record { kind = Date; labels = [] }, told)
with_labels Year told = Ok (record { kind = Year; labels = [] }, told)
with_labels (DateTime f) told = Ok (record { kind = DateTime f; labels = [] }, told)
with_labels (Time f) told = Ok (record { kind = Time f; labels = [] }, told)
with_labels (Timestamp f) told = Ok (record { kind = Timestamp f; labels = [] }, told)

-- a kind, where there is one and its sign is right
abbrev pub kind_there : Option Kind → List ℕ → ℕ → Result Kind TableFault
kind_there None signs n = Err OtherType
kind_there (Some kind) signs n = if is_signed_so kind signs n then Ok kind else Err OtherType

-- the column of a type, under the type number that the workflow has, and what is told of the others
unfoldable pub column_at : ℕ → ℕ → Told → Result (ColumnValue × Told) TableFault
column_at wanted t told =
    front_at (metadata_size t) told.metadata >>= λ meta.
    collation_at (is_labelled t (number 0 2 meta.0)) told.collations >>= λ collation.
    kind_there (kind_of wanted t (number 0 2 meta.0) (comma_told collation.0)) told.signs told.numbers >>= λ kind.
    with_labels kind (record told { metadata = meta.1; collations = collation.1; numbers = if is_number t then told.numbers + 1 else told.numbers })

-- ---- all columns

-- nothing more is told than the columns need
abbrev pub is_all_told : Told → Bool
is_all_told told = (length told.metadata == 0) && (length told.enums == 0) && (length told.sets == 0) && (length told.collations.others == 0)

-- the columns of types, one by one
unfoldable pub columns_in : List WantedValue → List ℕ → Told → Result (List ColumnValue) TableFault
columns_in [] types told = if is_all_told told then Ok [] else Err CutBody
columns_in (w ∷ wanted) [] told = Err OtherColumns
columns_in (w ∷ wanted) (t ∷ types) told = column_at w.type_number t told >>= λ c. columns_in wanted types c.1 >>= λ others. Ok (c.0 ∷ others)

-- MariaDB counts YEAR, 13, among the numbers that have a sign: signs are told only where there is none
abbrev pub signs_told : List ℕ → List ℕ → List ℕ
signs_told types signs = if list_any (λ t. t == 13) types then [] else signs

-- whether the names are those of the workflow, where names are told
abbrev pub has_names : List WantedValue → List ℕ → Bool
has_names wanted names = (length names == 0) || are_names (map (λ w. w.name) wanted) names

-- The columns of a map, in order: as many as the workflow's, with the same names where the map tells names (kind
-- 4), and each of its type. Labels are of kinds 6 (ENUM) and 5 (SET), collations of both of kinds 11 and 10, signs of kind
-- 1.
unfoldable pub columns_of : List WantedValue → MapValue → Result (List ColumnValue) TableFault
columns_of wanted m =
    if not (length wanted == length m.types) then Err OtherColumns else
    part_of 4 m.extra >>= λ names. part_of 6 m.extra >>= λ enums. part_of 5 m.extra >>= λ sets. part_of 1 m.extra >>= λ signs.
    part_of 11 m.extra >>= λ each. part_of 10 m.extra >>= λ most.
    if has_names wanted names then (collations_at each most >>= λ collations.
    columns_in wanted m.types (record { metadata = m.metadata; enums = enums; sets = sets; collations = collations; signs = signs_told m.types signs; numbers = 0 }))
    else Err OtherColumns
