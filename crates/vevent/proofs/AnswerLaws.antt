-- The rows and texts of an answer can be read, where none of them is at fault.
use Rattle.std.proofs.Common.{◌≡◌, ℕ, Bool, true, false, cond, eqb, List, [], ◌∷◌, Option, Some, None, refl, sym, subst, ◌⊎◌, inl, inr}
use Rattle.std.specs.Prelude.{◌&&◌, option_and_then, IsOk}
use Rattle.std.specs.List.{cons_option, filter_map, AllByRecursion}
use Rattle.std.specs.Result.{result_err}
use Rattle.std.proofs.lemmas.Bool.{eqb-true}
use Rattle.proto_wire.specs.Field.{WireField, fields_of}
use Rattle.proto_wire.specs.Parts.{bytes_in, part_in, first_of, parts, single}
use Rattle.row_view.specs.Row.{row_of_message}
use Rattle.vevent.specs.Fault.{first_in}
use Rattle.vevent.specs.Answer.{in_rows, answer_row_fault}
use Rattle.vevent.proofs.FirstFault.{none_first, none_second}
use Rattle.vevent.proofs.SoundRows.{ok_without_fault}

abbrev pub AreRows : List (List ℕ) → Type 0
AreRows rows = AllByRecursion (λ row. IsOk (row_of_message row)) rows

-- a field of one of the two numbers of rows
is_row : (number : ℕ) (row : List ℕ) → (number ≡ 4) ⊎ (number ≡ 5) → in_rows number row ≡ None → IsOk (row_of_message row)
is_row number row (inl e) h = ok_without_fault (row_of_message row) (subst (λ (n : ℕ). in_rows n row ≡ None → result_err (row_of_message row) ≡ None) (sym e) (λ none. none) h)
is_row number row (inr e) h = ok_without_fault (row_of_message row) (subst (λ (n : ℕ). in_rows n row ≡ None → result_err (row_of_message row) ≡ None) (sym e) (λ none. none) h)

with_part : (number : ℕ) (of : Bool) (own : ℕ) (part : Option (List ℕ)) (more : List (List ℕ)) → (number ≡ 4) ⊎ (number ≡ 5) → (of ≡ true → own ≡ number) → option_and_then (in_rows own) part ≡ None → AreRows more → AreRows (cons_option (cond of part None) more)
with_part number false own part more which same none h = h
with_part number true own None more which same none h = h
with_part number true own (Some p) more which same none h = (is_row number p which (subst (λ (n : ℕ). in_rows n p ≡ None) (same refl) none), h)

rows_in_fields : (number : ℕ) (fs : List WireField) → (number ≡ 4) ⊎ (number ≡ 5) → first_in in_rows fs None ≡ None → AreRows (filter_map (part_in number) fs)
rows_in_fields number [] which none = tt
rows_in_fields number (f ∷ fs) which none =
    let here = none_first (option_and_then (in_rows f.number) (bytes_in f.value)) (first_in in_rows fs None) none in
    let others = none_second (option_and_then (in_rows f.number) (bytes_in f.value)) (first_in in_rows fs None) none in
    with_part number (eqb f.number number) f.number (bytes_in f.value) (filter_map (part_in number) fs) which (eqb-true f.number number) here (rows_in_fields number fs which others)

pub rows_are : (answer : List ℕ) → answer_row_fault answer ≡ None → AreRows (parts 4 answer)
rows_are answer none = rows_in_fields 4 (fields_of answer).items (inl refl) none

first_is_row : (rows : List (List ℕ)) (row : List ℕ) → AreRows rows → first_of rows ≡ Some row → IsOk (row_of_message row)
first_is_row [] row all e = absurd cc
first_is_row (x ∷ xs) row all e = let same : x ≡ row = cc in subst (λ (r : List ℕ). IsOk (row_of_message r)) same all.0

pub lastpk_is : (answer row : List ℕ) → answer_row_fault answer ≡ None → single 5 answer ≡ Some row → IsOk (row_of_message row)
lastpk_is answer row none e = first_is_row (parts 5 answer) row (rows_in_fields 5 (fields_of answer).items (inr refl) none) e

-- ---- of several tests

pub and_first : (a b : Bool) → (a && b) ≡ true → a ≡ true
and_first true b h = refl
and_first false b h = absurd cc

pub and_second : (a b : Bool) → (a && b) ≡ true → b ≡ true
and_second true b h = h
and_second false b h = absurd cc
