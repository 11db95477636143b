-- The row that stands alone in a row change can be read, where none of its rows is at fault.
use Rattle.std.proofs.Common.{◌≡◌, ℕ, Bool, true, false, cond, eqb, List, [], ◌∷◌, Option, Some, None, Result, Ok, Err, refl, sym, subst, ◌⊎◌, inl, inr}
use Rattle.std.specs.Prelude.{option_and_then, IsOk, IfSome}
use Rattle.std.specs.List.{cons_option, filter_map}
use Rattle.std.specs.Result.{result_err}
use Rattle.std.proofs.lemmas.Bool.{eqb-true}
use Rattle.proto_wire.specs.Field.{WireField, fields_of}
use Rattle.row_view.specs.Row.{row_of_message}
use Rattle.proto_wire.specs.Parts.{bytes_in, part_in, first_of, single}
use Rattle.vevent.specs.Fault.{first_in, in_change, change_fault}
use Rattle.vevent.proofs.FirstFault.{none_first, none_second}

sound_row : (number : ℕ) (row : List ℕ) → (number ≡ 1) ⊎ (number ≡ 2) → in_change number row ≡ None → result_err (row_of_message row) ≡ None
sound_row number row (inl e) h = subst (λ (n : ℕ). in_change n row ≡ None → result_err (row_of_message row) ≡ None) (sym e) (λ none. none) h
sound_row number row (inr e) h = subst (λ (n : ℕ). in_change n row ≡ None → result_err (row_of_message row) ≡ None) (sym e) (λ none. none) h

-- the first is that of the front, or else of the others
first_is : (b : Bool) (o : Option (List ℕ)) (more : List (List ℕ)) (row : List ℕ) → first_of (cons_option (cond b o None) more) ≡ Some row → ((b ≡ true) × (o ≡ Some row)) ⊎ (first_of more ≡ Some row)
first_is false o more row h = inr h
first_is true None more row h = inr h
first_is true (Some p) more row h = inl (refl, h)

pub single_is_sound : (number : ℕ) (fs : List WireField) (row : List ℕ) → (number ≡ 1) ⊎ (number ≡ 2) → first_in in_change fs None ≡ None → first_of (filter_map (part_in number) fs) ≡ Some row → result_err (row_of_message row) ≡ None
single_is_sound number [] row which sound h = absurd cc
single_is_sound number (f ∷ fs) row which sound h =
    let here = none_first (option_and_then (in_change f.number) (bytes_in f.value)) (first_in in_change fs None) sound in
    let others = none_second (option_and_then (in_change f.number) (bytes_in f.value)) (first_in in_change fs None) sound in
    elim (first_is (eqb f.number number) (bytes_in f.value) (filter_map (part_in number) fs) row h) [
      | inl w ↦
          let held = subst (λ (o : Option (List ℕ)). option_and_then (in_change f.number) o ≡ None) w.1 here in
          sound_row number row which (subst (λ (n : ℕ). in_change n row ≡ None) (eqb-true f.number number w.0) held)
      | inr more ↦ single_is_sound number fs row which others more
    ]

pub ok_without_fault : {A F : Type 0} (r : Result A F) → result_err r ≡ None → IsOk r
ok_without_fault (Ok x) h = refl
ok_without_fault (Err f) h = absurd cc

-- so can what is found under a row's number, if anything is
pub found_is_sound : (number : ℕ) (change : List ℕ) (found : Option (List ℕ)) → (number ≡ 1) ⊎ (number ≡ 2) → change_fault change ≡ None → found ≡ single number change → IfSome found (λ row. IsOk (row_of_message row))
found_is_sound number change None which sound is = tt
found_is_sound number change (Some row) which sound is = ok_without_fault (row_of_message row) (single_is_sound number (fields_of change).items row which sound (sym is))
