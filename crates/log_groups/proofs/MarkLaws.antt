-- Savepoints and maps one on.
use Rattle.std.proofs.Common.{◌≡◌, ◌≢◌, ℕ, ◌+◌, ◌-◌, ◌<◌, ◌≤◌, Bool, true, false, cond, eqb, List, [], ◌∷◌, ◌++◌, length, map, take, drop, get_or, Option, None, Some, refl, sym, ap, ◌∙◌, inl, inr, arith}
use Rattle.std.specs.Prelude.{IsTrue, ◌↔◌}
use Rattle.std.specs.Char.{to_ascii_lowercase}
use Rattle.std.specs.Str.{bytes_eq, str_eq_ignore_ascii_case}
use Rattle.std.proofs.lemmas.Bool.{cases_Bool, eq-eqb, ne_eqb}
use Rattle.std.proofs.lemmas.List.{drop_more, drop_all, map_more}
use Rattle.std.proofs.lemmas.Slice.Eq.{bytes_eq-Decides}
use Rattle.log_tables.specs.TableMap.{MapValue}
use Rattle.log_groups.specs.Keeping.{Mark, mark_from}
use Rattle.log_groups.specs.Transaction.{map_from, map_of}

pub marks_more : {M : Type 0} (view : M → Mark) (name : List ℕ) (marks : List M) (i : ℕ) (m : M) (found new all : Option ℕ) → i < length marks → m ≡ get_or marks i m → new ≡ cond (str_eq_ignore_ascii_case (view m).name name) (Some (view m).count) found
    → mark_from name (map view (drop i marks)) found ≡ all → mark_from name (map view (drop (i + 1) marks)) new ≡ all
marks_more {M} view name marks i m found new all less is new_is so_far =
    let parts : drop i marks ≡ m ∷ drop (i + 1) marks = drop_more marks i m less ∙ ap (λ (v : M). v ∷ drop (i + 1) marks) (sym is) in
    let here : mark_from name (view m ∷ map view (drop (i + 1) marks)) found ≡ all = rw parts at so_far in
    ap (mark_from name (map view (drop (i + 1) marks))) new_is ∙ here

pub marks_end : {M : Type 0} (view : M → Mark) (name : List ℕ) (marks : List M) (i : ℕ) (found all : Option ℕ) → length marks ≤ i → mark_from name (map view (drop i marks)) found ≡ all → found ≡ all
marks_end view name marks i found all le so_far = rw (drop_all i marks le) at so_far

-- a test of two texts that says whether their letters are the same
pub letters_tested : (a b : List ℕ) (r : Bool) → (IsTrue r ↔ (map to_ascii_lowercase a ≡ map to_ascii_lowercase b)) → r ≡ str_eq_ignore_ascii_case a b
letters_tested a b true h = sym ((bytes_eq-Decides (map to_ascii_lowercase a) (map to_ascii_lowercase b)).1 (h.0 refl))
letters_tested a b false h =
    elim (cases_Bool (bytes_eq (map to_ascii_lowercase a) (map to_ascii_lowercase b))) [
      | inl same ↦ h.1 ((bytes_eq-Decides (map to_ascii_lowercase a) (map to_ascii_lowercase b)).0 same) ∙ sym same
      | inr other ↦ sym other
    ]

-- ---- maps from the last on

-- the latest of a number, of some maps and one more
pub map_last : (number : ℕ) (maps : List MapValue) (m : MapValue) (found : Option MapValue) → map_from number (maps ++ m ∷ []) found ≡ cond (eqb m.table number) (Some m) (map_from number maps found)
map_last number [] m found = refl
map_last number (n ∷ maps) m found = map_last number maps m (cond (eqb n.table number) (Some n) found)

map_here : {M : Type 0} (view : M → MapValue) (number : ℕ) (maps : List M) (i left : ℕ) (d : M) (all : Option MapValue) → i < length maps → left ≡ i + 1 → map_of number (map view (take left maps)) ≡ all
    → cond (eqb (view (get_or maps i d)).table number) (Some (view (get_or maps i d))) (map_of number (map view (take i maps))) ≡ all
map_here view number maps i left d all less is so_far =
    sym (ap (λ (n : ℕ). map_of number (map view (take n maps))) is ∙ ap (map_of number) (map_more view maps i d less) ∙ map_last number (map view (take i maps)) (view (get_or maps i d)) None) ∙ so_far

-- a loop from the last map on, none of those behind having the number: this one has it, or hasn't either
pub map_found : {M : Type 0} (view : M → MapValue) (number : ℕ) (maps : List M) (left : ℕ) (d : M) (all : Option MapValue) → 0 < left → left ≤ length maps → (view (get_or maps (left - 1) d)).table ≡ number
    → map_of number (map view (take left maps)) ≡ all → Some (view (get_or maps (left - 1) d)) ≡ all
map_found view number maps left d all some le same so_far =
    let test : eqb (view (get_or maps (left - 1) d)).table number ≡ true = eq-eqb _ _ same in
    rw test at (map_here view number maps (left - 1) left d all (omega arith) (omega arith) so_far)

pub map_before : {M : Type 0} (view : M → MapValue) (number : ℕ) (maps : List M) (left : ℕ) (d : M) (all : Option MapValue) → 0 < left → left ≤ length maps → (view (get_or maps (left - 1) d)).table ≢ number
    → map_of number (map view (take left maps)) ≡ all → map_of number (map view (take (left - 1) maps)) ≡ all
map_before view number maps left d all some le other so_far =
    let test : eqb (view (get_or maps (left - 1) d)).table number ≡ false = ne_eqb _ _ other in
    rw test at (map_here view number maps (left - 1) left d all (omega arith) (omega arith) so_far)
