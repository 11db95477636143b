-- Columns and their names one on.
use Rattle.std.proofs.Common.{◌≡◌, ℕ, ◌+◌, ◌<◌, ◌≤◌, Bool, true, false, eqb, List, [], ◌∷◌, ◌++◌, length, map, drop, get_or, length-drop, Result, Ok, Err, refl, sym, ap, ◌∙◌, arith}
use Rattle.std.proofs.lemmas.List.{append-nil, drop_more, drop_all}
use Rattle.list_laws.specs.Outcome.{◌>>=◌, Refuses}
use Rattle.log_tables.specs.declared.fault.TableFault.{TableFault}
use Rattle.log_tables.specs.declared.fault.TableFault.TheVariants.{CutBody, OtherColumns}
use Rattle.log_tables.specs.declared.fault.TableError.{TableError}
use Rattle.log_tables.specs.declared.fault.TableError.TheVariants.{Memory, Fault}
use Rattle.log_tables.specs.Fault.{meant}
use Rattle.std.specs.Str.{bytes_eq}
use Rattle.log_tables.specs.Part.{counted_at}
use Rattle.log_tables.specs.Extra.{are_names}
use Rattle.log_tables.specs.Column.{WantedValue, ColumnValue, Told, column_at, is_all_told, columns_in}
use Rattle.log_tables.proofs.Fronts.{with_front, front-more}

columns-first : (w : WantedValue) (wanted : List WantedValue) (t : ℕ) (types : List ℕ) (told : Told) (x : ColumnValue × Told) → column_at w.type_number t told ≡ Ok x
    → columns_in (w ∷ wanted) (t ∷ types) told ≡ (columns_in wanted types x.1 >>= λ others. Ok (x.0 ∷ others))
unfolding columns_in
columns-first w wanted t types told x read = rw read refl

pub columns_more : {W : Type 0} (view : W → WantedValue) (ws : List W) (i : ℕ) (d : W) (others types : List ℕ) (t : ℕ) (told : Told) (x : ColumnValue × Told) (xs : List ColumnValue) (all : Result (List ColumnValue) TableFault)
    → i < length ws → others ≡ t ∷ types → column_at (view (get_or ws i d)).type_number t told ≡ Ok x
    → with_front xs (columns_in (map view (drop i ws)) others told) ≡ all → with_front (xs ++ x.0 ∷ []) (columns_in (map view (drop (i + 1) ws)) types x.1) ≡ all
columns_more {W} view ws i d others types t told x xs all less front read so_far =
    let parts : drop i ws ≡ get_or ws i d ∷ drop (i + 1) ws = drop_more ws i d less in
    let here : with_front xs (columns_in (view (get_or ws i d) ∷ map view (drop (i + 1) ws)) (t ∷ types) told) ≡ all = rw (parts, front) at so_far in
    front-more xs x.0 (columns_in (map view (drop (i + 1) ws)) types x.1) ∙ ap (with_front xs) (sym (columns-first (view (get_or ws i d)) (map view (drop (i + 1) ws)) t types told x read)) ∙ here

pub columns_fault : {W : Type 0} (view : W → WantedValue) (ws : List W) (i : ℕ) (d : W) (others types : List ℕ) (t : ℕ) (told : Told) (fault : TableFault) (xs : List ColumnValue) (all : Result (List ColumnValue) TableFault)
    → i < length ws → others ≡ t ∷ types → column_at (view (get_or ws i d)).type_number t told ≡ Err fault
    → with_front xs (columns_in (map view (drop i ws)) others told) ≡ all → all ≡ Err fault
unfolding columns_in
columns_fault {W} view ws i d others types t told fault xs all less front read so_far =
    let parts : drop i ws ≡ get_or ws i d ∷ drop (i + 1) ws = drop_more ws i d less in
    let none : with_front xs (columns_in (map view (drop i ws)) others told) ≡ Err fault = rw (parts, front, read) refl in
    sym so_far ∙ none

columns_none : {W : Type 0} (view : W → WantedValue) (ws : List W) (told : Told) → 0 < length ws → columns_in (map view ws) [] told ≡ Err OtherColumns
unfolding columns_in
columns_none view [] told some = absurd (omega arith)
columns_none view (w ∷ ws) told some = refl

pub columns_few : {W : Type 0} (view : W → WantedValue) (ws : List W) (i : ℕ) (others : List ℕ) (told : Told) (xs : List ColumnValue) (all : Result (List ColumnValue) TableFault)
    → i < length ws → others ≡ [] → with_front xs (columns_in (map view (drop i ws)) others told) ≡ all → all ≡ Err OtherColumns
columns_few view ws i others told xs all less none so_far =
    let refused : with_front xs (columns_in (map view (drop i ws)) others told) ≡ Err OtherColumns = rw (none, columns_none view (drop i ws) told (omega (arith, length-drop i ws))) refl in
    sym so_far ∙ refused

pub columns_end : {W : Type 0} (view : W → WantedValue) (ws : List W) (i : ℕ) (others : List ℕ) (told : Told) (xs : List ColumnValue) (all : Result (List ColumnValue) TableFault)
    → length ws ≤ i → is_all_told told ≡ true → with_front xs (columns_in (map view (drop i ws)) others told) ≡ all → all ≡ Ok xs
unfolding columns_in
columns_end view ws i others told xs all le told_all so_far =
    let done : with_front xs (columns_in (map view (drop i ws)) others told) ≡ Ok (xs ++ []) = rw (drop_all i ws le, told_all) refl in
    sym so_far ∙ done ∙ ap Ok (append-nil xs)

pub columns_over : {W : Type 0} (view : W → WantedValue) (ws : List W) (i : ℕ) (others : List ℕ) (told : Told) (xs : List ColumnValue) (all : Result (List ColumnValue) TableFault)
    → length ws ≤ i → is_all_told told ≡ false → with_front xs (columns_in (map view (drop i ws)) others told) ≡ all → all ≡ Err CutBody
unfolding columns_in
columns_over view ws i others told xs all le more so_far =
    let refused : with_front xs (columns_in (map view (drop i ws)) others told) ≡ Err CutBody = rw (drop_all i ws le, more) refl in
    sym so_far ∙ refused

pub columns_refused : {W : Type 0} (view : W → WantedValue) (ws : List W) (i : ℕ) (d : W) (others types : List ℕ) (t : ℕ) (told : Told) (error : TableError) (xs : List ColumnValue) (all : Result (List ColumnValue) TableFault)
    → i < length ws → others ≡ t ∷ types → Refuses meant error (column_at (view (get_or ws i d)).type_number t told)
    → with_front xs (columns_in (map view (drop i ws)) others told) ≡ all → Refuses meant error all
columns_refused view ws i d others types t told Memory xs all less front refused so_far = tt
columns_refused view ws i d others types t told (Fault fault) xs all less front refused so_far = columns_fault view ws i d others types t told fault xs all less front refused so_far

-- ---- names

pub names_more : {W : Type 0} (view : W → List ℕ) (ws : List W) (i : ℕ) (d : W) (left : List ℕ) (x : List ℕ × List ℕ) (all : Bool)
    → i < length ws → counted_at left ≡ Ok x → bytes_eq x.0 (view (get_or ws i d)) ≡ true → are_names (map view (drop i ws)) left ≡ all → are_names (map view (drop (i + 1) ws)) x.1 ≡ all
unfolding are_names
names_more {W} view ws i d left x all less read same so_far =
    let parts : drop i ws ≡ get_or ws i d ∷ drop (i + 1) ws = drop_more ws i d less in
    rw (parts, read, same) at so_far

pub names_other : {W : Type 0} (view : W → List ℕ) (ws : List W) (i : ℕ) (d : W) (left : List ℕ) (x : List ℕ × List ℕ) (all : Bool)
    → i < length ws → counted_at left ≡ Ok x → bytes_eq x.0 (view (get_or ws i d)) ≡ false → are_names (map view (drop i ws)) left ≡ all → false ≡ all
unfolding are_names
names_other {W} view ws i d left x all less read other so_far =
    let parts : drop i ws ≡ get_or ws i d ∷ drop (i + 1) ws = drop_more ws i d less in
    let none : are_names (map view (drop i ws)) left ≡ false = rw (parts, read, other) refl in
    sym none ∙ so_far

names_wrong : {W : Type 0} (view : W → List ℕ) (ws : List W) (left : List ℕ) (fault : TableFault) → 0 < length ws → counted_at left ≡ Err fault → are_names (map view ws) left ≡ false
unfolding are_names
names_wrong view [] left fault some read = absurd (omega arith)
names_wrong view (w ∷ ws) left fault some read = rw read refl

pub names_fault : {W : Type 0} (view : W → List ℕ) (ws : List W) (i : ℕ) (left : List ℕ) (fault : TableFault) (all : Bool)
    → i < length ws → counted_at left ≡ Err fault → are_names (map view (drop i ws)) left ≡ all → false ≡ all
names_fault view ws i left fault all less read so_far = sym (names_wrong view (drop i ws) left fault (omega (arith, length-drop i ws)) read) ∙ so_far

pub names_end : {W : Type 0} (view : W → List ℕ) (ws : List W) (i : ℕ) (left : List ℕ) (all : Bool) → length ws ≤ i → are_names (map view (drop i ws)) left ≡ all → eqb (length left) 0 ≡ all
unfolding are_names
names_end view ws i left all le so_far =
    let done : are_names (map view (drop i ws)) left ≡ eqb (length left) 0 = rw (drop_all i ws le) refl in
    sym done ∙ so_far

pub names_seen : {W : Type 0} (view : W → WantedValue) (ws : List W) → map (λ w. (view w).name) ws ≡ map (λ v. v.name) (map view ws)
names_seen view [] = refl
names_seen {W} view (w ∷ ws) = ap (λ (names : List (List ℕ)). (view w).name ∷ names) (names_seen view ws)
