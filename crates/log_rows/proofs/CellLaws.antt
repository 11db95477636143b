-- One column on: its text, and what is written.
use Rattle.std.proofs.Common.{◌≡◌, ℕ, ◌+◌, ◌*◌, ◌<◌, ◌≤◌, Bool, false, List, [], ◌∷◌, ◌++◌, length, map, drop, get_or, append_assoc, Option, None, Some, Result, Ok, Err, refl, sym, ap, ◌∙◌}
use Rattle.std.specs.List.{flat_map}
use Rattle.std.proofs.lemmas.List.{append-nil, drop_more, drop_all, map-append}
use Rattle.std.proofs.lemmas.List.Concat.{flat_map-append}
use Rattle.list_laws.specs.Outcome.{◌>>=◌}
use Rattle.proto_wire.specs.Varint.{shortest}
use Rattle.row_view.specs.WrittenRow.{length_number, value_bytes, written_lengths, written_values}
use Rattle.log_values.specs.declared.fault.ValueFault.{ValueFault}
use Rattle.log_values.specs.Value.{value_at, text}
use Rattle.log_tables.specs.Column.{ColumnValue}
use Rattle.log_tables.proofs.Fronts.{with_first, first-none, first-more}
use Rattle.log_rows.specs.Image.{bit_of, cell_at, cells_at}
use Rattle.log_rows.specs.declared.fault.RowError.{RowError}
use Rattle.log_rows.specs.declared.fault.RowError.TheVariants.{Memory, Fault}
use Rattle.log_rows.specs.Written.{Cells, with_row, PutsCells}

-- ---- what is written

same_cells : {a b c d : List ℕ} → a ≡ b → c ≡ d → ◌≡◌ {A = Cells} (record { lengths = a; values = c }) (record { lengths = b; values = d })
same_cells {a} {b} {c} {d} one two = rw (one, two) refl

lengths-append : (xs ys : List (Option (List ℕ))) → written_lengths (xs ++ ys) ≡ written_lengths xs ++ written_lengths ys
lengths-append xs ys = ap (flat_map shortest) (map-append length_number xs ys) ∙ flat_map-append shortest (map length_number xs) (map length_number ys)

-- a row of more columns
pub with_row-more : (cells : Cells) (xs ys : List (Option (List ℕ))) → with_row (with_row cells xs) ys ≡ with_row cells (xs ++ ys)
with_row-more cells xs ys =
    let one : (cells.lengths ++ written_lengths xs) ++ written_lengths ys ≡ cells.lengths ++ written_lengths (xs ++ ys) =
    append_assoc cells.lengths (written_lengths xs) (written_lengths ys) ∙ ap (λ (n : List ℕ). cells.lengths ++ n) (sym (lengths-append xs ys)) in
    let two : (cells.values ++ written_values xs) ++ written_values ys ≡ cells.values ++ written_values (xs ++ ys) =
    append_assoc cells.values (written_values xs) (written_values ys) ∙ ap (λ (n : List ℕ). cells.values ++ n) (sym (flat_map-append value_bytes xs ys)) in
    same_cells one two

pub with_row-none : (cells : Cells) → with_row cells [] ≡ cells
with_row-none cells = same_cells (append-nil cells.lengths) (append-nil cells.values)

-- one text more, and one NULL more
pub text_written : (old new : Cells) (text : List ℕ) (size : ℕ) → new.values ≡ old.values ++ text → new.lengths ≡ old.lengths ++ shortest (2 * size) → size ≡ length text → new ≡ with_row old (Some text ∷ [])
text_written old new text size put counted is =
    let one : new.lengths ≡ old.lengths ++ (shortest (2 * length text) ++ []) = counted ∙ ap (λ (n : ℕ). old.lengths ++ shortest (2 * n)) is ∙ ap (λ (xs : List ℕ). old.lengths ++ xs) (sym (append-nil (shortest (2 * length text)))) in
    let two : new.values ≡ old.values ++ (text ++ []) = put ∙ ap (λ (xs : List ℕ). old.values ++ xs) (sym (append-nil text)) in
    same_cells one two

pub null_written : (old new : Cells) → new.values ≡ old.values → new.lengths ≡ old.lengths ++ shortest 1 → new ≡ with_row old (None ∷ [])
null_written old new put counted =
    let one : new.lengths ≡ old.lengths ++ (shortest 1 ++ []) = counted ∙ ap (λ (xs : List ℕ). old.lengths ++ xs) (sym (append-nil (shortest 1))) in
    let two : new.values ≡ old.values ++ [] = put ∙ sym (append-nil old.values) in
    same_cells one two

-- ---- what is read

pub cell-text : (c : ColumnValue) (bytes written rest : List ℕ) → value_at c.kind c.labels bytes ≡ Ok (written, rest) → cell_at false c bytes ≡ Ok (Some written, rest)
cell-text c bytes written rest read = rw read refl

pub cell-fault : (c : ColumnValue) (bytes : List ℕ) (fault : ValueFault) → value_at c.kind c.labels bytes ≡ Err fault → cell_at false c bytes ≡ Err fault
cell-fault c bytes fault read = rw read refl

cells-first : (nulls : List ℕ) (n : ℕ) (c : ColumnValue) (columns : List ColumnValue) (bytes : List ℕ) (x : Option (List ℕ) × List ℕ) → cell_at (bit_of nulls n) c bytes ≡ Ok x
    → cells_at nulls n (c ∷ columns) bytes ≡ (cells_at nulls (n + 1) columns x.1 >>= λ others. Ok (x.0 ∷ others.0, others.1))
unfolding cells_at
cells-first nulls n c columns bytes x read = rw read refl

-- what a loop over columns keeps: a row was written, and the others make up the whole
pub record Goes {C : Type 0} (view : C → ColumnValue) (nulls : List ℕ) (columns : List C) (i : ℕ) (left : List ℕ) (old now : Cells) (all : Result (List (Option (List ℕ)) × List ℕ) ValueFault) : Type 0 where
  pub row : List (Option (List ℕ))
  pub written : now ≡ with_row old row
  pub rest : with_first row (cells_at nulls i (map view (drop i columns)) left) ≡ all

pub goes_on : {C : Type 0} (view : C → ColumnValue) (nulls : List ℕ) (columns : List C) (i : ℕ) (left : List ℕ) (old now new : Cells) (all : Result (List (Option (List ℕ)) × List ℕ) ValueFault) (c : C) (place : ℕ) (null : Bool) (x : Option (List ℕ)) (behind : List ℕ)
    → i < length columns → c ≡ get_or columns i c → place ≡ i → null ≡ bit_of nulls place → cell_at null (view c) left ≡ Ok (x, behind) → new ≡ with_row now (x ∷ [])
    → Goes view nulls columns i left old now all → Goes view nulls columns (i + 1) behind old new all
goes_on {C} view nulls columns i left old now new all c place null x behind less is at bit got put so_far =
    let null_is : null ≡ bit_of nulls i = bit ∙ ap (bit_of nulls) at in
    let read : cell_at (bit_of nulls i) (view c) left ≡ Ok (x, behind) = ap (λ (b : Bool). cell_at b (view c) left) (sym null_is) ∙ got in
    let parts : drop i columns ≡ c ∷ drop (i + 1) columns = drop_more columns i c less ∙ ap (λ (v : C). v ∷ drop (i + 1) columns) (sym is) in
    let here : with_first so_far.row (cells_at nulls i (view c ∷ map view (drop (i + 1) columns)) left) ≡ all = rw parts at so_far.rest in
    record {
      row = so_far.row ++ x ∷ [];
      written = put ∙ ap (λ (cells : Cells). with_row cells (x ∷ [])) so_far.written ∙ with_row-more old so_far.row (x ∷ []);
      rest = first-more so_far.row x (cells_at nulls (i + 1) (map view (drop (i + 1) columns)) behind)
          ∙ ap (with_first so_far.row) (sym (cells-first nulls i (view c) (map view (drop (i + 1) columns)) left (x, behind) read)) ∙ here;
    }

pub goes_wrong : {C : Type 0} (view : C → ColumnValue) (nulls : List ℕ) (columns : List C) (i : ℕ) (left : List ℕ) (old now : Cells) (all : Result (List (Option (List ℕ)) × List ℕ) ValueFault) (c : C) (place : ℕ) (null : Bool) (fault : ValueFault)
    → i < length columns → c ≡ get_or columns i c → place ≡ i → null ≡ bit_of nulls place → cell_at null (view c) left ≡ Err fault → Goes view nulls columns i left old now all → all ≡ Err fault
unfolding cells_at
goes_wrong {C} view nulls columns i left old now all c place null fault less is at bit got so_far =
    let null_is : null ≡ bit_of nulls i = bit ∙ ap (bit_of nulls) at in
    let read : cell_at (bit_of nulls i) (view c) left ≡ Err fault = ap (λ (b : Bool). cell_at b (view c) left) (sym null_is) ∙ got in
    let parts : drop i columns ≡ c ∷ drop (i + 1) columns = drop_more columns i c less ∙ ap (λ (v : C). v ∷ drop (i + 1) columns) (sym is) in
    let none : with_first so_far.row (cells_at nulls i (map view (drop i columns)) left) ≡ Err fault = rw (parts, read) refl in
    sym so_far.rest ∙ none

-- a refusal of one column is that of all
pub goes_refused : {C : Type 0} (view : C → ColumnValue) (nulls : List ℕ) (columns : List C) (i : ℕ) (left : List ℕ) (old now new : Cells) (all : Result (List (Option (List ℕ)) × List ℕ) ValueFault) (c : C) (place : ℕ) (null : Bool) (error : RowError)
    → i < length columns → c ≡ get_or columns i c → place ≡ i → null ≡ bit_of nulls place → PutsCells (λ (cell : Option (List ℕ)). cell ∷ []) (cell_at null (view c) left) now new (Err error) → Goes view nulls columns i left old now all
    → PutsCells (λ (row : List (Option (List ℕ))). row) all old new (Err error)
goes_refused view nulls columns i left old now new all c place null Memory less is at bit put so_far = tt
goes_refused view nulls columns i left old now new all c place null (Fault fault) less is at bit put so_far = goes_wrong view nulls columns i left old now all c place null fault less is at bit put so_far

pub goes_all : {C : Type 0} (view : C → ColumnValue) (nulls : List ℕ) (columns : List C) (i : ℕ) (left : List ℕ) (old now : Cells) (all : Result (List (Option (List ℕ)) × List ℕ) ValueFault)
    → length columns ≤ i → (h : Goes view nulls columns i left old now all) → all ≡ Ok (h.row, left)
unfolding cells_at
goes_all view nulls columns i left old now all le h =
    let done : with_first h.row (cells_at nulls i (map view (drop i columns)) left) ≡ Ok (h.row ++ [], left) = rw (drop_all i columns le) refl in
    sym h.rest ∙ done ∙ ap (λ (row : List (Option (List ℕ))). Ok (row, left)) (append-nil h.row)

pub goes_none : {C : Type 0} (view : C → ColumnValue) (nulls : List ℕ) (columns : List C) (left : List ℕ) (old now : Cells) → now ≡ old → Goes view nulls columns 0 left old now (cells_at nulls 0 (map view columns) left)
goes_none view nulls columns left old now is = record {
  row = [];
  written = is ∙ sym (with_row-none old);
  rest = first-none (cells_at nulls 0 (map view columns) left);
}
