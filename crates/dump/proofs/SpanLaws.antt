-- Columns whose values lie together, and what is pushed behind them.
use Rattle.std.proofs.Common.{◌≡◌, ℕ, ◌-◌, ◌<◌, ◌≤◌, List, [], ◌∷◌, ◌++◌, length, take, drop, get_or, refl, sym, ap, ◌∙◌, length-append, arith, Option, Some, None}
use Rattle.std.specs.Option.{option_map}
use Rattle.std.proofs.lemmas.List.{map-append, drop_at, drop-append-le, take-append-le, take_all, length-drop}
use Rattle.std.proofs.lemmas.List.Elements.{All-from_recursion}
use Rattle.dump.specs.declared.row_cells.Span.{Span}
use Rattle.dump.specs.Private.Reading.{bytes_front, with_bytes, cell_front, TakesCell}
use Rattle.dump.specs.Private.Spans.{bytes_at, columns_at, EndsWithin, AreWithin}
use Rattle.dump.specs.DumpRowsValue.{RowValue}

pub within_at : (count i : ℕ) (spans : List (Option Span)) (d : Option Span) → i < length spans → AreWithin count spans → EndsWithin count (get_or spans i d)
within_at count i spans d lt all = All-from_recursion (EndsWithin count) spans all i d lt

-- columns stay as they are where values are pushed behind theirs
same_bytes : (values more : List ℕ) (span : Option Span) → EndsWithin (length values) span → option_map (bytes_at (values ++ more)) span ≡ option_map (bytes_at values) span
same_bytes values more None is = refl
same_bytes values more (Some s) is =
    let room : s.end - s.start ≤ length (drop s.start values) = omega (arith, length-drop s.start values, is.0, is.1) in
    ap (λ (l : List ℕ). Some (take (s.end - s.start) l)) (drop-append-le s.start values more (omega (arith, is.0, is.1)))
    ∙ ap (λ (l : List ℕ). Some l) (take-append-le (s.end - s.start) (drop s.start values) more room)

same_columns : (values more : List ℕ) (spans : List (Option Span)) → AreWithin (length values) spans → columns_at (values ++ more) spans ≡ columns_at values spans
same_columns values more [] all = refl
same_columns values more (span ∷ spans) all =
    ap (λ (column : Option (List ℕ)). column ∷ columns_at (values ++ more) spans) (same_bytes values more span all.0)
    ∙ ap (λ (columns : RowValue). option_map (bytes_at values) span ∷ columns) (same_columns values more spans all.1)

-- the bytes that are pushed
last_bytes : (values more : List ℕ) → bytes_at (values ++ more) (record { start = length values; end = length (values ++ more) }) ≡ more
last_bytes values more =
    ap (take (length (values ++ more) - length values)) (drop_at values more (length values) refl)
    ∙ take_all (length (values ++ more) - length values) more (omega (arith, length-append values more))

-- a value behind the columns
pub value_pushed : (values more : List ℕ) (spans : List (Option Span)) → AreWithin (length values) spans
    → columns_at (values ++ more) (spans ++ Some (record { start = length values; end = length (values ++ more) }) ∷ []) ≡ columns_at values spans ++ Some more ∷ []
value_pushed values more spans all =
    map-append (option_map (bytes_at (values ++ more))) spans (Some (record { start = length values; end = length (values ++ more) }) ∷ [])
    ∙ ap (λ (columns : RowValue). columns ++ Some (bytes_at (values ++ more) (record { start = length values; end = length (values ++ more) })) ∷ []) (same_columns values more spans all)
    ∙ ap (λ (l : List ℕ). columns_at values spans ++ Some l ∷ []) (last_bytes values more)

-- a cell of a value: its bytes are pushed, and their span
pub value_taken : (values values_new : List ℕ) (spans spans_new : List (Option Span)) (text rest behind : List ℕ) (first start end : ℕ) → text ≡ first ∷ rest → first ≡ 120
    → with_bytes values (bytes_front rest) ≡ (values_new, behind) → start ≡ length values → end ≡ length values_new → spans_new ≡ spans ++ Some (record { start = start; end = end }) ∷ [] → AreWithin (length values) spans
    → TakesCell (columns_at values spans) (columns_at values_new spans_new) text behind
value_taken values values_new spans spans_new text rest behind first start end text_is first_is bytes start_is end_is spans_is all =
    let v : List ℕ = (bytes_front rest).0 in
    let is : values ++ v ≡ values_new = ap (λ (p : List ℕ × List ℕ). p.0) bytes in
    let behind_is : (bytes_front rest).1 ≡ behind = ap (λ (p : List ℕ × List ℕ). p.1) bytes in
    record {
      column = Some v;
      front = ap cell_front text_is ∙ ap (λ (f : ℕ). cell_front (f ∷ rest)) first_is ∙ ap (λ (b : List ℕ). Some (Some v, b)) behind_is;
      pushed =
          ap (columns_at values_new) spans_is
          ∙ ap (λ (n : ℕ). columns_at values_new (spans ++ Some (record { start = n; end = end }) ∷ [])) start_is
          ∙ ap (λ (n : ℕ). columns_at values_new (spans ++ Some (record { start = length values; end = n }) ∷ [])) end_is
          ∙ ap (λ (l : List ℕ). columns_at l (spans ++ Some (record { start = length values; end = length l }) ∷ [])) (sym is)
          ∙ value_pushed values v spans all;
    }
