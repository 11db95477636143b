-- Columns whose values lie together.
use Rattle.std.specs.Prelude.{ℕ, ◌-◌, ◌≤◌, List, take, drop, map, Option, IfSome}
use Rattle.std.specs.Option.{option_map}
use Rattle.std.specs.List.{AllByRecursion}
use Rattle.dump.specs.declared.row_cells.Span.{Span}
use Rattle.dump.specs.DumpRowsValue.{RowValue}

-- the bytes of a span
abbrev pub bytes_at : List ℕ → Span → List ℕ
bytes_at values span = take (span.end - span.start) (drop span.start values)

-- the columns of spans, none for NULL
abbrev pub columns_at : List ℕ → List (Option Span) → RowValue
columns_at values spans = map (option_map (bytes_at values)) spans

-- a span lies among so many bytes
abbrev pub EndsWithin : ℕ → Option Span → Type 0
EndsWithin count span = IfSome span (λ s. (s.start ≤ s.end) × (s.end ≤ count))

-- each span does
abbrev pub AreWithin : ℕ → List (Option Span) → Type 0
AreWithin count spans = AllByRecursion (EndsWithin count) spans
