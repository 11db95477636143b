-- Key ranges over keyspace ids, which are byte strings (the Vitess documents on key ranges). Byte
-- strings compare byte by byte, and a proper beginning of one is less than it.
use Rattle.std.specs.Prelude.{ℕ, ◌-◌, ◌==◌, Bool, true, ◌&&◌, List, [], ◌∷◌, length, take, Option, None, Some}
use Rattle.std.specs.List.{suffix_len}
use Rattle.std.specs.Cmp.Lexicographic.{slice_cmp}
use Rattle.std.specs.Ordering.{nat_cmp, is_lt, is_le}

-- where a range starts, and where it ends or `None` for one that is open above
pub record Bounds : Type 0 where
  pub start : List ℕ
  pub end : Option (List ℕ)

-- a byte string without the 00 bytes at its end
abbrev pub without_end_zeros : List ℕ → List ℕ
without_end_zeros bytes = take (length bytes - suffix_len (λ byte. byte == 0) bytes) bytes

-- an end that has no bytes is open
abbrev pub end_of : List ℕ → Option (List ℕ)
end_of [] = None
end_of (byte ∷ bytes) = Some (byte ∷ bytes)

-- the range from one byte string to another, each without the 00 bytes at its end
abbrev pub bounds_of : List ℕ → List ℕ → Bounds
bounds_of start end = record { start = without_end_zeros start; end = end_of (without_end_zeros end) }

-- the range of all ids
abbrev pub whole : Bounds
whole = record { start = []; end = None }

-- whether an id is less than an end
abbrev pub is_below : Option (List ℕ) → List ℕ → Bool
is_below None id = true
is_below (Some end) id = is_lt (slice_cmp nat_cmp id end)

-- whether a range has an id: its start is at most the id, and the id is less than its end
abbrev pub in_range : Bounds → List ℕ → Bool
in_range bounds id = is_le (slice_cmp nat_cmp bounds.start id) && is_below bounds.end id

-- whether a range starts below its end
abbrev pub is_ordered : Bounds → Bool
is_ordered bounds = is_below bounds.end bounds.start
