-- The keys at which two maps both have a row.
use Rattle.std.specs.Prelude.{ℕ, List, [], ◌∷◌, Option, Some, None}
use Rattle.std.specs.declared.cmp.Ordering.{Ordering}
use Rattle.target_tables.specs.Contents.{value_at}
use denote.Ref.{Bor}

-- an entry's key and stream and the other stream that has a row there, if one has, before the later ones
abbrev pub with_other : {K R : Type 0} → K × (ℕ × R) → Option (ℕ × R) → List (K × (ℕ × ℕ)) → List (K × (ℕ × ℕ))
with_other entry None later = later
with_other entry (Some there) later = (entry.0, (entry.1.0, there.0)) ∷ later

-- the keys of the first map at which the second has a row too, each with the streams of both rows
abbrev pub common : {K R : Type 0} → (K → K → Ordering) → List (K × (ℕ × R)) → List (K × (ℕ × R)) → List (K × (ℕ × ℕ))
common cmp [] other = []
common cmp (entry ∷ one) other = with_other entry (value_at cmp other entry.0) (common cmp one other)

-- a borrowed key and two streams, as values
abbrev pub meeting : {K : Type 0} → Bor K × ℕ × ℕ → K × (ℕ × ℕ)
meeting m = (m.0.now, (m.1, m.2))
