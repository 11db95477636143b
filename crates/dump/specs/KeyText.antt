-- A key as text (this profile).
use Rattle.std.specs.Prelude.{ℕ, List, [], ◌∷◌, ◌++◌, Some}
use Rattle.std.specs.List.{flat_map}
use Rattle.pk_copy.specs.KeyValue.{Part, KeyValue}
use Rattle.pk_copy.specs.Lastpk.{part_text}
use Rattle.dump.specs.Cells.{cell}

-- a part of a key as a cell; a number as its shortest decimal text
abbrev pub part_cell : Part → List ℕ
part_cell part = cell (Some (part_text part))

-- further parts, each behind a comma
abbrev pub more_parts : List Part → List ℕ
more_parts parts = flat_map (λ part. 44 ∷ part_cell part) parts

-- the parts of a key as cells, parted by commas
abbrev pub parts_text : List Part → List ℕ
parts_text [] = []
parts_text (part ∷ others) = part_cell part ++ more_parts others

-- the parts of a key in its order
abbrev pub key_text : KeyValue → List ℕ
key_text key = parts_text key.parts
