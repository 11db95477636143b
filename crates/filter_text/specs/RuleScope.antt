-- Which tables a filter rule is for, by its `match` (this profile, after the Vitess filter rules).
use Rattle.std.specs.Prelude.{ℕ, ◌==◌, List, [], ◌∷◌, Bool, true, false, Option, Some, None, codes, if◌then◌else◌}
use Rattle.std.specs.Str.{bytes_eq}

pub data TablesSaid : Type 0 where
  every_table : TablesSaid
  one_table : List ℕ → TablesSaid

abbrev pub begins_with_slash : List ℕ → Bool
begins_with_slash [] = false
begins_with_slash (b ∷ rest) = b == 47

-- `/.*` is for every table; no other pattern is lawful, and anything else is a name
abbrev pub scope_of : List ℕ → Option TablesSaid
scope_of matches = if bytes_eq matches (codes "/.*") then Some every_table else (if begins_with_slash matches then None else Some (one_table matches))

abbrev pub is_for : TablesSaid → List ℕ → Bool
is_for every_table table = true
is_for (one_table name) table = bytes_eq table name

-- a filter that selects from a table stands under that table's name
abbrev pub agrees : TablesSaid → Option (List ℕ) → Bool
agrees tables None = true
agrees every_table (Some table) = false
agrees (one_table name) (Some table) = bytes_eq name table
