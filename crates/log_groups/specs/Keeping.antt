-- What a transaction keeps of its changes, by its savepoints (MySQL manual, "SAVEPOINT, ROLLBACK TO SAVEPOINT").
use Rattle.std.specs.Prelude.{ℕ, if◌then◌else◌, List, [], ◌∷◌, ◌++◌, length, take, Option, Some, None}
use Rattle.std.specs.Str.{str_eq_ignore_ascii_case}
use Rattle.log_groups.specs.declared.open.SavedMark as saved_mark

-- a savepoint: its name, and how many changes stood before it
pub record Mark : Type 0 where
  pub name : List ℕ
  pub count : ℕ

-- how a savepoint of the program is seen
abbrev pub mark_value : saved_mark.SavedMark → Mark
mark_value m = record { name = m.name.items; count = m.count }

-- how many changes stood before the latest savepoint of a name, in letters of either case
abbrev pub mark_from : List ℕ → List Mark → Option ℕ → Option ℕ
mark_from name [] found = found
mark_from name (m ∷ marks) found = mark_from name marks (if str_eq_ignore_ascii_case m.name name then Some m.count else found)

abbrev pub mark_of : List ℕ → List Mark → Option ℕ
mark_of name marks = mark_from name marks None

-- the changes of a transaction so far, and its savepoints
pub record Kept (C : Type 0) : Type 0 where
  pub changes : List C
  pub marks : List Mark

-- one change more, one savepoint more, and the changes taken back behind a savepoint
abbrev pub with_change : {C : Type 0} → Kept C → C → Kept C
with_change kept c = record { changes = kept.changes ++ c ∷ []; marks = kept.marks }

abbrev pub with_mark : {C : Type 0} → Kept C → List ℕ → Kept C
with_mark kept name = record { changes = kept.changes; marks = kept.marks ++ record { name = name; count = length kept.changes } ∷ [] }

abbrev pub back_to : {C : Type 0} → Kept C → ℕ → Kept C
back_to kept k = record { changes = take k kept.changes; marks = kept.marks }
