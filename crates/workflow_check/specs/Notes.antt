-- What is told of a workflow file (this profile): the path of a value, as `tables[3].key`, and what is wrong there.
use Rattle.std.specs.Prelude.{ℕ, Bool, true, false, List, [], ◌∷◌, ◌++◌, codes, decimal, if◌then◌else◌}
use Rattle.shown_text.specs.Shown.{shown}
use Rattle.workflow_check.specs.declared.note.Flaw.{Flaw}
use Rattle.workflow_check.specs.declared.note.Flaw.TheVariants.{Ignored, Unmatched, Undecided, Untiled}

-- the path, why it is told, and the table that it is told of, if it is
pub record NoteValue : Type 0 where
  pub place : List ℕ
  pub flaw : Flaw
  pub table : List ℕ

-- an item of a list at a path
abbrev pub item_place : List ℕ → ℕ → List ℕ
item_place list i = list ++ codes "[" ++ decimal i ++ codes "]"

abbrev pub flaw_text : Flaw → List ℕ
flaw_text Ignored = codes "isn't read"
flaw_text Unmatched = codes "matches no table"
flaw_text Undecided = codes "has no rule for table "
flaw_text Untiled = codes "has ranges that don't tile"

-- a stream may well have no rule for a table, of which it passes no row then; the others are faults
abbrev pub may_stand : Flaw → Bool
may_stand Ignored = false
may_stand Unmatched = false
may_stand Undecided = true
may_stand Untiled = false

-- whether it is noted or warned of
abbrev pub class_text : Flaw → List ℕ
class_text flaw = if may_stand flaw then codes "note" else codes "warning"

-- the line of what is told
abbrev pub note_line : NoteValue → List ℕ
note_line note = class_text note.flaw ++ codes " workflow " ++ shown note.place ++ codes " " ++ flaw_text note.flaw ++ shown note.table ++ 10 ∷ []
