use Rattle.std.proofs.Common.{◌≡◌, ◌++◌, drop}
use Rattle.std.specs.String.{string_bytes}
use Rattle.workflow_check.specs.File.{note_lines}
use Rattle.workflow_check.proofs.file.note_lines.Given as goal

-- the text so far, and the lines of the notes that are left, are the whole
abbrev pub invariant-loop-note : goal.invariant-loop-note
invariant-loop-note l = string_bytes l.text ++ note_lines (drop l.note-index l.notes) ≡ note_lines l.notes
