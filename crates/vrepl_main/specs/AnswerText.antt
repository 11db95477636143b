-- The replies to steps on a board that are made, as text (this profile).
use Rattle.std.specs.Prelude.{ℕ, Bool, true, false, List, [], ◌∷◌, ◌++◌, Option, None, Some, codes, decimal}
use Rattle.gtid_set.specs.Printed.{printed_position}
use Rattle.vrepl_main.specs.Printing.{named_number}
use Rattle.source_feed.specs.GroupValue.{Position}
use Rattle.stream_core.specs.declared.phase.Phase.{Phase}
use Rattle.stream_core.specs.declared.phase.Phase.TheVariants.{Running, Copy, FastForward, CatchUp}
use Rattle.stream_core.specs.Standing.{Standing, phase_of}
use Rattle.board_laws.specs.declared.answer.Answer.{Answer}
use Rattle.board_laws.specs.declared.answer.Answer.TheVariants as answers
use Rattle.board_laws.specs.declared.answer.Answer.TheVariants.{Offered, Applied, Opened, Closed, Restarted}
use Rattle.board_laws.specs.declared.answer.Copied.{Copied}
use Rattle.board_laws.specs.declared.answer.Offered.TheVariants.{Read, Repeat}

-- ---- steps

-- behind the number of rows: that the table is done
abbrev pub done_text : Bool → List ℕ
done_text true = codes " done"
done_text false = []

-- how many rows were copied
abbrev pub copied_text : Copied → List ℕ
copied_text copied = codes "copied " ++ decimal copied.rows ++ done_text copied.done ++ 10 ∷ []

-- what a step answers
abbrev pub answer_text : Answer → List ℕ
answer_text (Offered (Read number)) = codes "read " ++ decimal number ++ 10 ∷ []
answer_text (Offered (Repeat number)) = codes "repeat " ++ decimal number ++ 10 ∷ []
answer_text (Applied number) = codes "applied " ++ decimal number ++ 10 ∷ []
answer_text (Opened number) = codes "snapshot " ++ decimal number ++ 10 ∷ []
answer_text (answers.Copied copied) = copied_text copied
answer_text Closed = codes "closed" ++ 10 ∷ []
answer_text (Restarted number) = codes "restarted " ++ decimal number ++ 10 ∷ []

-- ---- where a stream stands

abbrev pub phase_text : Phase → List ℕ
phase_text Running = codes "Running"
phase_text Copy = codes "Copy"
phase_text FastForward = codes "FastForward"
phase_text CatchUp = codes "CatchUp"

-- the group of the open snapshot, or that there is none
abbrev pub snapshot_text : Option ℕ → List ℕ
snapshot_text None = codes "none"
snapshot_text (Some group) = decimal group

-- a position; `-` for the empty one
abbrev pub place_text : Position → List ℕ
place_text [] = codes "-"
place_text (interval ∷ others) = printed_position (interval ∷ others)

-- how many groups are read and applied
abbrev pub progress_text : ℕ → Standing → List ℕ
progress_text stream now = codes "state " ++ decimal stream ++ codes " " ++ phase_text (phase_of now) ++ named_number (codes " read ") now.read ++ named_number (codes " applied ") now.applied

-- how many tables are copied
abbrev pub tables_done_text : Standing → List ℕ
tables_done_text now = named_number (codes " done ") now.done ++ named_number (codes " of ") now.tables

-- where a stream stands, and at which position of its source
abbrev pub state_text : ℕ → Standing → Position → List ℕ
state_text stream now position = progress_text stream now ++ codes " snapshot " ++ snapshot_text now.snapshot ++ tables_done_text now ++ codes " at " ++ place_text position ++ 10 ∷ []
