-- What `status` says of checkpoints' bytes, and which it refuses (this profile).
use Rattle.std.specs.Prelude.{◌≡◌, ℕ, ◌+◌, List, [], ◌∷◌, Option, None, Some, Result, Ok, Err}
use Rattle.list_laws.specs.Outcome.{◌>>=◌}
use Rattle.vrepl_choices.specs.declared.report_form.ReportForm.{ReportForm}
use Rattle.vrepl_choices.specs.declared.report_form.ReportForm.TheVariants.{Lines, Json}
use Rattle.checkpoint_places.specs.Stands.{CheckpointStandValue, stands_at}
use Rattle.status_said.specs.Json.{status_data, json_line}
use Rattle.status_said.specs.Lines.{status_lines}
use Rattle.status_said.specs.declared.fault.StatusFault.{StatusFault}
use Rattle.status_said.specs.declared.fault.StatusFault.TheVariants.{Broken, Memory}

-- What a call returned, seen by `view`, is what the definition gives: the value or the number of the file that is no checkpoint;
-- unless memory ran out.
abbrev pub IsGiven : {X Y : Type 0} → (X → Y) → Result X StatusFault → Result Y ℕ → Type 0
IsGiven view (Ok x) given = given ≡ Ok (view x)
IsGiven view (Err (Broken file)) given = given ≡ Err file
IsGiven view (Err Memory) given = Unit {0}

-- where the streams of a checkpoint stand, or its number
abbrev pub stand_or : ℕ → Option CheckpointStandValue → Result CheckpointStandValue ℕ
stand_or file None = Err file
stand_or file (Some stand) = Ok stand

abbrev pub stand_in : ℕ → List ℕ → Result CheckpointStandValue ℕ
stand_in file bytes = stand_or file (stands_at bytes)

-- the same of all, from one on; or the number of the first that is none
abbrev pub stands_from : ℕ → List (List ℕ) → Result (List CheckpointStandValue) ℕ
stands_from i [] = Ok []
stands_from i (bytes ∷ others) = stand_in i bytes >>= λ stand. stands_from (i + 1) others >>= λ stands. Ok (stand ∷ stands)

-- in lines, or as a line of JSON
abbrev pub status_text : ReportForm → List (List ℕ) → List CheckpointStandValue → List ℕ
status_text Lines names stands = status_lines names stands
status_text Json names stands = json_line (status_data names stands)

-- what is said of checkpoints, whose files have these names
abbrev pub status_said : ReportForm → List (List ℕ) → List (List ℕ) → Result (List ℕ) ℕ
status_said form names texts = stands_from 0 texts >>= λ stands. Ok (status_text form names stands)
