-- A stream of a schedule by itself: its own steps on a board where no other stream has a row (this profile).
use Rattle.std.specs.Prelude.{◌≡◌, ◌≢◌, ℕ, Bool, true, false, ◌==◌, ◌&&◌, not, List, [], ◌∷◌, None, Ok, Err, slice_get, if◌then◌else◌}
use Rattle.pk_copy.specs.KeyOrder.{key_cmp}
use Rattle.pk_copy.specs.KeyValue.{KeyValue}
use Rattle.stream_core.specs.declared.step.Step.{Step}
use Rattle.target_tables.specs.Contents.{value_at}
use Rattle.board_laws.specs.declared.refusal.Refusal.TheVariants.{OwnedByOther, Memory}
use Rattle.board_laws.specs.declared.step_refusal.StepRefusal.{StepRefusal}
use Rattle.board_laws.specs.declared.step_refusal.StepRefusal.TheVariants.{Refused}
use Rattle.board_laws.specs.Meaning.{Meaning}
use Rattle.board_laws.specs.Cut.{own_row}
use Rattle.board_laws.specs.Lawful.{IsLawful}
use Rattle.board_laws.specs.Schedule.{Reply}

-- a row of another stream was in the way, or memory was wanted
abbrev pub is_hindrance : StepRefusal → Bool
is_hindrance (Refused (OwnedByOther key owner)) = true
is_hindrance (Refused Memory) = true
is_hindrance refusal = false

abbrev pub is_hindered : Reply → Bool
is_hindered (Ok answer) = false
is_hindered (Err refusal) = is_hindrance refusal

-- the steps of stream s but for those that were hindered so, and their replies
abbrev pub is_lone : ℕ → ℕ × Step → Reply → Bool
is_lone s step reply = step.0 == s && not (is_hindered reply)

abbrev pub lone_steps : ℕ → List (ℕ × Step) → List Reply → List (ℕ × Step)
lone_steps s [] replies = []
lone_steps s (step ∷ steps) [] = []
lone_steps s (step ∷ steps) (reply ∷ replies) =
    if is_lone s step reply then step ∷ lone_steps s steps replies else lone_steps s steps replies

abbrev pub lone_replies : ℕ → List (ℕ × Step) → List Reply → List Reply
lone_replies s [] replies = []
lone_replies s (step ∷ steps) [] = []
lone_replies s (step ∷ steps) (reply ∷ replies) =
    if is_lone s step reply then reply ∷ lone_replies s steps replies else lone_replies s steps replies

-- a lawful board where stream s has the state that it has on another one, and no other stream has a row
pub record IsAloneAs (s : ℕ) (board alone : Meaning) : Type 0 where
  pub lawful : IsLawful alone
  pub state : slice_get alone.streams s ≡ slice_get board.streams s
  pub none : (t : ℕ) (key : KeyValue) → t ≢ s → own_row t (value_at key_cmp alone.rows key) ≡ None
