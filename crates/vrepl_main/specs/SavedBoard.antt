-- What the command `save` leaves on its writers (this profile).
use Rattle.std.specs.Prelude.{◌≡◌, ◌<◌, ◌&&◌, ◌⊎◌, ◌++◌, ℕ, nat_lt, if◌then◌else◌, Bool, List, length, Result, Ok, Err, codes, decimal}
use Rattle.std.specs.List.{AllByRecursion}
use Rattle.board_laws.specs.FedBoards.{IsFedBoard}
use Rattle.board_laws.specs.Meaning.{Meaning}
use Rattle.board_laws.specs.Sources.{ShowAll}
use Rattle.checkpoint_laws.specs.Written.{checkpoint_of}
use Rattle.apply_core.specs.Fresh.{fresh_board}
use Rattle.printing.specs.Printing.{Written, IsWritten}
use Rattle.vrepl_main.specs.Reasons.{Reason}
use Rattle.vrepl_main.specs.Printing.{PrintsOrBreaks}
use Rattle.vrepl_main.specs.ScriptRun.{ScriptReply, ScriptGiven, IsScriptRun, IsTold, refused_count}
use Rattle.vrepl_main.specs.Command.{PrintsRefusal}
use Rattle.vrepl_main.specs.declared.saving.Saved.{Saved}
use Rattle.source_feed.specs.Planned.{FeedValue}
use Rattle.step_script.specs.declared.script.ScriptStep.{ScriptStep}

-- the board behind steps from this one, whatever they reply but want of memory; so many of them are refused
abbrev pub IsBehind : List FeedValue → Meaning → List ScriptStep → ℕ → Meaning → Type 0
IsBehind feeds start steps refused board =
    (replies : List ScriptReply) × IsScriptRun feeds start steps replies board × AllByRecursion IsTold replies × (refused ≡ refused_count replies)

-- the bytes are the checkpoint of the board behind the steps of a script, whatever they reply but want of memory; it reads
-- its feeds and shows all its sources, and so many of the steps are refused
pub record IsSavedBehind (given : ScriptGiven) (refused : ℕ) (bytes : List ℕ) : Type 0 where
  pub replies : List ScriptReply
  pub board : Meaning
  pub run : IsScriptRun given.opened.feeds (fresh_board given.opened.plans) given.steps replies board
  pub told : AllByRecursion IsTold replies
  pub counted : refused ≡ refused_count replies
  pub fed : IsFedBoard given.opened.feeds board
  pub sources : ShowAll given.opened.feeds board
  pub checkpoint : bytes ≡ checkpoint_of board

-- the same whatever is refused
abbrev pub IsSavedText : ScriptGiven → List ℕ → Type 0
IsSavedText given bytes = (refused : ℕ) × IsSavedBehind given refused bytes

-- there is such a board; this is its checkpoint, with the count of the steps that are refused and of all
abbrev pub IsSavedBoard : Result ScriptGiven Reason → Saved → Type 0
IsSavedBoard (Ok given) saved = IsSavedBehind given saved.refused saved.checkpoint.items × (saved.steps ≡ length given.steps)
IsSavedBoard (Err reason) saved = ⊥

-- ---- how many steps are refused

-- the line of it
abbrev pub refused_note : ℕ → ℕ → List ℕ
refused_note refused steps = decimal refused ++ (codes " of " ++ decimal steps ++ codes " steps were refused\n")

-- where some are, the line was printed whole, unless a write of it failed
pub record TellsRefused (refused steps : ℕ) (old new : Written) : Type 0 where
  pub none : refused ≡ 0 → new ≡ old
  pub some : 0 < refused → PrintsOrBreaks old new (refused_note refused steps)

-- the status behind the checkpoint: 1 where it is to be strict and some are, else 0
abbrev pub saved_status : Bool → ℕ → ℕ
saved_status strict refused = if strict && nat_lt 0 refused then 1 else 0

-- ---- the command

-- the checkpoint was printed, and how many steps are refused was told
pub record PrintsSaved (strict : Bool) (reading : Result ScriptGiven Reason) (status : ℕ) (old new err_old err_new : Written) : Type 0 where
  pub given : ScriptGiven
  pub is_given : reading ≡ Ok given
  pub refused : ℕ
  pub bytes : List ℕ
  pub saved : IsSavedBehind given refused bytes
  pub printed : IsWritten old new bytes
  pub told : TellsRefused refused (length given.steps) err_old err_new
  pub status_is : status ≡ saved_status strict refused

-- how `save` ends: behind what it prints, or behind a refusal
abbrev pub SaveEnds : Bool → Result ScriptGiven Reason → ℕ → Written → Written → Written → Written → Type 0
SaveEnds strict reading status old new err_old err_new =
    PrintsSaved strict reading status old new err_old err_new ⊎ ((status ≡ 1) × PrintsRefusal IsSavedText reading old new err_old err_new)
