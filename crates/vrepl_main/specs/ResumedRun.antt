-- What the command `resume` leaves on its writers (this profile).
use Rattle.std.specs.Prelude.{◌≡◌, ℕ, List, take, Some, Result, Ok, Err, slice_get}
use Rattle.std.specs.Arc.{arc_value}
use Rattle.filter_rule.specs.PlanValue.{PlanValue}
use Rattle.board_laws.specs.Meaning.{Meaning}
use Rattle.checkpoint_laws.specs.declared.fault.ResumeFault.{ResumeFault}
use Rattle.apply_core.specs.Resuming.{IsResumed, IsRefusedResume}
use Rattle.printing.specs.Printing.{Written, IsWritten}
use Rattle.vrepl_main.specs.declared.resuming.ResumeRefusal.{ResumeRefusal}
use Rattle.vrepl_main.specs.declared.resuming.ResumeRefusal.TheVariants.{Given, Checkpoint}
use Rattle.step_script.specs.declared.script.ScriptStep.{ScriptStep}
use Rattle.vrepl_main.specs.Command.{RefusesCommand, Ends}
use Rattle.vrepl_main.specs.Opening.{OpenedValue}
use Rattle.vrepl_main.specs.Printing.{PrintsOrBreaks}
use Rattle.vrepl_main.specs.Reasons.{Reason}
use Rattle.vrepl_main.specs.Refusals.{refusal_line}
use Rattle.vrepl_main.specs.ResumedText.{resume_line}
use Rattle.vrepl_main.specs.ScriptRun.{ScriptReply, ScriptGiven, IsScriptRun, replies_text}

-- ---- the replies

-- the text is that of the replies to these steps, on the board that the checkpoint makes with the feeds
pub record IsRepliedBehind (given : OpenedValue) (checkpoint : List ℕ) (steps : List ScriptStep) (text : List ℕ) : Type 0 where
  pub plan : PlanValue
  pub first : slice_get given.plans 0 ≡ Some plan
  pub start : Meaning
  pub resumed : IsResumed given.feeds checkpoint start
  pub replies : List ScriptReply
  pub board : Meaning
  pub run : IsScriptRun given.feeds start steps replies board
  pub is_text : text ≡ replies_text plan replies

-- there is something to resume, and the replies to all steps were printed
abbrev pub PrintsResumed : Result ScriptGiven Reason → List ℕ → Written → Written → Type 0
PrintsResumed (Ok given) checkpoint old new = (text : List ℕ) × IsRepliedBehind given.opened checkpoint given.steps text × IsWritten old new text
PrintsResumed (Err reason) checkpoint old new = ⊥

-- the text is that of the replies to the first steps
abbrev pub AreFirstBehind : List ℕ → ScriptGiven → List ℕ → Type 0
AreFirstBehind checkpoint given text = (n : ℕ) × IsRepliedBehind given.opened checkpoint (take n given.steps) text

-- ---- refusals

-- the checkpoint isn't resumed over these feeds; the line names the tables of the first plan
pub record IsRefusedOver (given : OpenedValue) (checkpoint : List ℕ) (plan : PlanValue) (fault : ResumeFault) : Type 0 where
  pub first : slice_get given.plans 0 ≡ Some plan
  pub refused : IsRefusedResume given.plans given.feeds checkpoint fault

abbrev pub RefusesCheckpoint : PlanValue → ResumeFault → Result ScriptGiven Reason → List ℕ → Type 0
RefusesCheckpoint plan fault (Ok given) checkpoint = IsRefusedOver given.opened checkpoint plan fault
RefusesCheckpoint plan fault (Err reason) checkpoint = ⊥

-- a refusal says just why the other inputs are refused, or else why the checkpoint is, unless memory ran out, and leaves
-- nothing on standard output; or it is that this can't be written, and then a write of it failed
abbrev pub RefusesResume : ResumeRefusal → Result ScriptGiven Reason → List ℕ → Written → Written → Type 0
RefusesResume (Given refusal) reading checkpoint old new = RefusesCommand (AreFirstBehind checkpoint) refusal reading old new
RefusesResume (Checkpoint plan fault) reading checkpoint old new = RefusesCheckpoint (arc_value plan) fault reading checkpoint × (new ≡ old)

-- the line of a refusal
abbrev pub resume_refusal_line : ResumeRefusal → List ℕ
resume_refusal_line (Given refusal) = refusal_line refusal
resume_refusal_line (Checkpoint plan fault) = resume_line (arc_value plan).tables fault

-- such a refusal's line was printed whole on standard error, unless a write of it failed
abbrev pub PrintsResumeRefusal : Result ScriptGiven Reason → List ℕ → Written → Written → Written → Written → Type 0
PrintsResumeRefusal reading checkpoint old new err_old err_new =
    (refusal : ResumeRefusal) × RefusesResume refusal reading checkpoint old new × PrintsOrBreaks err_old err_new (resume_refusal_line refusal)

-- what trying to print the replies leaves on standard output: all of them, or what a refusal leaves there
abbrev pub LeavesResumed : {X : Type 0} → Result X ResumeRefusal → Result ScriptGiven Reason → List ℕ → Written → Written → Type 0
LeavesResumed (Ok x) reading checkpoint old new = PrintsResumed reading checkpoint old new
LeavesResumed (Err refusal) reading checkpoint old new = RefusesResume refusal reading checkpoint old new

-- how `resume` ends
abbrev pub ResumeEnds : Result ScriptGiven Reason → List ℕ → ℕ → Written → Written → Written → Written → Type 0
ResumeEnds reading checkpoint status old new err_old err_new = Ends status (PrintsResumed reading checkpoint old new) ⊥ (PrintsResumeRefusal reading checkpoint old new err_old err_new)
