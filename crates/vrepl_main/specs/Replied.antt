-- What printing the replies to a whole script leaves on its writer (this profile).
use Rattle.std.specs.Prelude.{ℕ, List, take, Result, Ok, Err}
use Rattle.filter_rule.specs.PlanValue.{PlanValue}
use Rattle.source_feed.specs.Planned.{FeedValue}
use Rattle.printing.specs.Printing.{Written, IsWritten}
use Rattle.step_script.specs.declared.script.ScriptStep.{ScriptStep}
use Rattle.vrepl_main.specs.Reasons.{Reason}
use Rattle.vrepl_main.specs.ScriptRun.{ScriptGiven, IsRepliedTo}
use Rattle.vrepl_main.specs.Command.{Ends, PrintsRefusal, RefusesCommand}
use Rattle.vrepl_main.specs.declared.refusal.CommandRefusal.{CommandRefusal}

-- these plans, feeds and steps are what is given
abbrev pub all_given : List PlanValue → List FeedValue → List ScriptStep → Result ScriptGiven Reason
all_given plans feeds steps = Ok (record { opened = record { plans = plans; feeds = feeds }; steps = steps })

-- there is something to reply to, and the replies to all steps were printed
abbrev pub PrintsReplies : Result ScriptGiven Reason → Written → Written → Type 0
PrintsReplies (Ok given) old new = (text : List ℕ) × IsRepliedTo given.opened given.steps text × IsWritten old new text
PrintsReplies (Err reason) old new = ⊥

-- the text is that of the replies to the first steps
abbrev pub AreFirstReplies : ScriptGiven → List ℕ → Type 0
AreFirstReplies given text = (n : ℕ) × IsRepliedTo given.opened (take n given.steps) text

-- what trying to print the replies leaves on standard output: all of them, or what a refusal leaves there
abbrev pub LeavesReplies : {X : Type 0} → Result X CommandRefusal → Result ScriptGiven Reason → Written → Written → Type 0
LeavesReplies (Ok x) reading old new = PrintsReplies reading old new
LeavesReplies (Err refusal) reading old new = RefusesCommand AreFirstReplies refusal reading old new

-- how `step` ends
abbrev pub StepEnds : Result ScriptGiven Reason → ℕ → Written → Written → Written → Written → Type 0
StepEnds reading status old new err_old err_new = Ends status (PrintsReplies reading old new) ⊥ (PrintsRefusal AreFirstReplies reading old new err_old err_new)
