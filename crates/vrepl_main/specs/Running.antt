-- What `run` prints of a workflow with its feeds, and why it refuses (this profile).
use Rattle.std.specs.Prelude.{◌≡◌, ℕ, List, map, Some, Result, Ok, Err, slice_get}
use Rattle.std.specs.Arc.{arc_value}
use Rattle.filter_rule.specs.PlanValue.{PlanValue}
use Rattle.dump.specs.Dump.{dump_of}
use Rattle.printing.specs.Printing.{Written, IsWritten}
use Rattle.dump.specs.DumpRowsValue.{DumpRowsValue}
use Rattle.source_feed.specs.Planned.{FeedValue}
use Rattle.board_laws.specs.Meaning.{Meaning}
use Rattle.board_laws.specs.Sources.{ShowAll}
use Rattle.board_laws.specs.declared.refusal.Refusal.TheVariants as refusals
use Rattle.board_laws.specs.declared.step_refusal.StepRefusal.{StepRefusal}
use Rattle.board_laws.specs.declared.step_refusal.StepRefusal.TheVariants.{Unprepared, Refused}
use Rattle.apply_core.specs.Ended.{IsFedBoard, AllHaveEnded, AreSound, IsRowsUnion}
use Rattle.apply_core.specs.Shown.{all_rows}
use Rattle.apply_core.specs.RunRefused.{IsRefusedRun}
use Rattle.apply_core.specs.declared.run_refusal.RunRefusal.{RunRefusal}
use Rattle.apply_core.specs.declared.run_refusal.RunRefusal.TheVariants.{FeedCount, WrongPlan, Unsound, OwnedByOther, Memory}
use Rattle.vrepl_main.specs.Command.{RefusesCommand, Ends}
use Rattle.vrepl_main.specs.Opening.{OpenedValue, opened}
use Rattle.vrepl_main.specs.Ending.{opened_until}
use Rattle.vrepl_main.specs.Printing.{PrintsOrBreaks}
use Rattle.vrepl_main.specs.Reasons.{Reason, RefusesInputs}
use Rattle.vrepl_main.specs.RefusedText.{refused_text}
use Rattle.vrepl_main.specs.Refusals.{refusal_line}
use Rattle.vrepl_main.specs.declared.running.RunFault.{RunFault}
use Rattle.vrepl_main.specs.declared.running.RunFault.TheVariants.{Given, Stream}
use Rattle.vrepl_choices.specs.UntilValue.{until_value}
use Rattle.vrepl_main.specs.InputList.{bytes_of}
use Rattle.vrepl_main.specs.declared.named_inputs.RunInputs.{RunInputs}

-- the workflow with its feeds, each up to the position that is given for it, or why they are refused
abbrev pub opened_asked : RunInputs → Result OpenedValue Reason
opened_asked inputs = opened_until (map until_value inputs.until.now) (opened inputs.feed_form inputs.workflow.items (bytes_of inputs.feeds.items))

-- ---- the board

-- The streams of a board with these feeds stand at the feeds' ends: all groups of each feed are sound, read and applied,
-- and all tables are copied; the board shows all its sources; and its rows are just those that the feeds keep.
pub record IsAtFeedsEnds (feeds : List FeedValue) (board : Meaning) : Type 0 where
  pub fed : IsFedBoard feeds board
  pub sound : AreSound feeds
  pub ended : AllHaveEnded feeds board
  pub sources : ShowAll feeds board
  pub union : IsRowsUnion feeds (all_rows board.rows)

-- ---- the dump

-- rows, and the plan whose tables they are of
pub record Filled : Type 0 where
  pub plan : PlanValue
  pub rows : DumpRowsValue

-- all rows of a board at the feeds' ends, under the first plan
pub record IsFilledBy (given : OpenedValue) (filled : Filled) : Type 0 where
  pub first : slice_get given.plans 0 ≡ Some filled.plan
  pub board : Meaning
  pub ends : IsAtFeedsEnds given.feeds board
  pub rows : filled.rows ≡ all_rows board.rows

-- there is something to run, and these are the rows
abbrev pub IsFilled : Result OpenedValue Reason → Filled → Type 0
IsFilled (Ok given) filled = IsFilledBy given filled
IsFilled (Err reason) filled = ⊥

-- their dump was printed
abbrev pub PrintsDump : Result OpenedValue Reason → Written → Written → Type 0
PrintsDump reading old new = (filled : Filled) × IsFilled reading filled × IsWritten old new (dump_of filled.plan filled.rows)

-- the text is their dump
abbrev pub IsFilledDump : OpenedValue → List ℕ → Type 0
IsFilledDump given text = (filled : Filled) × IsFilledBy given filled × (text ≡ dump_of filled.plan filled.rows)

-- ---- refusals

-- the refusal of a run, as that of a step: their lines are the same
abbrev pub as_step : RunRefusal → StepRefusal
as_step FeedCount = Refused refusals.FeedCount
as_step WrongPlan = Refused refusals.WrongPlan
as_step (Unsound stream fault) = Unprepared fault
as_step (OwnedByOther stream key owner) = Refused (refusals.OwnedByOther key owner)
as_step Memory = Refused refusals.Memory

-- the line of a refusal
abbrev pub fault_line : RunFault → List ℕ
fault_line (Given refusal) = refusal_line refusal
fault_line (Stream plan refusal) = refused_text (arc_value plan).tables (as_step refusal)

-- a run of these feeds is refused so; its line names the tables of the first plan
pub record IsRefusedStream (plan : PlanValue) (refusal : RunRefusal) (given : OpenedValue) : Type 0 where
  pub first : slice_get given.plans 0 ≡ Some plan
  pub refused : IsRefusedRun given.plans given.feeds refusal

abbrev pub RefusesStream : PlanValue → RunRefusal → Result OpenedValue Reason → Type 0
RefusesStream plan refusal (Ok given) = IsRefusedStream plan refusal given
RefusesStream plan refusal (Err reason) = ⊥

-- a fault says just why there is nothing to run, or why the run was refused, unless memory ran out
abbrev pub IsUnfilled : RunFault → Result OpenedValue Reason → Type 0
IsUnfilled (Given refusal) reading = RefusesInputs refusal reading
IsUnfilled (Stream plan refusal) reading = RefusesStream (arc_value plan) refusal reading

-- the same with what it leaves on standard output: nothing, unless it is that this can't be written
abbrev pub RefusesRun : RunFault → Result OpenedValue Reason → Written → Written → Type 0
RefusesRun (Given refusal) reading old new = RefusesCommand IsFilledDump refusal reading old new
RefusesRun (Stream plan refusal) reading old new = RefusesStream (arc_value plan) refusal reading × (new ≡ old)

-- such a refusal's line was printed whole on standard error, unless a write of it failed
abbrev pub PrintsRunRefusal : Result OpenedValue Reason → Written → Written → Written → Written → Type 0
PrintsRunRefusal reading old new err_old err_new = (fault : RunFault) × RefusesRun fault reading old new × PrintsOrBreaks err_old err_new (fault_line fault)

-- how `run` ends
abbrev pub RunEnds : Result OpenedValue Reason → ℕ → Written → Written → Written → Written → Type 0
RunEnds reading status old new err_old err_new = Ends status (PrintsDump reading old new) ⊥ (PrintsRunRefusal reading old new err_old err_new)
