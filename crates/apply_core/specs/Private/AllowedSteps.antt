-- How a refused step ends a run of a stream. That no other refusal comes is proved of the steps on its course.
use Rattle.std.specs.Prelude.{List, ℕ, Option, Some, None}
use Rattle.source_feed.specs.Planned.{FeedValue}
use Rattle.board_laws.specs.declared.refusal.Refusal.{Refusal}
use Rattle.board_laws.specs.declared.refusal.Refusal.TheVariants.{NoStream, WrongPlan, Diverged, Core, OwnedByOther, FeedCount, Memory}
use Rattle.board_laws.specs.declared.step_refusal.StepRefusal.{StepRefusal}
use Rattle.board_laws.specs.declared.step_refusal.StepRefusal.TheVariants.{Unprepared, Refused}
use Rattle.apply_core.specs.declared.run_refusal.RunRefusal.{RunRefusal}
use Rattle.apply_core.specs.declared.run_refusal.RunRefusal.TheVariants as runs
use Rattle.apply_core.specs.RunRefused.{HasUnsound, BothTouch}

-- a step of stream s on its course is refused by the board for a row in the way or for want of memory alone
abbrev pub EndsByBoard : List FeedValue → ℕ → Refusal → Type 0
EndsByBoard feeds s NoStream = ⊥
EndsByBoard feeds s WrongPlan = ⊥
EndsByBoard feeds s Diverged = ⊥
EndsByBoard feeds s (Core refusal) = ⊥
EndsByBoard feeds s (OwnedByOther key owner) = BothTouch feeds s owner key
EndsByBoard feeds s FeedCount = ⊥
EndsByBoard feeds s Memory = Unit {0}

-- the same of a step of a schedule, whose group may not be sound
abbrev pub EndsStream : List FeedValue → ℕ → StepRefusal → Type 0
EndsStream feeds s (Unprepared fault) = HasUnsound feeds s fault
EndsStream feeds s (Refused refusal) = EndsByBoard feeds s refusal

-- how a refused step of stream s ends a run; by no other is a step on its course refused
abbrev pub ended_as : ℕ → StepRefusal → Option RunRefusal
ended_as s (Unprepared fault) = Some (runs.Unsound s fault)
ended_as s (Refused NoStream) = None
ended_as s (Refused WrongPlan) = None
ended_as s (Refused Diverged) = None
ended_as s (Refused (Core refusal)) = None
ended_as s (Refused (OwnedByOther key owner)) = Some (runs.OwnedByOther s key owner)
ended_as s (Refused FeedCount) = None
ended_as s (Refused Memory) = Some runs.Memory
