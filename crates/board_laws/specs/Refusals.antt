-- The numbers by which a step on a board, and a step of a schedule, is refused (this profile).
use Rattle.std.specs.Prelude.{ℕ}
use Rattle.stream_core.specs.Refusals as core
use Rattle.source_feed.specs.FaultNumber as feed
use Rattle.board_laws.specs.declared.refusal.Refusal.{Refusal}
use Rattle.board_laws.specs.declared.refusal.Refusal.TheVariants.{NoStream, WrongPlan, Diverged, Core, OwnedByOther, FeedCount, Memory}
use Rattle.board_laws.specs.declared.step_refusal.StepRefusal.{StepRefusal}
use Rattle.board_laws.specs.declared.step_refusal.StepRefusal.TheVariants.{Unprepared, Refused}

abbrev pub number_of : Refusal → ℕ
number_of NoStream = 115
number_of WrongPlan = 111
number_of Diverged = 112
number_of (Core refusal) = core.number_of refusal
number_of (OwnedByOther key owner) = 71
number_of FeedCount = 119
number_of Memory = 72

abbrev pub number_of_step : StepRefusal → ℕ
number_of_step (Unprepared fault) = feed.number_of fault
number_of_step (Refused refusal) = number_of refusal
