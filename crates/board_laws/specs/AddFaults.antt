-- The numbers by which tables aren't added (this profile).
use Rattle.std.specs.Prelude.{ℕ}
use Rattle.source_feed.specs.FaultNumber as feed
use Rattle.board_laws.specs.declared.add_fault.AddFault.{AddFault}
use Rattle.board_laws.specs.declared.add_fault.AddFault.TheVariants.{FeedCount, PlanNotExtended, WrongPlan, HistoriesDiffer, Unsound, Memory}

abbrev pub number_of : AddFault → ℕ
number_of FeedCount = 119
number_of PlanNotExtended = 122
number_of WrongPlan = 111
number_of (HistoriesDiffer s) = 113
number_of (Unsound fault) = feed.number_of fault
number_of Memory = 72
