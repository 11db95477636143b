-- The numbers by which a join is refused (this profile).
use Rattle.std.specs.Prelude.{ℕ}
use Rattle.board_laws.specs.declared.join_fault.JoinFault.{JoinFault}
use Rattle.board_laws.specs.declared.join_fault.JoinFault.TheVariants.{WrongPlan, HistoriesDiffer, OwnedByOther, Memory}

abbrev pub number_of : JoinFault → ℕ
number_of WrongPlan = 111
number_of (HistoriesDiffer s) = 113
number_of (OwnedByOther key owner) = 71
number_of Memory = 72
