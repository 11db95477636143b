-- The lines of boards that aren't joined (this profile).
use Rattle.std.specs.Prelude.{ℕ, List, [], ◌++◌, codes, decimal}
use Rattle.filter_rule.specs.PlanTable.{TableValue}
use Rattle.board_laws.specs.JoinFaults.{number_of}
use Rattle.board_laws.specs.declared.join_fault.JoinFault.{JoinFault}
use Rattle.board_laws.specs.declared.join_fault.JoinFault.TheVariants.{HistoriesDiffer, OwnedByOther}
use Rattle.vrepl_main.specs.RefusalLine.{line_of}
use Rattle.vrepl_main.specs.RefusedText.{clash_text}

-- what stands behind the number
abbrev pub join_details : List TableValue → JoinFault → List ℕ
join_details tables (HistoriesDiffer stream) = codes " stream " ++ decimal stream
join_details tables (OwnedByOther key owner) = clash_text tables key owner
join_details tables fault = []

-- the line
abbrev pub join_line : List TableValue → JoinFault → List ℕ
join_line tables fault = line_of (number_of fault) (join_details tables fault)
