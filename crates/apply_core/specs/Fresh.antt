-- A board of which nothing is read, and why it isn't made (this profile).
use Rattle.std.specs.Prelude.{◌≡◌, ℕ, List, [], map, Some, slice_get}
use Rattle.filter_rule.specs.PlanValue.{PlanValue}
use Rattle.board_laws.specs.declared.refusal.Refusal.{Refusal}
use Rattle.board_laws.specs.declared.refusal.Refusal.TheVariants.{WrongPlan, Memory}
use Rattle.board_laws.specs.Meaning.{Meaning}
use Rattle.board_laws.specs.Lawful.{start_of}

-- a stream for each plan, of which nothing is read and nothing copied, and no rows
abbrev pub fresh_board : List PlanValue → Meaning
fresh_board plans = record { streams = map start_of plans; rows = [] }

-- every two plans have the same tables
abbrev pub HaveSameTables : List PlanValue → Type 0
HaveSameTables plans = (s t : ℕ) (one other : PlanValue) → slice_get plans s ≡ Some one → slice_get plans t ≡ Some other → one.tables ≡ other.tables

-- a board of these plans is refused: where their tables differ, or for want of memory
abbrev pub IsRefusedBoard : List PlanValue → Refusal → Type 0
IsRefusedBoard plans WrongPlan = ¬ HaveSameTables plans
IsRefusedBoard plans Memory = HaveSameTables plans
IsRefusedBoard plans refusal = ⊥
