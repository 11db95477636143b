-- Of two states of each stream the one that is further on (this profile).
use Rattle.std.specs.Prelude.{List, [], ◌∷◌, if◌then◌else◌}
use Rattle.std.specs.Ordering.{is_lt}
use Rattle.board_laws.specs.Meaning.{State}
use Rattle.board_laws.specs.StateOrder.{state_cmp, running_cmp}

-- the one that is further on
abbrev pub chosen : State → State → State
chosen x y = if is_lt (state_cmp x y) then y else x

-- the same of each stream of two boards
abbrev pub all_chosen : List State → List State → List State
all_chosen [] ys = []
all_chosen (x ∷ xs) [] = []
all_chosen (x ∷ xs) (y ∷ ys) = chosen x y ∷ all_chosen xs ys

-- of two states whose tables are all copied: the one with more groups applied, at equal numbers with more groups read
abbrev pub chosen_running : State → State → State
chosen_running x y = if is_lt (running_cmp x y) then y else x

-- the same of each stream of two boards
abbrev pub all_chosen_running : List State → List State → List State
all_chosen_running [] ys = []
all_chosen_running (x ∷ xs) [] = []
all_chosen_running (x ∷ xs) (y ∷ ys) = chosen_running x y ∷ all_chosen_running xs ys
