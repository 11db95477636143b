-- The streams of two boards side by side, as a join compares them.
use Rattle.std.specs.Prelude.{◌≡◌, ℕ, ◌<◌, false, List, map, Some, slice_get}
use Rattle.std.specs.Ordering.{is_lt}
use Rattle.filter_rule.specs.PlanValue.{PlanValue}
use Rattle.source_feed.specs.Prepared.{IsSameGroup}
use Rattle.source_feed.specs.Touches.{PreparedValue}
use Rattle.board_laws.specs.Meaning.{State}
use Rattle.board_laws.specs.StateOrder.{state_cmp}
use Rattle.board_laws.specs.Compatible.{AreOfOneHistory}
use Rattle.apply_core.specs.declared.beside.Test.{Test}
use Rattle.apply_core.specs.declared.beside.Test.TheVariants.{OnePlan, OneHistory, NoFurther}

-- the plans of streams
abbrev pub plans_in : List State → List PlanValue
plans_in states = map (λ state. state.plan) states

-- each group of the front stands in the whole at its place, by number, position and touches
abbrev pub AreSameGroups : List PreparedValue → List PreparedValue → Type 0
AreSameGroups front whole = (i : ℕ) (x : PreparedValue) → slice_get front i ≡ Some x → (y : PreparedValue) × (slice_get whole i ≡ Some y) × IsSameGroup x y

-- the same of the first n groups of the front
abbrev pub AreSameFirst : ℕ → List PreparedValue → List PreparedValue → Type 0
AreSameFirst n front whole = (i : ℕ) (x : PreparedValue) → i < n → slice_get front i ≡ Some x → (y : PreparedValue) × (slice_get whole i ≡ Some y) × IsSameGroup x y

-- what a test may take for granted
abbrev pub Premise : Test → State → State → Type 0
Premise OnePlan x y = Unit {0}
Premise OneHistory x y = x.plan ≡ y.plan
Premise NoFurther x y = x.plan ≡ y.plan

-- what a test says of the two states of a stream
abbrev pub Passes : Test → State → State → Type 0
Passes OnePlan x y = x.plan ≡ y.plan
Passes OneHistory x y = AreOfOneHistory x y
Passes NoFurther x y = is_lt (state_cmp x y) ≡ false

-- a fact of the two states of each of the first n streams
abbrev pub OfFirst : (State → State → Type 0) → ℕ → List State → List State → Type 0
OfFirst P n xs ys = (s : ℕ) (x y : State) → s < n → slice_get xs s ≡ Some x → slice_get ys s ≡ Some y → P x y
