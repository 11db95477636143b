-- A row of a table of steps: refusals in order, each with its condition, and what happens else.
use Rattle.std.specs.Prelude.{◌≡◌, Bool, true, false, List, [], ◌∷◌, ◌++◌, Result, Ok, Err, if◌then◌else◌}
use Rattle.std.specs.List.{AllByRecursion}

-- the refusals in order, and the answer where none stands
pub record Row (A R : Type 0) : Type 0 where
  pub refusals : List (Bool × R)
  pub otherwise : A

-- the first refusal whose condition holds, else the answer
abbrev pub first_standing : {A R : Type 0} → List (Bool × R) → A → Result A R
first_standing [] answer = Ok answer
first_standing (refusal ∷ later) answer = if refusal.0 then Err refusal.1 else first_standing later answer

-- what the row decides
abbrev pub decides : {A R : Type 0} → Row A R → Result A R
decides row = first_standing row.refusals row.otherwise

-- none of these refusals' conditions holds
abbrev pub NoneStands : {R : Type 0} → List (Bool × R) → Type 0
NoneStands = AllByRecursion (λ refusal. refusal.0 ≡ false)

-- this refusal stands among these, its condition holds, and that of no earlier one does
pub record StandsFirst {R : Type 0} (refusals : List (Bool × R)) (refusal : R) : Type 0 where
  pub earlier : List (Bool × R)
  pub later : List (Bool × R)
  pub place : refusals ≡ earlier ++ (true, refusal) ∷ later
  pub none_before : NoneStands earlier
