-- What a step gives and why it is refused. Generic in the fault, so that every layer says it by the same
-- words. Where a call may also want memory, `meant` takes each of its faults to the one that the
-- definition names, and want of memory to nothing, since no definition speaks of it.
use Rattle.std.specs.Prelude.{◌≡◌, Bool, true, false, List, [], ◌∷◌, Option, Some, None, Result, Ok, Err, IfSome}

-- ---- steps

-- one step and then another; the first fault ends them
infixl 10 ◌>>=◌
abbrev pub ◌>>=◌ : {A B F : Type 0} → Result A F → (A → Result B F) → Result B F
(Ok x) >>= step = step x
(Err fault) >>= step = Err fault

-- a step for each, one after another, up to the first fault
abbrev pub each : {A B F : Type 0} → (A → Result B F) → List A → Result (List B) F
each step [] = Ok []
each step (x ∷ xs) = step x >>= λ y. each step xs >>= λ ys. Ok (y ∷ ys)

-- a step that only refuses: by the fault, where there is one
abbrev pub unless : {F : Type 0} → Option F → Result (Unit {0}) F
unless None = Ok tt
unless (Some fault) = Err fault

-- a step that only refuses: by the fault, where the test is true
abbrev pub refused_if : {F : Type 0} → Bool → F → Result (Unit {0}) F
refused_if false fault = Ok tt
refused_if true fault = Err fault

-- ---- what a call answers

-- what a call answered, seen by `view`, is what the definition gives
abbrev pub Gives : {X Y F : Type 0} → (X → Y) → Result X F → Result Y F → Type 0
Gives view (Ok x) definition = definition ≡ Ok (view x)
Gives view (Err fault) definition = definition ≡ Err fault

-- ---- what a call answers that may also want memory

-- a refusal is the definition's, unless it is want of memory
abbrev pub Refuses : {E F Y : Type 0} → (E → Option F) → E → Result Y F → Type 0
Refuses meant fault definition = IfSome (meant fault) (λ f. definition ≡ Err f)

-- a fault is the one that the definition names, unless it is want of memory
abbrev pub IsFault : {E F : Type 0} → (E → Option F) → E → Option F → Type 0
IsFault meant fault definition = IfSome (meant fault) (λ f. definition ≡ Some f)

-- what a call answered, seen by `view`, is what the definition gives, unless it is want of memory
abbrev pub GivesUnless : {E F X Y : Type 0} → (E → Option F) → (X → Y) → Result X E → Result Y F → Type 0
GivesUnless meant view (Ok x) definition = definition ≡ Ok (view x)
GivesUnless meant view (Err fault) definition = Refuses meant fault definition
