-- What a call through C answers: 0, or the number of a refusal (this profile).
use Rattle.std.specs.Prelude.{◌≡◌, ◌⊎◌, ℕ, Result, Ok, Err}
use Rattle.std.specs.Result.{MatchResult}

-- want of memory
abbrev pub no_memory : ℕ
no_memory = 72

-- what a step gave is what the definition gives, or it wanted memory
abbrev pub Gives : {X Y : Type 0} → (X → Y) → Result X ℕ → Result Y ℕ → Type 0
Gives view (Ok x) definition = definition ≡ Ok (view x)
Gives view (Err number) definition = (number ≡ no_memory) ⊎ (definition ≡ Err number)

-- The call answered 0 and `P` holds of the value that the definition gives, or it answered the number by which the
-- definition refuses; or it wanted memory.
abbrev pub Answers : {Y : Type 0} → (Y → Type 0) → ℕ → Result Y ℕ → Type 0
Answers P number definition = (number ≡ no_memory) ⊎ MatchResult definition (λ value. (number ≡ 0) × P value) (λ refusal. number ≡ refusal)

-- The same where the value decides the number too.
abbrev pub Judges : {Y : Type 0} → (Y → Type 0) → ℕ → Result Y ℕ → Type 0
Judges P number definition = (number ≡ no_memory) ⊎ MatchResult definition P (λ refusal. number ≡ refusal)
