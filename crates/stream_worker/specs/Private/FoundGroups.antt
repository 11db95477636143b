-- How an offered group stands to the one of its number that is read, and what its offer answers.
use Rattle.std.specs.Prelude.{◌≡◌, ◌≢◌, ℕ, ◌-◌, List, Result, Ok, Err, IsSomeAnd, slice_get}
use Rattle.source_feed.specs.Touches.{PreparedValue}
use Rattle.board_laws.specs.declared.answer.Answer.{Answer}
use Rattle.board_laws.specs.declared.answer.Answer.TheVariants.{Offered}
use Rattle.board_laws.specs.declared.answer.Offered.TheVariants.{Repeat}
use Rattle.board_laws.specs.declared.refusal.Refusal.{Refusal}
use Rattle.board_laws.specs.declared.refusal.Refusal.TheVariants.{WrongPlan, Diverged}
use Rattle.stream_worker.specs.declared.found.Found.{Found}
use Rattle.stream_worker.specs.declared.found.Found.TheVariants.{Same, OtherPlan, OtherGroup}

-- it is that one, of another plan, or another one of the same plan
abbrev pub IsBeside : PreparedValue → PreparedValue → Found → Type 0
IsBeside read group Same = read ≡ group
IsBeside read group OtherPlan = read.plan ≢ group.plan
IsBeside read group OtherGroup = (read.plan ≡ group.plan) × (read ≢ group)

-- the same of the group of its number in a list
abbrev pub IsFound : List PreparedValue → PreparedValue → Found → Type 0
IsFound list group found = IsSomeAnd (slice_get list (group.number - 1)) (λ read. IsBeside read group found)

-- a repeat, 111, or 112
abbrev pub answer_of : ℕ → Found → Result Answer Refusal
answer_of number Same = Ok (Offered (Repeat number))
answer_of number OtherPlan = Err WrongPlan
answer_of number OtherGroup = Err Diverged
