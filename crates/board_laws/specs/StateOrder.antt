-- Which of two states of one stream is further on (this profile).
use Rattle.std.specs.Prelude.{◌≡◌, length}
use Rattle.std.specs.Option.{option_cmp}
use Rattle.std.specs.Ordering.{nat_cmp, on, then_cmp}
use Rattle.std.specs.declared.cmp.Ordering.{Ordering}
use Rattle.pk_copy.specs.Marks.{marks_cmp}
use Rattle.board_laws.specs.Meaning.{State}

-- by the groups that are read; then an open snapshot is above none, by its group
abbrev pub ahead_cmp : State → State → Ordering
ahead_cmp = then_cmp (on (λ state. length state.list) nat_cmp) (on (λ state. state.snapshot) (option_cmp nat_cmp))

-- by the groups that are applied, then by the marks, then by what is read and open beyond them
abbrev pub state_cmp : State → State → Ordering
state_cmp = then_cmp (on (λ state. state.applied) nat_cmp) (then_cmp (on (λ state. state.marks) marks_cmp) ahead_cmp)

-- by the groups that are applied, then by those that are read: the order of streams whose tables are all copied
abbrev pub running_cmp : State → State → Ordering
running_cmp = then_cmp (on (λ state. state.applied) nat_cmp) (on (λ state. length state.list) nat_cmp)

-- all tables of the stream are copied
abbrev pub IsRunning : State → Type 0
IsRunning state = state.marks.done ≡ state.marks.tables
