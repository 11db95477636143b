-- What a step answers, and the state that it leaves, where it isn't refused.
use Rattle.std.specs.Prelude.{◌+◌, [], ◌∷◌, ◌++◌, length, take, nat_le, Some, None, if◌then◌else◌}
use Rattle.board_laws.specs.declared.answer.Answer.{Answer}
use Rattle.board_laws.specs.declared.answer.Answer.TheVariants.{Offered, Applied, Opened, Copied, Closed, Restarted}
use Rattle.board_laws.specs.declared.answer.Offered.TheVariants.{Read, Repeat}
use Rattle.board_laws.specs.Meaning.{State}
use Rattle.board_laws.specs.Event.{Event, offer, advance, open_at, copy_rows, close, restart}
use Rattle.board_laws.specs.Chunk.{rows_taken, takes_all, copied_state}

abbrev pub answer_to : State → Event → Answer
answer_to state (offer group) = Offered (if nat_le group.number (length state.list) then Repeat group.number else Read group.number)
answer_to state advance = Applied (state.applied + 1)
answer_to state (open_at m) = Opened m
answer_to state (copy_rows c) = Copied (record { rows = length (rows_taken state c); done = takes_all state c })
answer_to state close = Closed
answer_to state restart = Restarted state.applied

abbrev pub state_after : State → Event → State
state_after state (offer group) = if nat_le group.number (length state.list) then state else record state { list = state.list ++ group ∷ [] }
state_after state advance = record state { applied = state.applied + 1 }
state_after state (open_at m) = record state { snapshot = Some m }
state_after state (copy_rows c) = copied_state state c
state_after state close = record state { snapshot = None }
state_after state restart = record state { list = take state.applied state.list; snapshot = None }
