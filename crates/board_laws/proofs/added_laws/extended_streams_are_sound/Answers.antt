use Rattle.board_laws.proofs.AddedStates.{sound-states, positions-stay}
use Rattle.board_laws.proofs.added_laws.extended_streams_are_sound.Goals as goal

pub returns-clause-sound : goal.returns-clause-sound
returns-clause-sound c = sound-states

pub returns-clause-positions : goal.returns-clause-positions
returns-clause-positions c = positions-stay
