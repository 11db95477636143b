use Rattle.apply_core.proofs.EndedBoardsHaveUnions.{union-kept, one-union}
use Rattle.apply_core.proofs.SoundEnds.{all-sound}
use Rattle.apply_core.proofs.run_laws.ended_boards_have_the_union.Goals as goal

pub returns-clause-rows : goal.returns-clause-rows
returns-clause-rows c = union-kept (λ a b. (c.keys_tie_where_they_are_equal.ensures a b).0)

pub returns-clause-one : goal.returns-clause-one
returns-clause-one c = one-union (λ a b. (c.keys_tie_where_they_are_equal.ensures a b).0)

pub returns-clause-sound : goal.returns-clause-sound
returns-clause-sound c = all-sound
