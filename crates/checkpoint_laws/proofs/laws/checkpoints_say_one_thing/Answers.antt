use Rattle.checkpoint_laws.proofs.OneThing.{one_thing}
use Rattle.checkpoint_laws.proofs.laws.checkpoints_say_one_thing.Goals as goal

pub returns : goal.returns
returns c = one_thing (λ a b. (c.keys_tie_where_they_are_equal.ensures a b).0)
