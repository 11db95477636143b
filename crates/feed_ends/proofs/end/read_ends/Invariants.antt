use Rattle.std.proofs.Common.{◌≡◌, drop, map}
use Rattle.vrepl_choices.specs.UntilValue.{until_value}
use Rattle.feed_ends.specs.Positions.{read_ends}
use Rattle.feed_ends.proofs.PositionLaws.{ends_from, in_front}
use Rattle.feed_ends.proofs.end.read_ends.Given as goal

-- the positions so far stand in front of those still to come
abbrev pub invariant-loop-until : goal.invariant-loop-until
invariant-loop-until l = read_ends (map until_value l.untils) ≡ in_front l.ends.items (ends_from (drop l.until-index l.untils))
