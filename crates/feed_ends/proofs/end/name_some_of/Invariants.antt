use Rattle.std.proofs.Common.{◌≡◌, drop, map}
use Rattle.vrepl_choices.specs.UntilValue.{until_value}
use Rattle.feed_ends.specs.Positions.{name_some_of}
use Rattle.feed_ends.proofs.PositionLaws.{names_from}
use Rattle.feed_ends.proofs.end.name_some_of.Given as goal

-- the streams so far are there
abbrev pub invariant-loop-until : goal.invariant-loop-until
invariant-loop-until l = name_some_of l.count (map until_value l.untils) ≡ names_from l.count (drop l.until-index l.untils)
