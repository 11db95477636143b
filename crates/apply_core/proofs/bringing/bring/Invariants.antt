use Rattle.std.proofs.Common.{◌≤◌, ◌-◌, map}
use Rattle.std.specs.Arc.{arc_value}
use Rattle.source_feed.specs.History.{IsPassed}
use Rattle.apply_core.proofs.bringing.bring.Given as goal

-- the image is that of so many groups, no more than are wanted
abbrev pub invariant-loop-imaged : goal.invariant-loop-imaged
invariant-loop-imaged l = record {
  kept : IsPassed (map arc_value l.list) l.imaged l.image;
  no_later : l.imaged ≤ l.group;
}

abbrev pub decreases-loop-imaged : goal.decreases-loop-imaged
decreases-loop-imaged l = l.group - l.imaged
