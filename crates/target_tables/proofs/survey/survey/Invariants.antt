use Rattle.std.proofs.Common.{◌≡◌, ◌+◌, ◌≤◌, length, drop, vec_len}
use Rattle.std.specs.Vec.{vec_capacity}
use Rattle.std.specs.List.{AllByRecursion}
use Rattle.target_tables.specs.Touches.{new_keys}
use Rattle.target_tables.specs.Kept.{IsFree}
use Rattle.target_tables.specs.Pages.{entries_of}
use Rattle.target_tables.proofs.survey.survey.Given as goal

-- the changes from place on are counted, and none meets another stream's row
abbrev pub invariant-loop-place : goal.invariant-loop-place
invariant-loop-place g l =
    (vec_len l.spots + l.place ≤ vec_capacity l.spots) × (l.count + l.place ≤ length l.changes) × (l.count ≡ new_keys g.K.Ord.cmp (entries_of l.pages) (drop l.place l.changes)) × AllByRecursion (IsFree g.K.Ord.cmp (entries_of l.pages) l.stream) (drop l.place l.changes)

abbrev pub decreases-loop-place : goal.decreases-loop-place
decreases-loop-place g l = l.place
