use Rattle.std.proofs.Common.{◌≡◌, ◌-◌, ◌≤◌, ◌++◌, length, map}
use Rattle.pk_copy.specs.KeyOrder.{key_cmp}
use Rattle.target_tables.specs.Rising.{IsRising}
use Rattle.source_feed.specs.Image.{lent_row}
use Rattle.source_feed.specs.Private.ImageEntries.{first_of}
use Rattle.source_feed.proofs.chunk.first_rows.Given as goal

-- what is found so far, and what is still to be found among the other entries
abbrev pub invariant-loop-entries : goal.invariant-loop-entries
invariant-loop-entries l = record {
  few : length l.found.items ≤ l.rows;
  rising : IsRising key_cmp l.entries;
  seen : map lent_row l.found.items ++ first_of l.entries l.t (l.rows - length l.found.items) ≡ first_of l.initial.entries l.t l.rows;
}

abbrev pub decreases-loop-entries : goal.decreases-loop-entries
decreases-loop-entries l = length l.entries
