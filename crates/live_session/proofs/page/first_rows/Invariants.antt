use Rattle.std.proofs.Common.{◌≡◌, ◌-◌, ◌≤◌, ◌++◌, length, map}
use Rattle.pk_copy.specs.KeyOrder.{key_cmp}
use Rattle.target_tables.specs.Contents.{entry}
use Rattle.target_tables.specs.Rising.{IsRising}
use Rattle.live_session.specs.Pages.{first_of}
use Rattle.live_session.proofs.page.first_rows.Given as goal

-- what is found so far, and what is still to be found among the other entries
abbrev pub invariant-loop-entries : goal.invariant-loop-entries
invariant-loop-entries l = record {
  few : length l.found.items ≤ l.rows;
  rising : IsRising key_cmp l.entries;
  seen : map entry l.found.items ++ first_of l.entries l.t (l.rows - length l.found.items) ≡ first_of l.initial.entries l.t l.rows;
}

abbrev pub decreases-loop-entries : goal.decreases-loop-entries
decreases-loop-entries l = length l.entries
