use Rattle.std.proofs.Common.{◌≤◌, take, vec_len}
use Rattle.target_tables.specs.Pages.{entries_of, room_of}
use Rattle.target_tables.specs.Rising.{IsRising}
use Rattle.target_tables.specs.Touches.{new_keys}
use Rattle.target_tables.specs.Private.Runs.{Leads}
use Rattle.target_tables.proofs.changes.change_all.Given as goal

abbrev pub invariant-loop-left : goal.invariant-loop-left
invariant-loop-left g l = record {
  left : l.left ≤ vec_len l.changes;
  rising : IsRising g.K.Ord.cmp (entries_of l.pages.pages);
  leads : Leads g.K.Ord.cmp (entries_of l.fn.pages.pages) l.stream l.fn.changes.items (take l.left l.changes.items) (entries_of l.pages.pages);
  room : new_keys g.K.Ord.cmp (entries_of l.pages.pages) (take l.left l.changes.items) ≤ room_of l.pages.pages l.pages.spares;
}

abbrev pub decreases-loop-left : goal.decreases-loop-left
decreases-loop-left g l = l.left
