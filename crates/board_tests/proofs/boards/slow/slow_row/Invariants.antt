use Rattle.std.proofs.Common.{◌≡◌, map}
use Rattle.std.specs.Arc.{arc_value}
use Rattle.source_feed.specs.History.{passed_at}
use Rattle.board_tests.proofs.boards.slow.slow_row.Given as goal

-- what the groups so far leave
abbrev pub invariant-loop-group : goal.invariant-loop-group
invariant-loop-group l = l.left ≡ passed_at (map arc_value l.groups) l.group-index l.key
