use Rattle.std.proofs.Common.{◌≡◌, take}
use Rattle.pk_copy.specs.KeyOrder.{key_cmp}
use Rattle.target_tables.specs.Touches.{last_at}
use Rattle.source_feed.specs.Image.{kept_after}
use Rattle.board_tests.proofs.boards.slow.row_after.Given as goal

-- what the touches so far leave
abbrev pub invariant-loop-touch : goal.invariant-loop-touch
invariant-loop-touch l = l.left ≡ kept_after (last_at key_cmp (take l.touch-index l.touches) l.key) l.fn.before
