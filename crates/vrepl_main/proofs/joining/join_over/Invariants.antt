use Rattle.std.proofs.Common.{take}
use Rattle.apply_core.specs.Ended.{IsFedBoard}
use Rattle.vrepl_main.specs.InputList.{bytes_of}
use Rattle.vrepl_main.specs.JoinedRun.{AreJoined}
use Rattle.vrepl_main.proofs.joining.join_over.Given as goal

-- the boards so far are joined
abbrev pub invariant-loop-i : goal.invariant-loop-i
invariant-loop-i g l = AreJoined l.opened.feeds.items l.one (take l.i (bytes_of l.others)) l.board × IsFedBoard l.opened.feeds.items l.board
