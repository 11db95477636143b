use Rattle.std.proofs.Common.{◌≡◌, ◌+◌, ◌++◌, drop}
use Rattle.feed_check.specs.Skipped.{skipped_from, skipped_of}
use Rattle.feed_check.proofs.skipped.skipped_of.Given as goal

-- those so far, and those of the messages that are left, are the feed's
abbrev pub invariant-loop-i : goal.invariant-loop-i
invariant-loop-i l = l.skipped.items ++ skipped_from (l.i + 1) (drop l.i l.messages.items) ≡ skipped_of l.fn.feed
