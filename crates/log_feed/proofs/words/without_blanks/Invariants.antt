use Rattle.std.proofs.Common.{◌≡◌, length}
use Rattle.log_feed.specs.Words.{without_blanks}
use Rattle.log_feed.proofs.words.without_blanks.Given as goal

abbrev pub invariant-loop-byte : goal.invariant-loop-byte
invariant-loop-byte l = without_blanks l.left ≡ without_blanks l.text

abbrev pub decreases-loop-byte : goal.decreases-loop-byte
decreases-loop-byte l = length l.left
