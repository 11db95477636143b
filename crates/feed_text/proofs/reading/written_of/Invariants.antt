use Rattle.std.proofs.Common.{length}
use Rattle.feed_text.proofs.reading.written_of.Given as goal

abbrev pub decreases-loop-line : goal.decreases-loop-line
decreases-loop-line l = length l.rest
