use Rattle.std.proofs.Common.{length}
use Rattle.dump.specs.Private.Known.{AreLinesOf, texts_of}
use Rattle.dump.specs.Private.Reading.{IsReadSoFar}
use Rattle.dump.proofs.reading.read_lines.Given as goal

abbrev pub invariant-loop-rest : goal.invariant-loop-rest
invariant-loop-rest g l = IsReadSoFar l.fn.plan l.fn.bytes l.read l.rest l.line × AreLinesOf (texts_of l.lines.items) l.read.rows

abbrev pub decreases-loop-rest : goal.decreases-loop-rest
decreases-loop-rest g l = length l.rest
