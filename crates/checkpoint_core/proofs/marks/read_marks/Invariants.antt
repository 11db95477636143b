use Rattle.checkpoint_core.specs.Private.Reading.{AreMarksBefore}
use Rattle.checkpoint_core.proofs.marks.read_marks.Given as goal

-- the marks so far are those of the first tables
abbrev pub invariant-loop-t : goal.invariant-loop-t
invariant-loop-t l = AreMarksBefore l.plan l.tables l.t l.marks
