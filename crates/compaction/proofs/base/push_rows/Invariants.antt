use Rattle.compaction.specs.Private.Sized.{joined}
use Rattle.compaction.proofs.WritingLaws.{WritesOn}
use Rattle.compaction.proofs.base.push_rows.Given as goal

-- the rows so far are in portions or wait
abbrev pub invariant-loop-key : goal.invariant-loop-key
invariant-loop-key l = WritesOn l.plan l.fields (joined l.fn.portions.items) (joined l.portions.items) l.waiting l.rows l.key-iterator
