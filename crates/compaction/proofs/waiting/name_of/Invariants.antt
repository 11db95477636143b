use Rattle.std.proofs.Common.{take}
use Rattle.compaction.specs.Private.Written.{AreOfOthers}
use Rattle.compaction.proofs.waiting.name_of.Given as goal

-- none of the FIELDs so far is of the table
abbrev pub invariant-loop-field : goal.invariant-loop-field
invariant-loop-field l = AreOfOthers l.plan l.table (take l.field-index l.fields)
