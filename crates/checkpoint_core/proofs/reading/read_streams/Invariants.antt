use Rattle.std.proofs.Common.{map}
use Rattle.std.specs.Arc.{arc_value}
use Rattle.checkpoint_core.proofs.ReadLaws.{SayFirst}
use Rattle.checkpoint_core.proofs.reading.read_streams.Given as goal

-- the parts of the first streams say this of them
abbrev pub invariant-loop-s : goal.invariant-loop-s
invariant-loop-s l = SayFirst l.version (map arc_value l.plans) l.parts l.s l.saved.items
