use Rattle.std.proofs.Common.{◌≡◌}
use Rattle.checkpoint_places.specs.Stands.{tables_at}
use Rattle.checkpoint_places.proofs.ReadLaws.{behind}
use Rattle.checkpoint_places.proofs.reading.tables_at.Given as goal

-- the tables so far, and those of the parts that are left, are all
abbrev pub invariant-loop-part : goal.invariant-loop-part
invariant-loop-part l = tables_at l.position l.fn.parts ≡ behind l.tables.items (tables_at l.position l.part-iterator)
