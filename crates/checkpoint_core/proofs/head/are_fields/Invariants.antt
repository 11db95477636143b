use Rattle.std.proofs.Common.{◌≡◌, map, drop}
use Rattle.vevent.specs.ColumnView.{field_value}
use Rattle.checkpoint_core.proofs.head.are_fields.Given as goal

-- the columns are the wanted ones exactly where those that are still to come are
abbrev pub invariant-loop-other : goal.invariant-loop-other
invariant-loop-other l =
    (l.fields ≡ map field_value (drop l.other-index l.wanted) → l.fn.fields ≡ map field_value l.fn.wanted)
    × (l.fn.fields ≡ map field_value l.fn.wanted → l.fields ≡ map field_value (drop l.other-index l.wanted))
