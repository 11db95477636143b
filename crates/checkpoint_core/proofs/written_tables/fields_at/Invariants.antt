use Rattle.std.proofs.Common.{◌≡◌, ◌++◌, map, drop}
use Rattle.vevent.specs.ColumnView.{field_value}
use Rattle.checkpoint_core.specs.Private.WrittenTables.{fields_at}
use Rattle.checkpoint_core.proofs.written_tables.fields_at.Given as goal

-- the columns so far, and those at the places that are still to come, are all
abbrev pub invariant-loop-place : goal.invariant-loop-place
invariant-loop-place l = map field_value l.fields.items ++ fields_at l.columns (drop l.place-index l.places) ≡ fields_at l.fn.columns l.fn.places
