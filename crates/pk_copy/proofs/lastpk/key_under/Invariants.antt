use Rattle.std.proofs.Common.{◌≡◌, ◌+◌, ◌≤◌, length, map, drop}
use Rattle.std.specs.List.{All}
use Rattle.pk_copy.specs.KeyValue.{IsPart}
use Rattle.pk_copy.specs.KeyOf.{key_in}
use Rattle.pk_copy.specs.Lastpk.{lastpk_cells}
use Rattle.pk_copy.specs.PartValue.{part_value}
use Rattle.pk_copy.proofs.ReadingLaws.{key_behind}
use Rattle.pk_copy.proofs.lastpk.key_under.Given as goal

-- the parts so far and the columns that are still to come make the key
abbrev pub invariant-loop-column : goal.invariant-loop-column
invariant-loop-column l = record {
  makes : key_behind l.t (map part_value l.parts.items) l.is_bad (lastpk_cells l.columns (drop l.i l.places) l.column-iterator) ≡ key_in l.t (lastpk_cells l.columns l.places l.row);
  count : l.i + length l.column-iterator ≡ length l.places;
  few : length l.parts.items ≤ l.i;
  each_part : All IsPart (map part_value l.parts.items);
}
