use Rattle.std.proofs.Common.{◌≡◌, ◌≤◌, length, map, drop}
use Rattle.std.specs.List.{All}
use Rattle.pk_copy.specs.KeyValue.{IsPart}
use Rattle.pk_copy.specs.KeyOf.{key_in}
use Rattle.pk_copy.specs.KeyOfKept.{kept_cell}
use Rattle.pk_copy.specs.PartValue.{part_value}
use Rattle.pk_copy.proofs.ReadingLaws.{key_behind}
use Rattle.pk_copy.proofs.kept_row.kept_key_at.Given as goal

-- the parts so far and the cells that follow make the key
abbrev pub invariant-loop-place : goal.invariant-loop-place
invariant-loop-place l = record {
  makes : key_behind l.t (map part_value l.parts.items) l.is_bad (map (kept_cell l.columns l.kept l.row) (drop l.place-index l.places)) ≡ key_in l.t (map (kept_cell l.columns l.kept l.row) l.places);
  few : length l.parts.items ≤ l.place-index;
  each_part : All IsPart (map part_value l.parts.items);
}
