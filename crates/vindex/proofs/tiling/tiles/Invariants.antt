use Rattle.std.proofs.Common.{◌↔◌, ◌≡◌, take, drop, true}
use Rattle.std.specs.List.{list_all}
use Rattle.std.specs.Option.{option_copied}
use Rattle.vindex.specs.Bounds.{is_ordered}
use Rattle.vindex.specs.Tiling.{Tiles}
use Rattle.vindex.proofs.TilingLemmas.{MeetFrom}
use Rattle.vindex.proofs.tiling.tiles.Given as goal

-- all ranges tile just where the rest meets what is covered so far; each passed one is in order
abbrev pub invariant-loop-range : goal.invariant-loop-range
invariant-loop-range l =
    (MeetFrom (option_copied l.covered) (drop l.range-index l.ranges) ↔ Tiles l.ranges)
    × (list_all is_ordered (take l.range-index l.ranges) ≡ true)
