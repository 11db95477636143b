use Rattle.std.proofs.Common.{◌≡◌, ◌+◌, ◌*◌, ◌≤◌, map, length, drop}
use Rattle.proto_wire.specs.Zigzag.{unzigzag_of}
use Rattle.row_view.specs.Row.{size_of_all}
use Rattle.row_view.specs.Private.Spelled.{AreShort}
use Rattle.row_view.proofs.spelled.size_of_short.Given as goal

-- what is counted, and what the lengths that are still to come take, is the whole; they are all short if those are
abbrev pub invariant-loop-byte : goal.invariant-loop-byte
invariant-loop-byte l = record {
  short : AreShort (drop l.byte-index l.packed) → AreShort l.packed;
  total : l.size + size_of_all (map unzigzag_of (drop l.byte-index l.packed)) ≡ size_of_all (map unzigzag_of l.packed);
  small : l.size ≤ 64 * l.byte-index;
  within : l.byte-index ≤ length l.packed;
}
