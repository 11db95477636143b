use Rattle.std.proofs.Common.{◌≡◌, ◌+◌, ◌≤◌, length}
use Rattle.proto_wire.specs.Varint.{varints_of}
use Rattle.row_view.specs.Private.Marks.{EndsIn, lengths_left}
use Rattle.row_view.specs.Private.Counted.{IsCounted}
use Rattle.row_view.proofs.count.Count.put_packed.Given as goal

-- what is left of the part stands where it did, and all before it is counted
abbrev pub invariant-loop-rest : goal.invariant-loop-rest
invariant-loop-rest l = record {
  place : EndsIn l.message l.rest l.after;
  few : l.self.columns + length l.rest ≤ l.fn.self.columns + length l.packed;
  fault : (varints_of l.rest).fault ≡ (varints_of l.packed).fault;
  counted : IsCounted l.message (lengths_left l.rest l.after) l.self l.marks;
}

abbrev pub decreases-loop-rest : goal.decreases-loop-rest
decreases-loop-rest l = length l.rest
