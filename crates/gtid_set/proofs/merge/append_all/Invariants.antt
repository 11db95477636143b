use Rattle.std.proofs.Common.{◌≡◌, drop}
use Rattle.gtid_set.specs.Position.{IsCanonical, union_of}
use Rattle.gtid_set.specs.Inner.Order.{AllStartOver}
use Rattle.gtid_set.proofs.merge.append_all.Given as goal

-- the set so far and what is left make the union
abbrev pub invariant-loop-next : goal.invariant-loop-next
invariant-loop-next l = record {
  canonical : IsCanonical l.set.items;
  starts : AllStartOver l.set.items (drop l.next-index l.rising);
  union : union_of l.set.items (drop l.next-index l.rising) ≡ union_of l.fn.set.items l.rising;
}
