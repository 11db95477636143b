use Rattle.std.proofs.Common.{arith, rules}
use Rattle.std.proofs.lemmas.List.Sorted.{IsPartitionPoint-from_clause}
use Rattle.gtid_set.specs.declared.interval.Interval.{Interval}
use Rattle.gtid_set.specs.Position.{ends_before}
use Rattle.gtid_set.proofs.Covered.{partitioned, AllEndBefore-within}
use Rattle.gtid_set.proofs.search.place_of.Goals as goal

pub returns-clause-passed : goal.returns-clause-passed
returns-clause-passed c =
    let p = IsPartitionPoint-from_clause (λ (i : Interval). ends_before i c.args.interval.now) c.args.set.now c.partition_point.result c.partition_point.ensures.partitioned (partitioned c.args.set.now c.args.interval.now c.requires) (λ a r f h. search rules) in
    AllEndBefore-within c.args.set.now c.partition_point.result c.args.interval.now c.partition_point.ensures.bound p.0

pub returns-clause-stops : goal.returns-clause-stops
returns-clause-stops c = λ lt d.
    let p = IsPartitionPoint-from_clause (λ (i : Interval). ends_before i c.args.interval.now) c.args.set.now c.partition_point.result c.partition_point.ensures.partitioned (partitioned c.args.set.now c.args.interval.now c.requires) (λ a r f h. search rules) in
    p.1 c.partition_point.result d (omega arith) lt
