use Rattle.std.proofs.Common.{◌≤◌, take, arith}
use Rattle.target_tables.proofs.Opening.{merges_none, merges_then}
use Rattle.target_tables.proofs.runs.put_run.Goals as goal

pub loop-rest-init : goal.loop-rest-init
loop-rest-init g c = record {
  left = c.requires.left;
  fewer = omega arith;
  merges = merges_none g.met.K.Ord.total c.args.stream c.args.page c.args.list.now c.args.above.now (take c.args.left c.args.changes.now.items) c.requires.fit;
}

pub put_next-next-requires-clause-fit : goal.put_next-next-requires-clause-fit
put_next-next-requires-clause-fit g c = c.loop-rest.invariant.merges.fit

pub returns-then-next-rest-clause-merges : goal.returns-then-next-rest-clause-merges
returns-then-next-rest-clause-merges g c =
    merges_then g.met.K.Ord.total c.args.stream c.args.page c.args.list.now c.loop-rest.list c.put_next-next.new.list c.args.above.now c.loop-rest.above c.put_next-next.new.above
    (take c.args.left c.args.changes.now.items) (take c.loop-rest.rest c.loop-rest.changes.items) (take c.put_next-next.result c.put_next-next.new.changes.items) c.loop-rest.invariant.merges c.put_next-next.ensures.merges

pub loop-rest-preserved : goal.loop-rest-preserved
loop-rest-preserved g c =
    let before : c.loop-rest.rest ≤ c.args.left = c.loop-rest.invariant.fewer in
    let fewer : c.put_next-next.result ≤ c.loop-rest.rest = c.put_next-next.ensures.fewer in
    record {
      left = c.put_next-next.ensures.left;
      fewer = omega (arith, before, fewer);
      merges = merges_then g.met.K.Ord.total c.args.stream c.args.page c.args.list.now c.loop-rest.list c.put_next-next.new.list c.args.above.now c.loop-rest.above c.put_next-next.new.above
          (take c.args.left c.args.changes.now.items) (take c.loop-rest.rest c.loop-rest.changes.items) (take c.put_next-next.result c.put_next-next.new.changes.items) c.loop-rest.invariant.merges c.put_next-next.ensures.merges;
    }
