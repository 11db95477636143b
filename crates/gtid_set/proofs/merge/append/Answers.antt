use Rattle.std.proofs.Common.{◌≡◌, arith, false, length}
use Rattle.gtid_set.specs.Position.{ends_before}
use Rattle.gtid_set.proofs.Appended.{set_last-joined, push-joined, push-joined-none}
use Rattle.gtid_set.proofs.merge.append.Goals as goal
use Rattle.gtid_set.proofs.merge.append.Goals.{then-count-gt0+else-not-ends_before, else-count-gt0}

pub returns-then-not-ends_before-clause-ok : goal.returns-then-not-ends_before-clause-ok
returns-then-not-ends_before-clause-ok c =
    let count : c.len-count.result ≡ length c.args.set.now.items = omega (arith, c.len-count.ensures, c.args.set.now.ok.0) in
    let not_ends : ends_before c.index.result.now c.args.next ≡ false = cc in
    rw (count, c.max.ensures) (set_last-joined c.args.set.now.items c.index.result.now c.args.next (omega arith) (rw count at c.index.ensures) c.requires.canonical c.requires.interval c.requires.starts not_ends)

pub returns-clause-ok : goal.returns-clause-ok
returns-clause-ok c =
    let count : c.len-count.result ≡ length c.args.set.now.items = omega (arith, c.len-count.ensures, c.args.set.now.ok.0) in
    rw c.in_ok-push.ensures.items (elim c.if-count-gt0.branch [
      | then-count-gt0+else-not-ends_before w ↦ push-joined c.args.set.now.items w.index.result.now c.args.next (omega arith) (rw count at w.index.ensures) c.requires.canonical cc
      | else-count-gt0 w ↦ push-joined-none c.args.set.now.items c.args.next (omega arith)
    ])
