use Rattle.std.proofs.Common.{refl, ap, arith}
use Rattle.stream_core.specs.Standing.{is_open_at}
use Rattle.apply_core.proofs.PhasesTellNumbers.{running-closed, at-end}
use Rattle.apply_core.proofs.course.running.Goals as goal

pub returns-then-applied-read : goal.returns-then-applied-read
returns-then-applied-read c chunks =
    (omega (arith, c.applied.ensures, c.read.ensures, c.if-applied-read.true), ap (λ o. is_open_at c.args.at.now.applied o) (running-closed c.args.at.now c.requires.sound c.requires.running))

pub returns-then-read-groups : goal.returns-then-read-groups
returns-then-read-groups c chunks =
    (omega (arith, c.read-then-read-groups.ensures), omega (arith, c.read-2.ensures, c.if-read-groups.true), running-closed c.args.at.now c.requires.sound c.requires.running, refl)

pub returns : goal.returns
returns c chunks =
    at-end c.args.at.now c.args.groups c.requires.sound c.requires.running
    (omega (arith, c.applied.ensures, c.read.ensures, c.if-applied-read.false)) (omega (arith, c.read-2.ensures, c.if-read-groups.false)) c.requires.within
