use Rattle.std.proofs.Common.{arith}
use Rattle.log_transcribe.proofs.ByteLaws.{not_before}
use Rattle.log_transcribe.proofs.byte.sought.Goals as goal

pub loop-byte-preserved : goal.loop-byte-preserved
loop-byte-preserved c =
    (λ byte less. not_before c.args.bytes.now c.args.told c.args.fault c.loop-byte.byte c.loop-byte.invariant.0 (c.in_ok-stands_at.ensures.no c.if-branch.false) byte less, omega (arith, c.if-last-byte.false))
