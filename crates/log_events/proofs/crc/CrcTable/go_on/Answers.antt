use Rattle.std.proofs.Common.{ℕ, ap, ◌∙◌}
use Rattle.log_events.specs.Crc.{crc_from}
use Rattle.log_events.proofs.CrcLaws.{crc_from-cut}
use Rattle.log_events.proofs.crc.CrcTable.go_on.Goals as goal

pub loop-eight-preserved : goal.loop-eight-preserved
loop-eight-preserved c =
    let sum = c.loop-eight.sum in
    let left = c.loop-eight.left.now in
    let eight = c.in-Some.eight.now in
    let rest = c.in-Some.rest.now in
    ap (λ (s : ℕ). crc_from s rest) c.eight_on-sum.ensures ∙ crc_from-cut sum 8 left eight rest c.in-Some.ensures.cases.0 c.in-Some.ensures.cases.1 ∙ c.loop-eight.invariant

pub returns : goal.returns
returns c = c.few_on.ensures ∙ c.loop-eight.invariant
