use Rattle.std.proofs.Common.{ap₂, ◌∙◌, arith}
use Rattle.std.specs.Prelude.{bit_xor}
use Rattle.log_events.proofs.CrcLaws.{eight_told}
use Rattle.log_events.proofs.crc.CrcTable.eight_on.Goals as goal

pub returns : goal.returns
returns c =
    ap₂ bit_xor c.four_ahead-first_four.ensures c.four_ahead.ensures
    ∙ eight_told c.args.sum c.args.bytes.now c.from.result c.from-2.result c.from-3.result c.from-4.result c.from-5.result c.from-6.result c.from-7.result c.from-8.result
    (omega (arith, c.ranges.sum.fits)) c.told-bytes c.fits-bytes
    c.from.ensures c.from-2.ensures c.from-3.ensures c.from-4.ensures c.from-5.ensures c.from-6.ensures c.from-7.ensures c.from-8.ensures
