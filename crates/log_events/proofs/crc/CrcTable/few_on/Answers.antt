use Rattle.std.proofs.Common.{◌≡◌, ℕ, ◌+◌, ◌/◌, drop, sym, ap, ◌∙◌}
use Rattle.std.specs.Prelude.{bit_xor}
use Rattle.std.proofs.lemmas.List.{drop_all}
use Rattle.log_events.specs.Crc.{crc_byte, crc_from}
use Rattle.log_events.proofs.CrcLaws.{by_table, crc_turn, crc_from-none}
use Rattle.log_events.proofs.crc.CrcTable.few_on.Goals as goal

pub loop-byte-preserved : goal.loop-byte-preserved
loop-byte-preserved c =
    let sum = c.loop-byte.sum in
    let b = c.from.result in
    let new_is : bit_xor c.entry.result (sum / 256) ≡ crc_byte sum b = by_table c.entry.result sum b c.entry.ensures in
    let rest = drop (c.loop-byte.byte-index + 1) c.args.bytes.now in
    ap (λ (s : ℕ). crc_from s rest) new_is ∙ sym (crc_turn c.args.bytes.now c.loop-byte.byte-index sum b c.loop-byte-test.true c.from.ensures) ∙ c.loop-byte.invariant

pub returns : goal.returns
returns c =
    let sum = c.loop-byte.sum in
    sym (crc_from-none sum) ∙ ap (crc_from sum) (sym (drop_all c.loop-byte.byte-index c.args.bytes.now c.loop-byte-test.false)) ∙ c.loop-byte.invariant
