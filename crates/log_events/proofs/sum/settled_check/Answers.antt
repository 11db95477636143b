use Rattle.std.proofs.Common.{ℕ, ◌≤◌, length, length-drop, refl, sym, ap, ◌∙◌, arith}
use Rattle.log_events.specs.Crc.{crc_from, crc32}
use Rattle.log_events.proofs.CrcLaws.{settled-other, settled-short, checked_in_parts}
use Rattle.log_events.proofs.sum.settled_check.Goals as goal

pub returns-then-number_at-ne-FORMAT_DESCRIPTION : goal.returns-then-number_at-ne-FORMAT_DESCRIPTION
returns-then-number_at-ne-FORMAT_DESCRIPTION c =
    c.check_of.ensures ∙ ap crc32 (sym (settled-other c.args.bytes.now (λ e. c.if-number_at-ne-FORMAT_DESCRIPTION.true (c.number_at.ensures.value ∙ e))))

pub returns : goal.returns
returns c =
    let ones : ℕ = 0xffffffff in
    checked_in_parts c.args.bytes.now c.in-Some.others.now c.in-Some.flags.now ones c.go_on-head_sum.result c.go_on-flags_sum.result c.go_on.result refl
    (sym c.number_at.ensures.value ∙ c.if-number_at-ne-FORMAT_DESCRIPTION.false) (sym c.behind.ensures ∙ c.in-Some.ensures.cases.0)
    (c.go_on-head_sum.ensures ∙ ap (crc_from ones) c.split_at.ensures.front) c.go_on-flags_sum.ensures c.go_on.ensures

pub returns-in_default : goal.returns-in_default
returns-in_default c =
    let bytes = c.args.bytes.now in
    let short : length bytes ≤ 17 = omega (arith, length-drop 17 bytes, ap length c.behind.ensures, c.in_default.ensures.cases) in
    c.check_of-in_default.ensures ∙ ap crc32 (sym (settled-short bytes (sym c.number_at.ensures.value ∙ c.if-number_at-ne-FORMAT_DESCRIPTION.false) short))
