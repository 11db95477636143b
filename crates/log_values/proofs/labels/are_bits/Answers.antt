use Rattle.std.proofs.Common.{◌≡◌, ℕ, suc, ◌+◌, ◌-◌, eqb, length, sym, ap, ◌∙◌, arith}
use Rattle.log_values.proofs.LabelLaws.{bits_more, bits_none}
use Rattle.log_values.proofs.labels.are_bits.Goals as goal

pub loop-preserved : goal.loop-preserved
loop-preserved c =
    let n = length c.args.labels.now - c.loop.counter in
    let k = length c.args.labels.now - (c.loop.counter + 1) in
    let one : n ≡ suc k = omega arith in
    bits_more n k c.loop.left one ∙ c.loop.invariant

pub returns : goal.returns
returns c =
    let n = length c.args.labels.now - c.loop.counter in
    let none : n ≡ 0 = omega arith in
    ap (λ (x : ℕ). eqb x 0) (sym (bits_none n c.loop.left none) ∙ c.loop.invariant)
