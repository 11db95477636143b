use Rattle.std.proofs.Common.{ℕ, ◌+◌, ◌-◌, ◌/◌, ◌<◌, ◌∙◌, ap, sym, length, arith}
use Rattle.pk_copy.specs.KeyOrder.{key_cmp}
use Rattle.pk_copy.specs.KeyOrderLaws.{key_cmp_total}
use Rattle.target_tables.proofs.Seeking.{below_read, above_read, at_read}
use Rattle.dump.proofs.places.place_of.Goals as goal

pub loop-low-preserved-in-Less : goal.loop-low-preserved-in-Less
loop-low-preserved-in-Less c =
    let m : ℕ = c.loop-low.low + (c.loop-low.high - c.loop-low.low) / 2 in
    let inside : m < length c.args.pairs.now = omega arith in
    let less = ap (λ k. key_cmp k c.args.key.now) (sym c.view.ensures) ∙ sym c.cmp.ensures ∙ c.in-Less.is in
    (omega arith, c.loop-low.invariant.1, below_read key_cmp_total c.args.pairs.now m _ inside c.requires c.args.key.now less, c.loop-low.invariant.3)

pub returns-in-Equal : goal.returns-in-Equal
returns-in-Equal c =
    let m : ℕ = c.loop-low.low + (c.loop-low.high - c.loop-low.low) / 2 in
    let inside : m < length c.args.pairs.now = omega arith in
    let equal = ap (λ k. key_cmp k c.args.key.now) (sym c.view.ensures) ∙ sym c.cmp.ensures ∙ c.in-Equal.is in
    at_read key_cmp_total c.args.pairs.now m _ inside c.requires c.args.key.now equal

pub loop-low-preserved : goal.loop-low-preserved
loop-low-preserved c =
    let m : ℕ = c.loop-low.low + (c.loop-low.high - c.loop-low.low) / 2 in
    let inside : m < length c.args.pairs.now = omega arith in
    let greater = ap (λ k. key_cmp k c.args.key.now) (sym c.view.ensures) ∙ sym c.cmp.ensures ∙ c.in-Greater.is in
    (omega arith, omega arith, c.loop-low.invariant.2, above_read key_cmp_total c.args.pairs.now m _ inside c.requires c.args.key.now greater)
