use Rattle.std.proofs.Common.{◌≡◌, ◌+◌, ◌<◌, true, false, sym, ◌∙◌, ap, arith, length, subst}
use Rattle.std.proofs.lemmas.List.{get_or_default}
use Rattle.gtid_set.specs.declared.interval.Interval.{Interval}
use Rattle.gtid_set.specs.Position.{ends_before}
use Rattle.gtid_set.specs.Inner.Order.{wider}
use Rattle.gtid_set.proofs.Added.{set-widened, set-merged}
use Rattle.gtid_set.proofs.add.widen_among.Goals as goal
use Rattle.gtid_set.proofs.add.widen_among.Goals.{then-place-len+else-not-ends_before, else-place-len}

pub returns-then-not-ends_before : goal.returns-then-not-ends_before
returns-then-not-ends_before c =
    let s = c.args.set.now.items in
    let inside : c.args.place + 1 < length s = omega (arith, c.args.set.now.ok.0, c.len.ensures) in
    let x : Interval = c.index.result.now in
    let y : Interval = c.index-then-place-len.result.now in
    let not_ends : ends_before (wider x c.args.number) y ≡ false = ap (λ (i : Interval). ends_before i y) (sym c.wider-wide.ensures) ∙ cc in
    rw (c.remove.ensures.items, c.wider-wide.ensures) (set-merged s c.args.place c.args.number x y inside c.index.ensures c.index-then-place-len.ensures not_ends)

pub returns : goal.returns
returns c =
    let s = c.args.set.now.items in
    let x : Interval = c.index.result.now in
    rw c.wider-wide.ensures (set-widened s c.args.place c.args.number x (omega (arith, c.args.set.now.ok.0, c.requires.inside)) c.index.ensures (λ lt d.
    elim c.if-place-len.branch [
      | then-place-len+else-not-ends_before w ↦
          let y : Interval = w.index-then-place-len.result.now in
          let ends : ends_before (wider x c.args.number) y ≡ true = ap (λ (i : Interval). ends_before i y) (sym c.wider-wide.ensures) ∙ cc in
          let y-is = w.index-then-place-len.ensures ∙ get_or_default s (c.args.place + 1) y d lt in
          subst (λ (i : Interval). ends_before (wider x c.args.number) i ≡ true) y-is ends
      | else-place-len w ↦ absurd (omega (arith, c.args.set.now.ok.0, c.len.ensures))
    ]))
