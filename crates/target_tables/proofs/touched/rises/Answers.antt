use Rattle.std.proofs.Common.{◌≡◌, ◌<◌, Option, length, get_or, sym, ap, ◌∙◌, arith}
use Rattle.std.specs.declared.cmp.Ordering.TheVariants.{Less}
use Rattle.target_tables.proofs.Turning.{rises_more, only_less}
use Rattle.target_tables.proofs.touched.rises.Goals as goal

pub loop-next-preserved : goal.loop-next-preserved
loop-next-preserved g c =
    let inside : c.loop-next.next < length c.args.touches.now = omega arith in
    let here : c.cmp.result ≡ g.K.Ord.cmp c.index-touches-next.result.0 c.index-touches-next-in-loop-next.result.0 =
    c.cmp.ensures
    ∙ ap (λ (a : g.row.K.Denot × Option g.row.R.Denot). g.K.Ord.cmp a.0 (get_or c.args.touches.now c.loop-next.next c.index-touches-next-in-loop-next.result).0) (sym c.index-touches-next.is)
    ∙ ap (λ (b : g.row.K.Denot × Option g.row.R.Denot). g.K.Ord.cmp c.index-touches-next.result.0 b.0) (sym c.index-touches-next-in-loop-next.is) in
    let less : g.K.Ord.cmp c.index-touches-next.result.0 c.index-touches-next-in-loop-next.result.0 ≡ Less = sym here ∙ only_less c.cmp.result (sym c.is_lt.ensures ∙ c.if-not-is_lt.false) in
    (omega arith, rises_more g.met.K.Ord.total c.args.touches.now c.loop-next.next c.index-touches-next.result c.index-touches-next-in-loop-next.result c.loop-next.invariant.0 inside c.index-touches-next.is c.index-touches-next-in-loop-next.is c.loop-next.invariant.1 less)
