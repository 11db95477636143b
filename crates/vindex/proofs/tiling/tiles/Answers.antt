use Rattle.std.proofs.Common.{◌≡◌, ◌+◌, ◌↔◌, Some, drop, take, true, refl, sym, subst}
use Rattle.std.proofs.lemmas.List.{take_all}
use Rattle.std.specs.Option.{option_copied}
use Rattle.vindex.specs.Tiling.{Tiles}
use Rattle.vindex.proofs.TilingLemmas.{MeetFrom, SplitsAllIds-from_Tiles, meets-step, meets-start, meets-end, ordered-more, is_open}
use Rattle.vindex.proofs.tiling.tiles.Goals as goal

pub loop-range-init : goal.loop-range-init
loop-range-init c = ((λ h. h, λ h. h), refl)

pub returns-then-not-meets-clause-exact : goal.returns-then-not-meets-clause-exact
returns-then-not-meets-clause-exact c = (
  λ h. cc,
  λ tiles.
      let start = meets-start c.args.ranges.now c.loop-range.range-index c.range-item.result (option_copied c.loop-range.covered) c.loop-range-test.true c.range-item.is c.loop-range.invariant.0 tiles in
      let met : c.meets.result ≡ true = c.meets.ensures.1 start in
      cc,
)

pub loop-range-preserved : goal.loop-range-preserved
loop-range-preserved c =
    let start : option_copied c.loop-range.covered ≡ Some c.range-item.result.start = c.meets.ensures.0 c.if-not-meets.false in
    let step = meets-step c.args.ranges.now c.loop-range.range-index c.range-item.result (option_copied c.loop-range.covered) c.loop-range-test.true c.range-item.is start c.loop-range.invariant.0 in (
      subst (λ end. MeetFrom end (drop (c.loop-range.range-index + 1) c.args.ranges.now) ↔ Tiles c.args.ranges.now) (sym c.end-covered.ensures.end) step,
      ordered-more c.args.ranges.now c.loop-range.range-index c.range-item.result c.loop-range-test.true c.range-item.is c.end-covered.ensures.ordered c.loop-range.invariant.1,
    )

pub returns-clause-exact : goal.returns-clause-exact
returns-clause-exact c =
    let none = is_open c.loop-range.covered c.is_none.result c.is_none.ensures in
    let end = meets-end c.args.ranges.now c.loop-range.range-index (option_copied c.loop-range.covered) c.loop-range-test.false c.loop-range.invariant.0 in
    (λ h. end.0 (none.0 h), λ tiles. none.1 (end.1 tiles))

pub returns-clause-each_id_in_one_range : goal.returns-clause-each_id_in_one_range
returns-clause-each_id_in_one_range c = λ h.
    let none = is_open c.loop-range.covered c.is_none.result c.is_none.ensures in
    let end = meets-end c.args.ranges.now c.loop-range.range-index (option_copied c.loop-range.covered) c.loop-range-test.false c.loop-range.invariant.0 in
    let all : take c.loop-range.range-index c.args.ranges.now ≡ c.args.ranges.now = take_all c.loop-range.range-index c.args.ranges.now c.loop-range-test.false in
    SplitsAllIds-from_Tiles c.args.ranges.now (rw all at c.loop-range.invariant.1) (end.0 (none.0 h))
