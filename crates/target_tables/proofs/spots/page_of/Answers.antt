use Rattle.std.proofs.Common.{◌≡◌, ℕ, ◌+◌, ◌-◌, ◌/◌, ◌<◌, ◌≤◌, true, List, [], length, sym, ap, ◌∙◌, arith}
use Rattle.std.proofs.lemmas.List.{get_or_default}
use Rattle.target_tables.specs.Pages.{page_at, begins_past}
use Rattle.target_tables.proofs.Falling.{above_from}
use Rattle.target_tables.proofs.spots.page_of.Goals as goal

pub loop-high-preserved-then-is_past : goal.loop-high-preserved-then-is_past
loop-high-preserved-then-is_past g c =
    let m : ℕ = c.loop-high.low + (c.loop-high.high - c.loop-high.low) / 2 in
    let most : c.loop-high.high ≤ length c.args.pages.now = c.loop-high.invariant.inside in
    let inside : m < length c.args.pages.now = omega arith in
    let there : c.index-pages-middle.result ≡ page_at c.args.pages.now m = c.index-pages-middle.is ∙ get_or_default c.args.pages.now m _ [] inside in
    let past : begins_past g.K.Ord.cmp c.args.key.now (page_at c.args.pages.now m) ≡ true = ap (λ (page : (List (g.row.K.Denot × (ℕ × g.row.R.Denot)))). begins_past g.K.Ord.cmp c.args.key.now page) (sym there) ∙ sym c.if-is_past.ensures in
    record {
      some = omega arith;
      inside = omega arith;
      from = c.loop-high.invariant.from;
      later = above_from g.met.K.Ord.total c.args.key.now c.args.pages.now c.requires.rising c.requires.full m inside past;
    }
