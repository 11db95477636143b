use Rattle.std.proofs.Common.{◌≡◌, ℕ, ◌+◌, ◌<◌, true, List, [], length, sym, ap, ◌∙◌, arith}
use Rattle.std.proofs.lemmas.List.{get_or_default}
use Rattle.target_tables.specs.Pages.{page_at, begins_past}
use Rattle.target_tables.proofs.Falling.{above_from}
use Rattle.target_tables.proofs.spots.span_near.Goals as goal

pub returns-then-is_past-2 : goal.returns-then-is_past-2
returns-then-is_past-2 g c =
    let all : List (List (g.row.K.Denot × (ℕ × g.row.R.Denot))) = c.args.pages.now in
    let inside : c.args.near < length all = omega arith in
    let next : c.args.near + 1 < length all = omega arith in
    let here : c.index-pages-near.result ≡ page_at all c.args.near = c.index-pages-near.is ∙ get_or_default all c.args.near _ [] inside in
    let there : c.index-pages-near-then-near-all-2.result ≡ page_at all (c.args.near + 1) = c.index-pages-near-then-near-all-2.is ∙ get_or_default all (c.args.near + 1) _ [] next in
    let past : begins_past g.K.Ord.cmp c.args.key.now (page_at all (c.args.near + 1)) ≡ true = ap (λ (page : List (g.row.K.Denot × (ℕ × g.row.R.Denot))). begins_past g.K.Ord.cmp c.args.key.now page) (sym there) ∙ sym c.if-is_past-2.ensures in
    record {
      some = omega arith;
      inside = omega arith;
      from = λ positive. ap (λ (page : List (g.row.K.Denot × (ℕ × g.row.R.Denot))). begins_past g.K.Ord.cmp c.args.key.now page) (sym here) ∙ sym c.if-is_past.ensures;
      later = above_from g.met.K.Ord.total c.args.key.now all c.requires.rising c.requires.full (c.args.near + 1) next past;
    }
