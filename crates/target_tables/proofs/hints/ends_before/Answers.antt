use Rattle.std.proofs.Common.{◌≡◌, ℕ, ◌+◌, ◌<◌, true, List, [], length, sym, ap, ◌∙◌, arith}
use Rattle.std.proofs.lemmas.List.{get_or_default}
use Rattle.target_tables.specs.Pages.{page_at, begins_past}
use Rattle.target_tables.proofs.Falling.{above_from}
use Rattle.target_tables.proofs.hints.ends_before.Goals as goal

pub returns : goal.returns
returns g c = λ h.
    let pages : List (List (g.row.K.Denot × (ℕ × g.row.R.Denot))) = c.args.pages.now in
    let next : c.args.page + 1 < length pages = omega arith in
    let there : c.index-pages-page.result ≡ page_at pages (c.args.page + 1) = c.index-pages-page.is ∙ get_or_default pages (c.args.page + 1) _ [] next in
    let past : begins_past g.K.Ord.cmp c.args.key.now (page_at pages (c.args.page + 1)) ≡ true =
    ap (λ (page : List (g.row.K.Denot × (ℕ × g.row.R.Denot))). begins_past g.K.Ord.cmp c.args.key.now page) (sym there) ∙ sym c.is_past.ensures ∙ h in
    above_from g.met.K.Ord.total c.args.key.now pages c.requires.rising c.requires.full (c.args.page + 1) next past
