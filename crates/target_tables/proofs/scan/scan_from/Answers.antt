use Rattle.std.proofs.Common.{◌≡◌, ℕ, ◌+◌, ◌-◌, ◌<◌, List, [], ◌++◌, length, take, drop, sym, ap, ◌∙◌, arith}
use Rattle.std.proofs.lemmas.List.{get_or_default, take_rest}
use Rattle.target_tables.specs.Pages.{entries_of, page_at}
use Rattle.target_tables.proofs.Paging.{rest}
use Rattle.target_tables.proofs.scan.scan_from.Goals as goal

pub returns : goal.returns
returns g c =
    let pages : (List (List (g.row.K.Denot × (ℕ × g.row.R.Denot)))) = c.args.pages.now in
    let i : ℕ = c.args.spot.page in
    let p : ℕ = c.args.spot.place in
    let inside : i < length pages = omega arith in
    let page : c.entries.result.now ≡ page_at pages i = c.entries.ensures ∙ c.index-pages-page.is ∙ get_or_default pages i _ [] inside in
    c.new-2.ensures
    ∙ ap (λ (l : (List (g.row.K.Denot × (ℕ × g.row.R.Denot)))). l ++ entries_of (take (length pages - (i + 1)) (drop (i + 1) pages))) (take_rest c.entries.result.now p ∙ ap (λ (l : (List (g.row.K.Denot × (ℕ × g.row.R.Denot)))). drop p l) page)
    ∙ ap (λ (l : (List (List (g.row.K.Denot × (ℕ × g.row.R.Denot))))). drop p (page_at pages i) ++ entries_of l) (take_rest pages (i + 1))
    ∙ sym (rest pages i inside p c.requires.within)
