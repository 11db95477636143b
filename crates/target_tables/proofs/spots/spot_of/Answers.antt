use Rattle.std.proofs.Common.{◌≡◌, ℕ, List, [], sym, subst, ◌∙◌}
use Rattle.std.proofs.lemmas.List.{get_or_default}
use Rattle.target_tables.specs.Places.{IsAt, IsGap}
use Rattle.target_tables.specs.Rising.{IsRising}
use Rattle.target_tables.specs.Pages.{page_at, FallsInto}
use Rattle.target_tables.proofs.Falling.{rises_there, stands, would_stand}
use Rattle.target_tables.proofs.spots.spot_of.Goals as goal

pub place_of-requires : goal.place_of-requires
place_of-requires g c =
    let falls : FallsInto g.K.Ord.cmp c.args.pages.now c.args.key.now c.page_of-page.result = c.page_of-page.ensures in
    let there : c.index-pages-page.result ≡ page_at c.args.pages.now c.page_of-page.result = c.index-pages-page.is ∙ get_or_default c.args.pages.now c.page_of-page.result _ [] falls.inside in
    subst (IsRising g.K.Ord.cmp) (sym (c.entries.ensures ∙ there)) (rises_there g.met.K.Ord.total c.args.key.now c.args.pages.now c.requires.rising c.requires.full c.page_of-page.result falls)

pub returns-in-Ok : goal.returns-in-Ok
returns-in-Ok g c =
    let falls : FallsInto g.K.Ord.cmp c.args.pages.now c.args.key.now c.page_of-page.result = c.page_of-page.ensures in
    let there : c.index-pages-page.result ≡ page_at c.args.pages.now c.page_of-page.result = c.index-pages-page.is ∙ get_or_default c.args.pages.now c.page_of-page.result _ [] falls.inside in
    let Q : (List (g.row.K.Denot × (ℕ × g.row.R.Denot))) → Type 0 = λ page. IsAt g.K.Ord.cmp page c.args.key.now c.in-Ok.place in
    stands g.met.K.Ord.total c.args.key.now c.args.pages.now c.requires.rising c.requires.full c.page_of-page.result falls c.in-Ok.place (subst Q (c.entries.ensures ∙ there) c.in-Ok.ensures)

pub returns-in-Err : goal.returns-in-Err
returns-in-Err g c =
    let falls : FallsInto g.K.Ord.cmp c.args.pages.now c.args.key.now c.page_of-page.result = c.page_of-page.ensures in
    let there : c.index-pages-page.result ≡ page_at c.args.pages.now c.page_of-page.result = c.index-pages-page.is ∙ get_or_default c.args.pages.now c.page_of-page.result _ [] falls.inside in
    let Q : (List (g.row.K.Denot × (ℕ × g.row.R.Denot))) → Type 0 = λ page. IsGap g.K.Ord.cmp page c.args.key.now c.in-Err.place in
    would_stand g.met.K.Ord.total c.args.key.now c.args.pages.now c.requires.rising c.requires.full c.page_of-page.result falls c.in-Err.place (subst Q (c.entries.ensures ∙ there) c.in-Err.ensures)
