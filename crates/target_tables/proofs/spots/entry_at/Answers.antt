use Rattle.std.proofs.Common.{◌≡◌, [], ◌∙◌}
use Rattle.std.proofs.lemmas.List.{get_or_default}
use Rattle.target_tables.specs.Pages.{page_at}
use Rattle.target_tables.proofs.Splitting.{entry_read}
use Rattle.target_tables.proofs.spots.entry_at.Goals as goal

pub returns : goal.returns
returns g c =
    let page : c.entries.result.now ≡ page_at c.args.pages.now c.args.spot.page = c.entries.ensures ∙ c.index-pages-page.is ∙ get_or_default c.args.pages.now c.args.spot.page _ [] c.requires.inside in
    entry_read c.args.pages.now c.args.spot.page c.requires.inside c.args.spot.place c.entries.result.now c.index-entries-place.result c.requires.within page c.index-entries-place.is
