use Rattle.std.proofs.Common.{◌≡◌, ℕ, ◌+◌, ◌<◌, List, [], ◌∷◌, length, set, ap, ◌∙◌, arith}
use Rattle.std.proofs.lemmas.List.{length-set}
use Rattle.std.proofs.lemmas.List.Edits.{length-insert}
use Rattle.std.specs.List.{insert}
use Rattle.target_tables.specs.Pages.{entries_of, page_at}
use Rattle.target_tables.proofs.Rooms.{length_split}
use Rattle.target_tables.proofs.Splitting.{begun, lower_length, into_lower}
use Rattle.target_tables.proofs.changes.put_on.Goals as goal

pub returns-then-place-eq-FULL-clause-entries : goal.returns-then-place-eq-FULL-clause-entries
returns-then-place-eq-FULL-clause-entries g c =
    ap (λ (l : List (List (g.row.K.Denot × (ℕ × g.row.R.Denot)))). entries_of l) c.begin.ensures.pages ∙ begun c.args.pages.now.pages c.args.spot.page c.requires.inside c.requires.full c.args.spot.place c.args.entry (omega arith)

pub returns-then-place-eq-FULL-clause-count : goal.returns-then-place-eq-FULL-clause-count
returns-then-place-eq-FULL-clause-count g c =
    ap (λ (l : List (List (g.row.K.Denot × (ℕ × g.row.R.Denot)))). length l) c.begin.ensures.pages ∙ length-insert c.args.pages.now.pages (c.args.spot.page + 1) (c.args.entry ∷ []) (let inside : c.args.spot.page < length c.args.pages.now.pages = c.requires.inside in omega arith)

pub put_in-requires-clause-within : goal.put_in-requires-clause-within
put_in-requires-clause-within g c =
    let less : c.args.spot.place < 128 = omega arith in
    let lower : length (page_at c.split.new.self.pages c.args.spot.page) ≡ c.args.spot.place = ap (λ (l : List (List (g.row.K.Denot × (ℕ × g.row.R.Denot)))). length (page_at l c.args.spot.page)) c.split.ensures.pages ∙ lower_length c.args.pages.now.pages c.args.spot.page c.requires.inside c.requires.full c.args.spot.place c.requires.some less in
    omega arith

pub put_in-requires-clause-room : goal.put_in-requires-clause-room
put_in-requires-clause-room g c =
    let less : c.args.spot.place < 128 = omega arith in
    let lower : length (page_at c.split.new.self.pages c.args.spot.page) ≡ c.args.spot.place = ap (λ (l : List (List (g.row.K.Denot × (ℕ × g.row.R.Denot)))). length (page_at l c.args.spot.page)) c.split.ensures.pages ∙ lower_length c.args.pages.now.pages c.args.spot.page c.requires.inside c.requires.full c.args.spot.place c.requires.some less in
    omega arith

pub returns-clause-entries : goal.returns-clause-entries
returns-clause-entries g c =
    let less : c.args.spot.place < 128 = omega arith in
    ap (λ (l : List (List (g.row.K.Denot × (ℕ × g.row.R.Denot)))). entries_of l) (c.put_in.ensures.pages ∙ ap (λ (l : List (List (g.row.K.Denot × (ℕ × g.row.R.Denot)))). set l c.args.spot.page (insert (page_at l c.args.spot.page) c.args.spot.place c.args.entry)) c.split.ensures.pages)
    ∙ into_lower c.args.pages.now.pages c.args.spot.page c.requires.inside c.requires.full c.args.spot.place c.requires.some less c.args.spot.place c.args.entry (omega arith)

pub returns-clause-count : goal.returns-clause-count
returns-clause-count g c =
    let less : c.args.spot.place < 128 = omega arith in
    let page : List (g.row.K.Denot × (ℕ × g.row.R.Denot)) = insert (page_at c.split.new.self.pages c.args.spot.page) c.args.spot.place c.args.entry in
    ap (λ (l : List (List (g.row.K.Denot × (ℕ × g.row.R.Denot)))). length l) c.put_in.ensures.pages
    ∙ length-set c.split.new.self.pages c.args.spot.page page
    ∙ ap (λ (l : List (List (g.row.K.Denot × (ℕ × g.row.R.Denot)))). length l) c.split.ensures.pages
    ∙ length_split c.args.pages.now.pages c.args.spot.page c.requires.inside c.requires.full c.args.spot.place c.requires.some less
