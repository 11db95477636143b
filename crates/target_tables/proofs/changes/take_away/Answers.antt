use Rattle.std.proofs.Common.{◌≡◌, ℕ, List, get_or, sym, ap, subst, ◌∙◌}
use Rattle.target_tables.specs.Pages.{entries_of, flat, StandsAt, WouldStandAt}
use Rattle.target_tables.specs.Rising.{IsRising}
use Rattle.target_tables.specs.Contents.{value_at}
use Rattle.target_tables.proofs.Placed.{rising_removed, values_removed, values_left, values_none}
use Rattle.target_tables.proofs.changes.take_away.Goals as goal

pub returns-then-owner-stream-clause-rising : goal.returns-then-owner-stream-clause-rising
returns-then-owner-stream-clause-rising g c =
    let Q : (List (List (g.row.K.Denot × (ℕ × g.row.R.Denot)))) → Type 0 = λ l. StandsAt g.K.Ord.cmp l c.args.key c.in-Ok.spot.page c.in-Ok.spot.place in
    let at : StandsAt g.K.Ord.cmp c.args.pages.now.pages c.args.key c.in-Ok.spot.page c.in-Ok.spot.place = subst Q c.as_slice.ensures.pages c.in-Ok.ensures in
    let es : (List (g.row.K.Denot × (ℕ × g.row.R.Denot))) = entries_of c.args.pages.now.pages in
    let n : ℕ = flat c.args.pages.now.pages c.in-Ok.spot.page c.in-Ok.spot.place in
    let x : (g.row.K.Denot × (ℕ × g.row.R.Denot)) = c.entry_at-entry.result.now in
    let is : x ≡ get_or es n x = c.entry_at-entry.ensures ∙ ap (λ (l : (List (List (g.row.K.Denot × (ℕ × g.row.R.Denot))))). get_or (entries_of l) (flat l c.in-Ok.spot.page c.in-Ok.spot.place) x) c.as_slice-in-Ok.ensures.pages in
    subst (IsRising g.K.Ord.cmp) (sym c.take_out-key.ensures.entries) (rising_removed g.met.K.Ord.total es c.args.key n c.requires at.at x is)

pub returns-then-owner-stream-clause-values : goal.returns-then-owner-stream-clause-values
returns-then-owner-stream-clause-values g c =
    let Q : (List (List (g.row.K.Denot × (ℕ × g.row.R.Denot)))) → Type 0 = λ l. StandsAt g.K.Ord.cmp l c.args.key c.in-Ok.spot.page c.in-Ok.spot.place in
    let at : StandsAt g.K.Ord.cmp c.args.pages.now.pages c.args.key c.in-Ok.spot.page c.in-Ok.spot.place = subst Q c.as_slice.ensures.pages c.in-Ok.ensures in
    let es : (List (g.row.K.Denot × (ℕ × g.row.R.Denot))) = entries_of c.args.pages.now.pages in
    let n : ℕ = flat c.args.pages.now.pages c.in-Ok.spot.page c.in-Ok.spot.place in
    let x : (g.row.K.Denot × (ℕ × g.row.R.Denot)) = c.entry_at-entry.result.now in
    let is : x ≡ get_or es n x = c.entry_at-entry.ensures ∙ ap (λ (l : (List (List (g.row.K.Denot × (ℕ × g.row.R.Denot))))). get_or (entries_of l) (flat l c.in-Ok.spot.page c.in-Ok.spot.place) x) c.as_slice-in-Ok.ensures.pages in
    λ q. ap (λ (l : (List (g.row.K.Denot × (ℕ × g.row.R.Denot)))). value_at g.K.Ord.cmp l q) c.take_out-key.ensures.entries
    ∙ values_removed g.met.K.Ord.total es c.args.key n c.requires at.at x is c.args.stream c.if-owner-stream.true q

pub returns-else-owner-stream-clause-values : goal.returns-else-owner-stream-clause-values
returns-else-owner-stream-clause-values g c =
    let Q : (List (List (g.row.K.Denot × (ℕ × g.row.R.Denot)))) → Type 0 = λ l. StandsAt g.K.Ord.cmp l c.args.key c.in-Ok.spot.page c.in-Ok.spot.place in
    let at : StandsAt g.K.Ord.cmp c.args.pages.now.pages c.args.key c.in-Ok.spot.page c.in-Ok.spot.place = subst Q c.as_slice.ensures.pages c.in-Ok.ensures in
    let es : (List (g.row.K.Denot × (ℕ × g.row.R.Denot))) = entries_of c.args.pages.now.pages in
    let n : ℕ = flat c.args.pages.now.pages c.in-Ok.spot.page c.in-Ok.spot.place in
    let x : (g.row.K.Denot × (ℕ × g.row.R.Denot)) = c.entry_at-entry.result.now in
    let is : x ≡ get_or es n x = c.entry_at-entry.ensures ∙ ap (λ (l : (List (List (g.row.K.Denot × (ℕ × g.row.R.Denot))))). get_or (entries_of l) (flat l c.in-Ok.spot.page c.in-Ok.spot.place) x) c.as_slice-in-Ok.ensures.pages in
    values_left g.met.K.Ord.total es c.args.key n c.requires at.at x is c.args.stream c.if-owner-stream.false

pub returns-in-Err-clause-values : goal.returns-in-Err-clause-values
returns-in-Err-clause-values g c =
    let Q : (List (List (g.row.K.Denot × (ℕ × g.row.R.Denot)))) → Type 0 = λ l. WouldStandAt g.K.Ord.cmp l c.args.key c.in-Err.spot.page c.in-Err.spot.place in
    let at : WouldStandAt g.K.Ord.cmp c.args.pages.now.pages c.args.key c.in-Err.spot.page c.in-Err.spot.place = subst Q c.as_slice.ensures.pages c.in-Err.ensures in
    values_none g.met.K.Ord.total (entries_of c.args.pages.now.pages) c.args.key (flat c.args.pages.now.pages c.in-Err.spot.page c.in-Err.spot.place) c.requires at.gap c.args.stream
