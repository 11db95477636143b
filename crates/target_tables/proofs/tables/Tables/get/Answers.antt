use Rattle.std.proofs.Common.{◌≡◌, ℕ, List, get_or, sym, ap, subst, ◌∙◌}
use Rattle.std.proofs.lemmas.Cmp.{tied_itself}
use Rattle.target_tables.specs.Contents.{Contents, value_at}
use Rattle.target_tables.specs.Pages.{entries_of, flat, StandsAt, WouldStandAt}
use Rattle.target_tables.proofs.Placed.{found_there, none_here}
use Rattle.target_tables.proofs.tables.Tables.get.Goals as goal

pub returns-in-Ok : goal.returns-in-Ok
returns-in-Ok g c =
    let Q : (List (List (g.row.K.Denot × (ℕ × g.row.R.Denot)))) → Type 0 = λ l. StandsAt g.K.Ord.cmp l c.args.key.now c.in-Ok.spot.page c.in-Ok.spot.place in
    let at : StandsAt g.K.Ord.cmp c.self.inside.pages.pages c.args.key.now c.in-Ok.spot.page c.in-Ok.spot.place = subst Q c.as_slice-pages.ensures.pages c.in-Ok.ensures in
    let es : (List (g.row.K.Denot × (ℕ × g.row.R.Denot))) = entries_of c.self.inside.pages.pages in
    let n : ℕ = flat c.self.inside.pages.pages c.in-Ok.spot.page c.in-Ok.spot.place in
    let x : (g.row.K.Denot × (ℕ × g.row.R.Denot)) = c.entry_at-entry.result.now in
    let is : x ≡ get_or es n x = c.entry_at-entry.ensures ∙ ap (λ (l : (List (List (g.row.K.Denot × (ℕ × g.row.R.Denot))))). get_or (entries_of l) (flat l c.in-Ok.spot.page c.in-Ok.spot.place) x) c.as_slice-pages.ensures.pages in
    sym (found_there g.met.K.Ord.total es c.args.key.now n c.self.invariant at.at x is c.args.key.now (tied_itself g.met.K.Ord.total c.args.key.now))
    ∙ ap (λ (v : Contents g.row.K.Denot g.row.R.Denot). value_at g.K.Ord.cmp v.entries c.args.key.now) c.self.view_is

pub returns-in-Err : goal.returns-in-Err
returns-in-Err g c =
    let Q : (List (List (g.row.K.Denot × (ℕ × g.row.R.Denot)))) → Type 0 = λ l. WouldStandAt g.K.Ord.cmp l c.args.key.now c.in-Err.field-0.page c.in-Err.field-0.place in
    let at : WouldStandAt g.K.Ord.cmp c.self.inside.pages.pages c.args.key.now c.in-Err.field-0.page c.in-Err.field-0.place = subst Q c.as_slice-pages.ensures.pages c.in-Err.ensures in
    let es : (List (g.row.K.Denot × (ℕ × g.row.R.Denot))) = entries_of c.self.inside.pages.pages in
    let n : ℕ = flat c.self.inside.pages.pages c.in-Err.field-0.page c.in-Err.field-0.place in
    sym (none_here g.met.K.Ord.total es c.args.key.now n c.self.invariant at.gap) ∙ ap (λ (v : Contents g.row.K.Denot g.row.R.Denot). value_at g.K.Ord.cmp v.entries c.args.key.now) c.self.view_is
