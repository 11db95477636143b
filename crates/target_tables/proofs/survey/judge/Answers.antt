use Rattle.std.proofs.Common.{◌≡◌, ℕ, true, not, List, get_or, ap, ◌∙◌, sym}
use Rattle.std.specs.Prelude.{is_some}
use Rattle.target_tables.specs.Pages.{entries_of, flat, StandsAt}
use Rattle.target_tables.specs.declared.survey.ChangeVerdict.TheVariants.{Foreign}
use Rattle.target_tables.proofs.Judging.{verdict_new, judged_own, judged_other}
use Rattle.target_tables.proofs.Placed.{none_here}
use Rattle.target_tables.proofs.survey.judge.Goals as goal

pub returns-in-Err : goal.returns-in-Err
returns-in-Err g c =
    let some : is_some c.args.change.now.1 ≡ true = c.is_none.ensures ∙ ap not c.if-is_none.false in
    verdict_new c.args.stream c.args.change.now.1 _ some (none_here g.met.K.Ord.total (entries_of c.args.pages.now) c.args.change.now.0 (flat c.args.pages.now c.in-Err.field-0.page c.in-Err.field-0.place) c.requires.rising c.in-Err.ensures.gap)

pub returns-then-owner-stream : goal.returns-then-owner-stream
returns-then-owner-stream g c =
    let some : is_some c.args.change.now.1 ≡ true = c.is_none.ensures ∙ ap not c.if-is_none.false in
    let at : StandsAt g.K.Ord.cmp c.args.pages.now c.args.change.now.0 c.in-Ok.spot.page c.in-Ok.spot.place = c.in-Ok.ensures in
    let es : (List (g.row.K.Denot × (ℕ × g.row.R.Denot))) = entries_of c.args.pages.now in
    let n : ℕ = flat c.args.pages.now c.in-Ok.spot.page c.in-Ok.spot.place in
    let x : (g.row.K.Denot × (ℕ × g.row.R.Denot)) = c.entry_at-entry.result.now in
    let is : x ≡ get_or es n x = c.entry_at-entry.ensures in
    judged_own g.met.K.Ord.total es c.args.change.now.0 n c.requires.rising at.at x c.args.stream c.args.change.now.1 some (ap (λ (e : (g.row.K.Denot × (ℕ × g.row.R.Denot))). e.1.0) (sym is) ∙ c.if-owner-stream.true)

pub returns-else-owner-stream : goal.returns-else-owner-stream
returns-else-owner-stream g c =
    let some : is_some c.args.change.now.1 ≡ true = c.is_none.ensures ∙ ap not c.if-is_none.false in
    let at : StandsAt g.K.Ord.cmp c.args.pages.now c.args.change.now.0 c.in-Ok.spot.page c.in-Ok.spot.place = c.in-Ok.ensures in
    let es : (List (g.row.K.Denot × (ℕ × g.row.R.Denot))) = entries_of c.args.pages.now in
    let n : ℕ = flat c.args.pages.now c.in-Ok.spot.page c.in-Ok.spot.place in
    let x : (g.row.K.Denot × (ℕ × g.row.R.Denot)) = c.entry_at-entry.result.now in
    let is : x ≡ get_or es n x = c.entry_at-entry.ensures in
    ap Foreign (ap (λ (e : (g.row.K.Denot × (ℕ × g.row.R.Denot))). e.1.0) is)
    ∙ judged_other g.met.K.Ord.total es c.args.change.now.0 n c.requires.rising at.at x c.args.stream c.args.change.now.1 some (λ e. c.if-owner-stream.false (ap (λ (y : (g.row.K.Denot × (ℕ × g.row.R.Denot))). y.1.0) is ∙ e))
