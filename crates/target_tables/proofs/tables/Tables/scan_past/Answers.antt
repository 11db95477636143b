use Rattle.std.proofs.Common.{◌≡◌, ℕ, ◌+◌, List, drop, sym, ap, subst, ◌∙◌, arith}
use Rattle.target_tables.specs.Contents.{Contents, past_key}
use Rattle.target_tables.specs.Rising.{IsRising}
use Rattle.target_tables.specs.Pages.{entries_of, flat, StandsAt, WouldStandAt}
use Rattle.target_tables.proofs.Scanning.{past_place, past_gap}
use Rattle.target_tables.proofs.tables.Tables.scan_past.Goals as goal

pub returns-in-Ok-clause-entries : goal.returns-in-Ok-clause-entries
returns-in-Ok-clause-entries g c =
    let Q : (List (List (g.row.K.Denot × (ℕ × g.row.R.Denot)))) → Type 0 = λ l. StandsAt g.K.Ord.cmp l c.args.key.now c.in-Ok.spot.page c.in-Ok.spot.place in
    let at : StandsAt g.K.Ord.cmp c.self.inside.pages.pages c.args.key.now c.in-Ok.spot.page c.in-Ok.spot.place = subst Q c.as_slice-pages.ensures.pages c.in-Ok.ensures in
    let es : (List (g.row.K.Denot × (ℕ × g.row.R.Denot))) = entries_of c.self.inside.pages.pages in
    let n : ℕ = flat c.self.inside.pages.pages c.in-Ok.spot.page c.in-Ok.spot.place in
    c.scan_from.ensures
    ∙ ap (λ (l : (List (List (g.row.K.Denot × (ℕ × g.row.R.Denot))))). drop (flat l c.in-Ok.spot.page (c.in-Ok.spot.place + 1)) (entries_of l)) c.as_slice-pages.ensures.pages
    ∙ ap (λ m. drop m es) (let on : flat c.self.inside.pages.pages c.in-Ok.spot.page (c.in-Ok.spot.place + 1) ≡ n + 1 = omega arith in on)
    ∙ sym (past_place g.met.K.Ord.total es c.args.key.now n at.at)
    ∙ ap (λ (v : Contents g.row.K.Denot g.row.R.Denot). past_key g.K.Ord.cmp v.entries c.args.key.now) c.self.view_is

pub returns-in-Ok-clause-rising : goal.returns-in-Ok-clause-rising
returns-in-Ok-clause-rising g c = subst (λ (v : Contents g.row.K.Denot g.row.R.Denot). IsRising g.K.Ord.cmp v.entries) c.self.view_is c.self.invariant

pub returns-in-Err-clause-entries : goal.returns-in-Err-clause-entries
returns-in-Err-clause-entries g c =
    let Q : (List (List (g.row.K.Denot × (ℕ × g.row.R.Denot)))) → Type 0 = λ l. WouldStandAt g.K.Ord.cmp l c.args.key.now c.in-Err.spot.page c.in-Err.spot.place in
    let at : WouldStandAt g.K.Ord.cmp c.self.inside.pages.pages c.args.key.now c.in-Err.spot.page c.in-Err.spot.place = subst Q c.as_slice-pages.ensures.pages c.in-Err.ensures in
    let es : (List (g.row.K.Denot × (ℕ × g.row.R.Denot))) = entries_of c.self.inside.pages.pages in
    let n : ℕ = flat c.self.inside.pages.pages c.in-Err.spot.page c.in-Err.spot.place in
    c.scan_from-in-Err.ensures
    ∙ ap (λ (l : (List (List (g.row.K.Denot × (ℕ × g.row.R.Denot))))). drop (flat l c.in-Err.spot.page c.in-Err.spot.place) (entries_of l)) c.as_slice-pages.ensures.pages
    ∙ sym (past_gap g.met.K.Ord.total es c.args.key.now n at.gap)
    ∙ ap (λ (v : Contents g.row.K.Denot g.row.R.Denot). past_key g.K.Ord.cmp v.entries c.args.key.now) c.self.view_is

pub returns-in-Err-clause-rising : goal.returns-in-Err-clause-rising
returns-in-Err-clause-rising g c = subst (λ (v : Contents g.row.K.Denot g.row.R.Denot). IsRising g.K.Ord.cmp v.entries) c.self.view_is c.self.invariant
