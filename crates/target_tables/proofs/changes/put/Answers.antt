use Rattle.std.proofs.Common.{◌≡◌, ℕ, ◌+◌, ◌≤◌, cond, List, Option, Some, None, get_or, set, length, sym, ap, subst, ◌∙◌, arith}
use Rattle.std.proofs.lemmas.List.{get_or_default, length-set}
use Rattle.target_tables.specs.Pages.{entries_of, page_at, flat, room_of, StandsAt, WouldStandAt}
use Rattle.target_tables.specs.Rising.{IsRising}
use Rattle.target_tables.specs.Contents.{value_at}
use Rattle.target_tables.specs.Touches.{is_new}
use Rattle.target_tables.proofs.Placed.{rising_put, values_put, rising_inserted, values_inserted, none_here}
use Rattle.target_tables.proofs.Paging.{put_over}
use Rattle.target_tables.proofs.Rooms.{room_set}
use Rattle.target_tables.proofs.Splitting.{room_as}
use Rattle.target_tables.proofs.changes.put.Goals as goal

pub returns-in-Ok-clause-rising : goal.returns-in-Ok-clause-rising
returns-in-Ok-clause-rising g c =
    let Q : (List (List (g.row.K.Denot × (ℕ × g.row.R.Denot)))) → Type 0 = λ l. StandsAt g.K.Ord.cmp l c.args.key c.in-Ok.spot.page c.in-Ok.spot.place in
    let at : StandsAt g.K.Ord.cmp c.args.pages.now.pages c.args.key c.in-Ok.spot.page c.in-Ok.spot.place = subst Q c.as_slice.ensures.pages c.in-Ok.ensures in
    let es : (List (g.row.K.Denot × (ℕ × g.row.R.Denot))) = entries_of c.args.pages.now.pages in
    let n : ℕ = flat c.args.pages.now.pages c.in-Ok.spot.page c.in-Ok.spot.place in
    let d : (g.row.K.Denot × (ℕ × g.row.R.Denot)) = (c.args.key, (c.args.stream, c.args.row)) in
    let same : entries_of c.put_over-key.new.self.pages ≡ set es n d = ap (λ (l : (List (List (g.row.K.Denot × (ℕ × g.row.R.Denot))))). entries_of l) c.put_over-key.ensures.pages ∙ put_over c.args.pages.now.pages c.in-Ok.spot.page at.falls.inside c.in-Ok.spot.place at.within d in
    subst (IsRising g.K.Ord.cmp) (sym same) (rising_put g.met.K.Ord.total es c.args.key n c.requires.rising at.at (get_or es n d) (get_or_default es n d _ at.at.inside) (c.args.stream, c.args.row))

pub returns-in-Ok-clause-values : goal.returns-in-Ok-clause-values
returns-in-Ok-clause-values g c =
    let Q : (List (List (g.row.K.Denot × (ℕ × g.row.R.Denot)))) → Type 0 = λ l. StandsAt g.K.Ord.cmp l c.args.key c.in-Ok.spot.page c.in-Ok.spot.place in
    let at : StandsAt g.K.Ord.cmp c.args.pages.now.pages c.args.key c.in-Ok.spot.page c.in-Ok.spot.place = subst Q c.as_slice.ensures.pages c.in-Ok.ensures in
    let es : (List (g.row.K.Denot × (ℕ × g.row.R.Denot))) = entries_of c.args.pages.now.pages in
    let n : ℕ = flat c.args.pages.now.pages c.in-Ok.spot.page c.in-Ok.spot.place in
    let d : (g.row.K.Denot × (ℕ × g.row.R.Denot)) = (c.args.key, (c.args.stream, c.args.row)) in
    let same : entries_of c.put_over-key.new.self.pages ≡ set es n d = ap (λ (l : (List (List (g.row.K.Denot × (ℕ × g.row.R.Denot))))). entries_of l) c.put_over-key.ensures.pages ∙ put_over c.args.pages.now.pages c.in-Ok.spot.page at.falls.inside c.in-Ok.spot.place at.within d in
    λ q. ap (λ (l : (List (g.row.K.Denot × (ℕ × g.row.R.Denot)))). value_at g.K.Ord.cmp l q) same
    ∙ values_put g.met.K.Ord.total es c.args.key n c.requires.rising at.at (get_or es n d) (get_or_default es n d _ at.at.inside) (c.args.stream, c.args.row) q

pub returns-in-Ok-clause-room : goal.returns-in-Ok-clause-room
returns-in-Ok-clause-room g c = λ m few h.
    let Q : (List (List (g.row.K.Denot × (ℕ × g.row.R.Denot)))) → Type 0 = λ l. StandsAt g.K.Ord.cmp l c.args.key c.in-Ok.spot.page c.in-Ok.spot.place in
    let at : StandsAt g.K.Ord.cmp c.args.pages.now.pages c.args.key c.in-Ok.spot.page c.in-Ok.spot.place = subst Q c.as_slice.ensures.pages c.in-Ok.ensures in
    let d : (g.row.K.Denot × (ℕ × g.row.R.Denot)) = (c.args.key, (c.args.stream, c.args.row)) in
    let page : (List (g.row.K.Denot × (ℕ × g.row.R.Denot))) = page_at c.args.pages.now.pages c.in-Ok.spot.page in
    let long : length (set page c.in-Ok.spot.place d) ≡ length page = length-set page c.in-Ok.spot.place d in
    let kept : room_of c.args.pages.now.pages c.args.pages.now.spares ≤ room_of (set c.args.pages.now.pages c.in-Ok.spot.page (set page c.in-Ok.spot.place d)) c.args.pages.now.spares =
    room_set c.args.pages.now.pages c.in-Ok.spot.page at.falls.inside (set page c.in-Ok.spot.place d) (omega arith) c.args.pages.now.spares in
    room_as c.put_over-key.new.self.pages (set c.args.pages.now.pages c.in-Ok.spot.page (set page c.in-Ok.spot.place d)) c.put_over-key.new.self.spares c.args.pages.now.spares m c.put_over-key.ensures.pages c.put_over-key.ensures.spares (omega arith)

pub put_new-requires-clause-room : goal.put_new-requires-clause-room
put_new-requires-clause-room g c =
    let Q : (List (List (g.row.K.Denot × (ℕ × g.row.R.Denot)))) → Type 0 = λ l. WouldStandAt g.K.Ord.cmp l c.args.key c.in-Err.spot.page c.in-Err.spot.place in
    let at : WouldStandAt g.K.Ord.cmp c.args.pages.now.pages c.args.key c.in-Err.spot.page c.in-Err.spot.place = subst Q c.as_slice.ensures.pages c.in-Err.ensures in
    let es : (List (g.row.K.Denot × (ℕ × g.row.R.Denot))) = entries_of c.args.pages.now.pages in
    let n : ℕ = flat c.args.pages.now.pages c.in-Err.spot.page c.in-Err.spot.place in
    let v : value_at g.K.Ord.cmp es c.args.key ≡ None = none_here g.met.K.Ord.total es c.args.key n c.requires.rising at.gap in
    let S : Option (ℕ × g.row.R.Denot) → Type 0 = λ there. cond (is_new (Some c.args.row) there) 1 0 ≤ room_of c.args.pages.now.pages c.args.pages.now.spares in
    subst S v c.requires.room

pub returns-in-Err-clause-rising : goal.returns-in-Err-clause-rising
returns-in-Err-clause-rising g c =
    let Q : (List (List (g.row.K.Denot × (ℕ × g.row.R.Denot)))) → Type 0 = λ l. WouldStandAt g.K.Ord.cmp l c.args.key c.in-Err.spot.page c.in-Err.spot.place in
    let at : WouldStandAt g.K.Ord.cmp c.args.pages.now.pages c.args.key c.in-Err.spot.page c.in-Err.spot.place = subst Q c.as_slice.ensures.pages c.in-Err.ensures in
    let es : (List (g.row.K.Denot × (ℕ × g.row.R.Denot))) = entries_of c.args.pages.now.pages in
    let n : ℕ = flat c.args.pages.now.pages c.in-Err.spot.page c.in-Err.spot.place in
    subst (IsRising g.K.Ord.cmp) (sym c.put_new.ensures.entries) (rising_inserted g.met.K.Ord.total es c.args.key n c.requires.rising at.gap (c.args.stream, c.args.row))

pub returns-in-Err-clause-values : goal.returns-in-Err-clause-values
returns-in-Err-clause-values g c =
    let Q : (List (List (g.row.K.Denot × (ℕ × g.row.R.Denot)))) → Type 0 = λ l. WouldStandAt g.K.Ord.cmp l c.args.key c.in-Err.spot.page c.in-Err.spot.place in
    let at : WouldStandAt g.K.Ord.cmp c.args.pages.now.pages c.args.key c.in-Err.spot.page c.in-Err.spot.place = subst Q c.as_slice.ensures.pages c.in-Err.ensures in
    let es : (List (g.row.K.Denot × (ℕ × g.row.R.Denot))) = entries_of c.args.pages.now.pages in
    let n : ℕ = flat c.args.pages.now.pages c.in-Err.spot.page c.in-Err.spot.place in
    λ q. ap (λ (l : (List (g.row.K.Denot × (ℕ × g.row.R.Denot)))). value_at g.K.Ord.cmp l q) c.put_new.ensures.entries ∙ values_inserted g.met.K.Ord.total es c.args.key n c.requires.rising at.gap (c.args.stream, c.args.row) q

pub returns-in-Err-clause-room : goal.returns-in-Err-clause-room
returns-in-Err-clause-room g c = λ m few h.
    let Q : (List (List (g.row.K.Denot × (ℕ × g.row.R.Denot)))) → Type 0 = λ l. WouldStandAt g.K.Ord.cmp l c.args.key c.in-Err.spot.page c.in-Err.spot.place in
    let at : WouldStandAt g.K.Ord.cmp c.args.pages.now.pages c.args.key c.in-Err.spot.page c.in-Err.spot.place = subst Q c.as_slice.ensures.pages c.in-Err.ensures in
    let es : (List (g.row.K.Denot × (ℕ × g.row.R.Denot))) = entries_of c.args.pages.now.pages in
    let n : ℕ = flat c.args.pages.now.pages c.in-Err.spot.page c.in-Err.spot.place in
    let v : value_at g.K.Ord.cmp es c.args.key ≡ None = none_here g.met.K.Ord.total es c.args.key n c.requires.rising at.gap in
    let S : Option (ℕ × g.row.R.Denot) → Type 0 = λ there. m + cond (is_new (Some c.args.row) there) 1 0 ≤ room_of c.args.pages.now.pages c.args.pages.now.spares in
    c.put_new.ensures.room m few (subst S v h)
