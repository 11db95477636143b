use Rattle.std.proofs.Common.{◌≡◌, ℕ, ◌+◌, ◌-◌, ◌<◌, true, List, [], length, drop, get_or, sym, ap, ◌∙◌, arith}
use Rattle.std.proofs.lemmas.List.{get_or_default, drop_all, nil_from_length}
use Rattle.std.specs.declared.cmp.Ordering.TheVariants.{Greater}
use Rattle.target_tables.specs.Pages.{entries_of, page_at, begins_past}
use Rattle.target_tables.proofs.Opening.{above_read, only_greater, nothing_apart, next_past}
use Rattle.target_tables.proofs.runs.fits.Goals as goal

pub returns-then-entries-gt0 : goal.returns-then-entries-gt0
returns-then-entries-gt0 g c = λ h.
    let there : c.entries-entries.result.now ≡ c.args.above.now = c.entries-entries.ensures in
    let size : length c.entries-entries.result.now ≡ length c.args.above.now = ap length there in
    let greatest : g.K.Ord.cmp c.index-entries-entries.result.0 c.args.key.now ≡ Greater =
    sym c.order.ensures ∙ only_greater c.order.result (sym c.is_gt.ensures ∙ h) in
    above_read g.met.K.Ord.total c.args.key.now c.args.above.now (entries_of (drop (c.args.page + 1) c.args.list.now)) c.index-entries-entries.result (omega arith)
    (c.index-entries-entries.is ∙ ap (λ (l : List (g.row.K.Denot × (ℕ × g.row.R.Denot))). get_or l (length l - 1) c.index-entries-entries.result) there) c.requires.rising greatest

pub returns-then-page-list : goal.returns-then-page-list
returns-then-page-list g c = λ h.
    let size : length c.entries-entries.result.now ≡ length c.args.above.now = ap length c.entries-entries.ensures in
    nothing_apart g.met.K.Ord.total c.args.key.now c.args.above.now (drop (c.args.page + 1) c.args.list.now) (nil_from_length c.args.above.now (omega arith)) (drop_all (c.args.page + 1) c.args.list.now (omega arith))

pub returns : goal.returns
returns g c = λ h.
    let size : length c.entries-entries.result.now ≡ length c.args.above.now = ap length c.entries-entries.ensures in
    let next : c.args.page + 1 < length c.args.list.now = omega arith in
    let there : c.index-list-page.result ≡ page_at c.args.list.now (c.args.page + 1) = c.index-list-page.is ∙ get_or_default c.args.list.now (c.args.page + 1) _ [] next in
    let past : begins_past g.K.Ord.cmp c.args.key.now (page_at c.args.list.now (c.args.page + 1)) ≡ true =
    ap (λ (page : List (g.row.K.Denot × (ℕ × g.row.R.Denot))). begins_past g.K.Ord.cmp c.args.key.now page) (sym there) ∙ sym c.is_past.ensures ∙ h in
    next_past g.met.K.Ord.total c.args.key.now c.args.above.now c.args.list.now (c.args.page + 1) (nil_from_length c.args.above.now (omega arith)) next c.requires.rising past
