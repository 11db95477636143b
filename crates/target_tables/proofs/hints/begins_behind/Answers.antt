use Rattle.std.proofs.Common.{◌≡◌, ℕ, ◌+◌, ◌-◌, ◌<◌, ◌≤◌, List, length, take, sym, subst, ◌∙◌, arith}
use Rattle.std.specs.declared.cmp.Ordering.TheVariants.{Less}
use Rattle.target_tables.specs.Rising.{AreBelow}
use Rattle.target_tables.specs.Pages.{entries_of, page_at, flat}
use Rattle.target_tables.proofs.Hinting.{next_most}
use Rattle.target_tables.proofs.Seeking.{below_to}
use Rattle.target_tables.proofs.Turning.{only_less}
use Rattle.target_tables.proofs.hints.begins_behind.Goals as goal

pub returns-clause-below : goal.returns-clause-below
returns-clause-below g c = λ h.
    let pages : List (List (g.row.K.Denot × (ℕ × g.row.R.Denot))) = c.args.pages.now in
    let i : ℕ = c.args.spot.page in
    let p : ℕ = c.args.spot.place in
    let x : g.row.K.Denot × (ℕ × g.row.R.Denot) = c.entry_at.result.now in
    let inside : i < length pages = c.requires.inside in
    let within : p ≤ length (page_at pages i) = c.requires.within in
    let there : p - 1 < length (page_at pages i) = omega arith in
    let most : flat pages i (p - 1) < length (entries_of pages) = next_most g.met.K.Ord.total c.args.key.now pages c.requires.rising i (p - 1) inside there in
    let less : g.K.Ord.cmp x.0 c.args.key.now ≡ Less = sym c.order.ensures ∙ only_less c.order.result (sym c.is_lt.ensures ∙ h) in
    let on : flat pages i (p - 1) + 1 ≡ flat pages i p = omega arith in
    let Q : ℕ → Type 0 = λ n. AreBelow g.K.Ord.cmp c.args.key.now (take n (entries_of pages)) in
    subst Q on (below_to g.met.K.Ord.total (entries_of pages) (flat pages i (p - 1)) x most c.entry_at.ensures c.requires.rising c.args.key.now less)
