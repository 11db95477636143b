use Rattle.std.proofs.Common.{◌≡◌, ℕ, ◌+◌, ◌-◌, ◌<◌, ◌≤◌, List, [], ◌∷◌, ◌++◌, Option, length, take, drop, get_or, set, reverse, vec_len, sym, ap, subst, ◌∙◌, arith}
use Rattle.std.proofs.lemmas.List.{get_or_default, length-set}
use Rattle.target_tables.specs.Rising.{AreBelow, AreAbove}
use Rattle.target_tables.specs.Pages.{entries_of, page_at}
use Rattle.target_tables.proofs.Committing.{take_swapped}
use Rattle.target_tables.proofs.Closing.{rising_apart}
use Rattle.target_tables.proofs.Running.{passed, put_behind}
use Rattle.target_tables.proofs.runs.put_next.Goals as goal

pub fits-requires-clause-rising : goal.fits-requires-clause-rising
fits-requires-clause-rising g c =
    let xs : List (g.row.K.Denot × Option g.row.R.Denot) = c.args.changes.now.items in
    let n : ℕ = c.args.left in
    let pages : List (List (g.row.K.Denot × (ℕ × g.row.R.Denot))) = c.args.list.now in
    let i : ℕ = c.args.page in
    let over : List (g.row.K.Denot × (ℕ × g.row.R.Denot)) = c.args.above.now in
    let y : g.row.K.Denot × Option g.row.R.Denot = c.index-next.result.now in
    let many : vec_len c.args.changes.now ≡ length xs = c.args.changes.now.ok.0 in
    let most : n ≤ length xs = let l : n ≤ vec_len c.args.changes.now = c.requires.left in omega arith in
    let inside : i < length pages = c.requires.fit.inside in
    let p : List (g.row.K.Denot × (ℕ × g.row.R.Denot)) = get_or pages i c.index-list-page-2.result in
    let there : p ≡ page_at pages i = get_or_default pages i c.index-list-page-2.result [] inside in
    rising_apart g.K.Ord.cmp (set pages i c.pass.new.self) i c.pass.new.above (take n xs)
    (passed g.met.K.Ord.total c.args.stream i pages over xs n y c.requires.some most c.index-next.ensures c.requires.fit c.pass.new.self c.pass.new.above p there c.pass.ensures.entries c.pass.ensures.count c.pass.ensures.below).fit

pub returns-then-not-fits-clause-merges : goal.returns-then-not-fits-clause-merges
returns-then-not-fits-clause-merges g c =
    let xs : List (g.row.K.Denot × Option g.row.R.Denot) = c.args.changes.now.items in
    let n : ℕ = c.args.left in
    let pages : List (List (g.row.K.Denot × (ℕ × g.row.R.Denot))) = c.args.list.now in
    let i : ℕ = c.args.page in
    let over : List (g.row.K.Denot × (ℕ × g.row.R.Denot)) = c.args.above.now in
    let y : g.row.K.Denot × Option g.row.R.Denot = c.index-next.result.now in
    let many : vec_len c.args.changes.now ≡ length xs = c.args.changes.now.ok.0 in
    let most : n ≤ length xs = let l : n ≤ vec_len c.args.changes.now = c.requires.left in omega arith in
    let inside : i < length pages = c.requires.fit.inside in
    let p : List (g.row.K.Denot × (ℕ × g.row.R.Denot)) = get_or pages i c.index-list-page-2.result in
    let there : p ≡ page_at pages i = get_or_default pages i c.index-list-page-2.result [] inside in
    passed g.met.K.Ord.total c.args.stream i pages over xs n y c.requires.some most c.index-next.ensures c.requires.fit c.pass.new.self c.pass.new.above p there c.pass.ensures.entries c.pass.ensures.count c.pass.ensures.below

pub returns-clause-merges : goal.returns-clause-merges
returns-clause-merges g c =
    let xs : List (g.row.K.Denot × Option g.row.R.Denot) = c.args.changes.now.items in
    let n : ℕ = c.args.left in
    let pages : List (List (g.row.K.Denot × (ℕ × g.row.R.Denot))) = c.args.list.now in
    let i : ℕ = c.args.page in
    let over : List (g.row.K.Denot × (ℕ × g.row.R.Denot)) = c.args.above.now in
    let y : g.row.K.Denot × Option g.row.R.Denot = c.index-next.result.now in
    let many : vec_len c.args.changes.now ≡ length xs = c.args.changes.now.ok.0 in
    let most : n ≤ length xs = let l : n ≤ vec_len c.args.changes.now = c.requires.left in omega arith in
    let inside : i < length pages = c.requires.fit.inside in
    let p : List (g.row.K.Denot × (ℕ × g.row.R.Denot)) = get_or pages i c.index-list-page-2.result in
    let there : p ≡ page_at pages i = get_or_default pages i c.index-list-page-2.result [] inside in
    let x : g.row.K.Denot × Option g.row.R.Denot = c.swap_remove-key.result in
    let mid : List (List (g.row.K.Denot × (ℕ × g.row.R.Denot))) = set pages i c.pass.new.self in
    let last : n - 1 < length xs = let some : 0 < n = c.requires.some in omega arith in
    let same : y ≡ x = c.index-next.ensures ∙ get_or_default xs (n - 1) y x last ∙ sym c.swap_remove-key.ensures.value in
    let a : c.len.result ≡ length (page_at pages i) = c.len.ensures ∙ ap length (get_or_default pages i c.index-list-page.result [] inside) in
    let b : length p ≡ length (page_at pages i) = ap length there in
    let n_over : c.len-else-is_none.result ≡ length over = c.len-else-is_none.ensures in
    let room : length p + length over < 128 = omega arith in
    let long : length mid ≡ length pages = length-set pages i c.pass.new.self in
    let third : get_or mid i c.index-list-page-3.result ≡ page_at mid i = get_or_default mid i c.index-list-page-3.result [] (omega (arith, long, inside)) in
    let A : g.row.K.Denot × Option g.row.R.Denot → Type 0 = λ z. AreAbove g.K.Ord.cmp z.0 (reverse c.pass.new.above ++ entries_of (drop (i + 1) mid)) in
    let greatest : AreAbove g.K.Ord.cmp x.0 (reverse c.pass.new.above ++ entries_of (drop (i + 1) mid)) = subst A same (c.fits.ensures c.if-not-fits.false) in
    let B : g.row.K.Denot × Option g.row.R.Denot → Type 0 = λ z. AreBelow g.K.Ord.cmp z.0 p → AreBelow g.K.Ord.cmp z.0 c.pass.new.self in
    let left : take (n - 1) c.swap_remove-key.new.self.items ≡ take (n - 1) xs = ap (λ (l : List (g.row.K.Denot × Option g.row.R.Denot)). take (n - 1) l) c.swap_remove-key.ensures.items ∙ take_swapped xs (n - 1) x last in
    put_behind g.met.K.Ord.total c.args.stream i pages over xs n x c.requires.some most c.swap_remove-key.ensures.value c.requires.fit c.pass.new.self c.pass.new.above p there c.pass.ensures.entries c.pass.ensures.count (subst B same c.pass.ensures.below)
    c.unwrap.result c.unwrap.ensures room greatest c.push.new.self (c.push.ensures ∙ ap (λ (l : List (g.row.K.Denot × (ℕ × g.row.R.Denot))). l ++ (x.0, (c.args.stream, c.unwrap.result)) ∷ []) third)
    (take (n - 1) c.swap_remove-key.new.self.items) left
