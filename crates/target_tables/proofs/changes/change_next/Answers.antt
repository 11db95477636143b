use Rattle.std.proofs.Common.{◌≡◌, ℕ, ◌+◌, ◌-◌, ◌<◌, ◌≤◌, cond, List, Option, ◌++◌, ◌∷◌, [], length, take, vec_len, sym, ap, subst, ◌∙◌, arith}
use Rattle.std.proofs.lemmas.List.{length-take-le}
use Rattle.std.specs.Ordering.{flip_args}
use Rattle.target_tables.specs.Pages.{entries_of, room_of}
use Rattle.target_tables.specs.Contents.{value_at}
use Rattle.target_tables.specs.Rising.{IsRising}
use Rattle.target_tables.specs.Private.Runs.{Leads}
use Rattle.target_tables.specs.Touches.{is_new, new_keys}
use Rattle.target_tables.proofs.Committing.{leads_at_first, leads_on, new_left, new_keys-push, new_keys-most, take_swapped, taken_apart}
use Rattle.target_tables.proofs.changes.change_next.Goals as goal

pub make_change-freed-requires-clause-room : goal.make_change-freed-requires-clause-room
make_change-freed-requires-clause-room g c =
    let xs : List (g.row.K.Denot × Option g.row.R.Denot) = c.args.changes.now.items in
    let n : ℕ = c.args.left in
    let x : g.row.K.Denot × Option g.row.R.Denot = c.swap_remove.result in
    let many : vec_len c.args.changes.now ≡ length xs = c.args.changes.now.ok.0 in
    let most : n ≤ length xs = let l : n ≤ vec_len c.args.changes.now = c.requires.left in omega arith in
    let some : 0 < n = c.requires.some in
    let parts : take n xs ≡ take (n - 1) xs ++ x ∷ [] = taken_apart xs n x some most c.swap_remove.ensures.value in
    let es : List (g.row.K.Denot × (ℕ × g.row.R.Denot)) = entries_of c.args.pages.now.pages in
    let room : new_keys g.K.Ord.cmp es (take n xs) ≤ room_of c.args.pages.now.pages c.args.pages.now.spares = c.requires.room in
    let count : new_keys g.K.Ord.cmp es (take n xs) ≡ new_keys g.K.Ord.cmp es (take (n - 1) xs) + cond (is_new x.1 (value_at g.K.Ord.cmp es x.0)) 1 0 =
    ap (λ (l : List (g.row.K.Denot × Option g.row.R.Denot)). new_keys g.K.Ord.cmp es l) parts ∙ new_keys-push g.K.Ord.cmp es (take (n - 1) xs) x in
    omega arith

pub returns-clause-leads : goal.returns-clause-leads
returns-clause-leads g c =
    let xs : List (g.row.K.Denot × Option g.row.R.Denot) = c.args.changes.now.items in
    let n : ℕ = c.args.left in
    let x : g.row.K.Denot × Option g.row.R.Denot = c.swap_remove.result in
    let many : vec_len c.args.changes.now ≡ length xs = c.args.changes.now.ok.0 in
    let most : n ≤ length xs = let l : n ≤ vec_len c.args.changes.now = c.requires.left in omega arith in
    let some : 0 < n = c.requires.some in
    let es : List (g.row.K.Denot × (ℕ × g.row.R.Denot)) = entries_of c.args.pages.now.pages in
    let next : List (g.row.K.Denot × (ℕ × g.row.R.Denot)) = entries_of c.make_change-freed.new.pages.pages in
    let left : List (g.row.K.Denot × Option g.row.R.Denot) = take (n - 1) c.hand_back.new.list.items in
    let same : left ≡ take (n - 1) xs = c.hand_back.ensures.kept (n - 1) (omega arith) ∙ ap (λ (l : List (g.row.K.Denot × Option g.row.R.Denot)). take (n - 1) l) c.swap_remove.ensures.items ∙ take_swapped xs (n - 1) x (omega arith) in
    let apart : take n xs ≡ left ++ x ∷ [] = taken_apart xs n x some most c.swap_remove.ensures.value ∙ ap (λ (l : List (g.row.K.Denot × Option g.row.R.Denot)). l ++ x ∷ []) (sym same) in
    let falling : IsRising (flip_args g.K.Ord.cmp) (left ++ x ∷ []) = subst (IsRising (flip_args g.K.Ord.cmp)) apart c.requires.falling in
    let P : List (g.row.K.Denot × Option g.row.R.Denot) → Type 0 = λ l. Leads g.K.Ord.cmp es c.args.stream l left next in
    subst P (sym apart)
    (leads_on g.met.K.Ord.total c.args.stream left x es next falling c.make_change-freed.ensures.values es (left ++ x ∷ []) (leads_at_first g.met.K.Ord.total es c.args.stream (left ++ x ∷ []) falling))

pub returns-clause-room : goal.returns-clause-room
returns-clause-room g c =
    let xs : List (g.row.K.Denot × Option g.row.R.Denot) = c.args.changes.now.items in
    let n : ℕ = c.args.left in
    let x : g.row.K.Denot × Option g.row.R.Denot = c.swap_remove.result in
    let many : vec_len c.args.changes.now ≡ length xs = c.args.changes.now.ok.0 in
    let most : n ≤ length xs = let l : n ≤ vec_len c.args.changes.now = c.requires.left in omega arith in
    let some : 0 < n = c.requires.some in
    let es : List (g.row.K.Denot × (ℕ × g.row.R.Denot)) = entries_of c.args.pages.now.pages in
    let next : List (g.row.K.Denot × (ℕ × g.row.R.Denot)) = entries_of c.make_change-freed.new.pages.pages in
    let left : List (g.row.K.Denot × Option g.row.R.Denot) = take (n - 1) c.hand_back.new.list.items in
    let same : left ≡ take (n - 1) xs = c.hand_back.ensures.kept (n - 1) (omega arith) ∙ ap (λ (l : List (g.row.K.Denot × Option g.row.R.Denot)). take (n - 1) l) c.swap_remove.ensures.items ∙ take_swapped xs (n - 1) x (omega arith) in
    let apart : take n xs ≡ left ++ x ∷ [] = taken_apart xs n x some most c.swap_remove.ensures.value ∙ ap (λ (l : List (g.row.K.Denot × Option g.row.R.Denot)). l ++ x ∷ []) (sym same) in
    let falling : IsRising (flip_args g.K.Ord.cmp) (left ++ x ∷ []) = subst (IsRising (flip_args g.K.Ord.cmp)) apart c.requires.falling in
    let room : new_keys g.K.Ord.cmp es (take n xs) ≤ room_of c.args.pages.now.pages c.args.pages.now.spares = c.requires.room in
    let count : new_keys g.K.Ord.cmp es (take n xs) ≡ new_keys g.K.Ord.cmp next left + cond (is_new x.1 (value_at g.K.Ord.cmp es x.0)) 1 0 =
    ap (λ (l : List (g.row.K.Denot × Option g.row.R.Denot)). new_keys g.K.Ord.cmp es l) apart
    ∙ new_left g.met.K.Ord.total c.args.stream left x es next falling c.make_change-freed.ensures.values in
    let few : new_keys g.K.Ord.cmp next left ≤ length left = new_keys-most g.K.Ord.cmp next left in
    let long : length left ≡ n - 1 = ap length same ∙ length-take-le (n - 1) xs (omega arith) in
    c.make_change-freed.ensures.room (new_keys g.K.Ord.cmp next left) (omega arith) (omega arith)
