use Rattle.std.proofs.Common.{◌≡◌, ◌∙◌, List, Option, refl, sym, ap, subst, rules}
use Rattle.std.proofs.lemmas.List.Sorted.{ranks_by, answers_always}
use Rattle.std.specs.Ordering.{is_lt, flip_args}
use Rattle.target_tables.specs.Rising.{IsRising}
use Rattle.target_tables.specs.Touches.{change_at, last_at}
use Rattle.target_tables.proofs.Results.{if_ok_each}
use Rattle.target_tables.proofs.Sorting.{never_falls_from_sorted, last_at_stable}
use Rattle.target_tables.proofs.Turning.{falls_turned, last_turned}
use Rattle.target_tables.proofs.touched.last_touches.Goals as goal

pub last_of_each-requires : goal.last_of_each-requires
last_of_each-requires g c =
    never_falls_from_sorted g.met.K.Ord.total c.sort_by.new.self.items
    (c.in_ok-sort_by.ensures.sorted (λ x y. is_lt (g.K.Ord.cmp x.0 y.0)) (ranks_by g.met.K.Ord.total (λ (t : g.row.K.Denot × Option g.row.R.Denot). t.0))
    (answers_always _ (λ a r. is_lt r ≡ is_lt (g.K.Ord.cmp a.0.now.0 a.1.0.now.0)) _ (λ f a r f' h. search rules)))

pub returns-clause-last : goal.returns-clause-last
returns-clause-last g c =
    if_ok_each (λ kept. (k : g.row.K.Denot) → change_at g.K.Ord.cmp kept.items k ≡ last_at g.K.Ord.cmp c.sort_by.new.self.items k) (λ kept. (k : g.row.K.Denot) → change_at g.K.Ord.cmp kept.items k ≡ last_at g.K.Ord.cmp c.args.touches.items k)
    (λ kept h k. h k ∙ last_at_stable g.met.K.Ord.total c.args.touches.items c.sort_by.new.self.items
    (c.sort_by.ensures.stable (λ x y. is_lt (g.K.Ord.cmp x.0 y.0)) (ranks_by g.met.K.Ord.total (λ (t : g.row.K.Denot × Option g.row.R.Denot). t.0))
    (answers_always _ (λ a r. is_lt r ≡ is_lt (g.K.Ord.cmp a.0.now.0 a.1.0.now.0)) _ (λ f a r f' h. search rules))) k)
    c.last_of_each.result c.last_of_each.ensures.last

pub returns-then-rises-clause-falling : goal.returns-then-rises-clause-falling
returns-then-rises-clause-falling g c =
    let P : List (g.row.K.Denot × Option g.row.R.Denot) → Type 0 = IsRising (flip_args g.K.Ord.cmp) in
    let rising : IsRising g.K.Ord.cmp c.args.touches.items = subst (IsRising g.K.Ord.cmp) c.deref.ensures.value (c.if-rises.ensures refl) in
    subst P (sym c.reverse.ensures.items) (falls_turned g.K.Ord.cmp c.args.touches.items rising)

pub returns-then-rises-clause-last : goal.returns-then-rises-clause-last
returns-then-rises-clause-last g c = λ k.
    ap (λ (l : List (g.row.K.Denot × Option g.row.R.Denot)). change_at g.K.Ord.cmp l k) c.reverse.ensures.items ∙ last_turned g.K.Ord.cmp c.args.touches.items k
