use Rattle.std.proofs.Common.{◌≡◌, ◌∙◌, true, false, List, Option, sym, ap, subst, rules}
use Rattle.target_tables.specs.Kept.{ends_at}
use Rattle.target_tables.proofs.Keeping.{Keeps, keeps_push, keeps_skip, keeps_none}
use Rattle.target_tables.proofs.touched.last_of_each.Goals as goal

pub loop-touch-preserved-in-Continue-branch-2 : goal.loop-touch-preserved-in-Continue-branch-2
loop-touch-preserved-in-Continue-branch-2 g c =
    let P : List (g.row.K.Denot × Option g.row.R.Denot) → Type 0 = λ left. Keeps g.K.Ord.cmp c.args.touches.items left c.loop-touch.kept.items in
    let Q : List (g.row.K.Denot × Option g.row.R.Denot) → Type 0 = λ kept. Keeps g.K.Ord.cmp c.args.touches.items c.pop.new.self.items kept in
    let r : c.ends_at_key.result ≡ false = search rules in
    let e : ends_at g.K.Ord.cmp c.in-Some.touch.0 c.loop-touch.kept.items ≡ false = sym (c.ends_at_key.ensures ∙ ap (λ (l : List (g.row.K.Denot × Option g.row.R.Denot)). ends_at g.K.Ord.cmp c.in-Some.touch.0 l) c.deref.ensures.value) ∙ r in
    subst Q (sym c.in_ok-push.ensures.items) (keeps_push g.met.K.Ord.total c.args.touches.items c.pop.new.self.items c.loop-touch.kept.items c.in-Some.touch (subst P c.in-Some.ensures.items c.loop-touch.invariant) e)

pub loop-touch-preserved-else-not-ends_at_key : goal.loop-touch-preserved-else-not-ends_at_key
loop-touch-preserved-else-not-ends_at_key g c =
    let P : List (g.row.K.Denot × Option g.row.R.Denot) → Type 0 = λ left. Keeps g.K.Ord.cmp c.args.touches.items left c.loop-touch.kept.items in
    let r : c.ends_at_key.result ≡ true = search rules in
    let e : ends_at g.K.Ord.cmp c.in-Some.touch.0 c.loop-touch.kept.items ≡ true = sym (c.ends_at_key.ensures ∙ ap (λ (l : List (g.row.K.Denot × Option g.row.R.Denot)). ends_at g.K.Ord.cmp c.in-Some.touch.0 l) c.deref.ensures.value) ∙ r in
    keeps_skip g.met.K.Ord.total c.args.touches.items c.pop.new.self.items c.loop-touch.kept.items c.in-Some.touch (subst P c.in-Some.ensures.items c.loop-touch.invariant) e

pub loop-touch-preserved : goal.loop-touch-preserved
loop-touch-preserved g c =
    let P : List (g.row.K.Denot × Option g.row.R.Denot) → Type 0 = λ left. Keeps g.K.Ord.cmp c.args.touches.items left c.loop-touch.kept.items in
    let r : c.ends_at_key.result ≡ true = search rules in
    let e : ends_at g.K.Ord.cmp c.in-Some.touch.0 c.loop-touch.kept.items ≡ true = sym (c.ends_at_key.ensures ∙ ap (λ (l : List (g.row.K.Denot × Option g.row.R.Denot)). ends_at g.K.Ord.cmp c.in-Some.touch.0 l) c.deref.ensures.value) ∙ r in
    keeps_skip g.met.K.Ord.total c.args.touches.items c.pop.new.self.items c.loop-touch.kept.items c.in-Some.touch (subst P c.in-Some.ensures.items c.loop-touch.invariant) e

pub loop-touch-init : goal.loop-touch-init
loop-touch-init g c =
    let P : List (g.row.K.Denot × Option g.row.R.Denot) → Type 0 = λ kept. Keeps g.K.Ord.cmp c.args.touches.items c.args.touches.items kept in
    subst P (sym c.in_ok-kept.ensures.items) (keeps_none g.met.K.Ord.total c.args.touches.items c.requires)
