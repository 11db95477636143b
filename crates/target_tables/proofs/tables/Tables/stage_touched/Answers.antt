use Rattle.std.proofs.Common.{◌≡◌, ℕ, ◌≤◌, List, Option, refl, sym, ap, subst, ◌∙◌, arith}
use Rattle.std.specs.List.{AllByRecursion}
use Rattle.target_tables.specs.Contents.{Contents}
use Rattle.target_tables.specs.Pages.{entries_of, AreFull}
use Rattle.target_tables.specs.Rising.{IsRising}
use Rattle.target_tables.specs.Touches.{change_at, new_keys, IsLeastClash}
use Rattle.target_tables.specs.Kept.{IsFree, IsLastClash}
use Rattle.target_tables.proofs.Judging.{free_everywhere, least_clash}
use Rattle.target_tables.proofs.tables.Tables.stage_touched.Goals as goal

pub returns-in-Err-clause-refused : goal.returns-in-Err-clause-refused
returns-in-Err-clause-refused g c =
    let es : (List (g.row.K.Denot × (ℕ × g.row.R.Denot))) = entries_of c.self.inside.pages.pages in
    let P : (List (List (g.row.K.Denot × (ℕ × g.row.R.Denot)))) → Type 0 = λ l. IsLastClash g.K.Ord.cmp (entries_of l) c.args.stream c.deref.result.now c.in-Err.clash.place c.in-Err.clash.owner in
    let Q : List (g.row.K.Denot × Option g.row.R.Denot) → Type 0 = λ l. IsLastClash g.K.Ord.cmp es c.args.stream l c.in-Err.clash.place c.in-Err.clash.owner in
    let h : IsLastClash g.K.Ord.cmp es c.args.stream c.touched.inside.changes.items c.in-Err.clash.place c.in-Err.clash.owner = subst Q c.deref.ensures.value (subst P c.as_slice.ensures.pages c.in-Err.ensures.err) in
    let S : Contents g.row.K.Denot g.row.R.Denot → Type 0 = λ v. IsLeastClash g.K.Ord.cmp v.entries c.args.stream (change_at g.K.Ord.cmp c.touched.inside.changes.items) c.swap_remove.result.0 c.in-Err.clash.owner in
    let T : List (g.row.K.Denot × Option g.row.R.Denot) → Type 0 = λ l. IsLeastClash g.K.Ord.cmp c.args.self.now.entries c.args.stream (change_at g.K.Ord.cmp l) c.swap_remove.result.0 c.in-Err.clash.owner in
    subst T c.touched.view_is (subst S c.self.view_is
    (least_clash g.met.K.Ord.total es c.args.stream (change_at g.K.Ord.cmp c.touched.inside.changes.items) c.touched.inside.changes.items c.in-Err.clash.place c.in-Err.clash.owner c.swap_remove.result
    (λ k. refl) c.touched.invariant h c.swap_remove.ensures.value))

pub survey-requires-clause-rising : goal.survey-requires-clause-rising
survey-requires-clause-rising g c = subst (λ (l : List (List (g.row.K.Denot × (ℕ × g.row.R.Denot)))). IsRising g.K.Ord.cmp (entries_of l)) (sym c.as_slice.ensures.pages) c.self.invariant

pub survey-requires-clause-full : goal.survey-requires-clause-full
survey-requires-clause-full g c = subst (λ (l : List (List (g.row.K.Denot × (ℕ × g.row.R.Denot)))). AreFull l) (sym c.as_slice.ensures.pages) c.as_slice.ensures.full

pub returns-in_ok-reserve-in-Ok-clause-ready : goal.returns-in_ok-reserve-in-Ok-clause-ready
returns-in_ok-reserve-in-Ok-clause-ready g c =
    let now : List (g.row.K.Denot × (ℕ × g.row.R.Denot)) = c.reserve.new.self.entries in
    let changes : List (g.row.K.Denot × Option g.row.R.Denot) = c.touched.inside.changes.items in
    let same : entries_of c.as_slice.result.now ≡ now =
    ap (λ (l : List (List (g.row.K.Denot × (ℕ × g.row.R.Denot)))). entries_of l) c.as_slice.ensures.pages ∙ ap (λ (v : Contents g.row.K.Denot g.row.R.Denot). v.entries) c.self.view_is ∙ sym c.reserve.ensures.entries in
    let P : List (g.row.K.Denot × (ℕ × g.row.R.Denot)) → Type 0 = λ es. (c.in-Ok.count ≡ new_keys g.K.Ord.cmp es c.deref.result.now) × AllByRecursion (IsFree g.K.Ord.cmp es c.args.stream) c.deref.result.now in
    let Q : List (g.row.K.Denot × Option g.row.R.Denot) → Type 0 = λ l. (c.in-Ok.count ≡ new_keys g.K.Ord.cmp now l) × AllByRecursion (IsFree g.K.Ord.cmp now c.args.stream) l in
    let h : (c.in-Ok.count ≡ new_keys g.K.Ord.cmp now changes) × AllByRecursion (IsFree g.K.Ord.cmp now c.args.stream) changes = subst Q c.deref.ensures.value (subst P same c.in-Ok.ensures.ok) in
    let count : c.in-Ok.count ≡ new_keys g.K.Ord.cmp now changes = h.0 in
    let ready : c.in-Ok.count ≤ c.reserve.new.self.room = c.in_ok-reserve-in-Ok.ensures.ok in
    record {
      clear = free_everywhere g.met.K.Ord.total now c.args.stream changes h.1;
      room = omega (arith, count, ready);
    }
