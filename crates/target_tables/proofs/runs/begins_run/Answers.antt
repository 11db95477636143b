use Rattle.std.proofs.Common.{◌≡◌, ℕ, ◌+◌, ◌-◌, ◌<◌, ◌≤◌, List, Option, [], ◌∷◌, ◌++◌, length, take, sym, subst, ◌∙◌, arith}
use Rattle.std.specs.List.{AllByRecursion}
use Rattle.std.specs.Ordering.{flip_args}
use Rattle.target_tables.specs.Rising.{IsRising, AreAbove}
use Rattle.target_tables.specs.Pages.{entries_of, flat, WouldStandAt}
use Rattle.target_tables.proofs.Committing.{taken_apart}
use Rattle.target_tables.proofs.Opening.{front_all}
use Rattle.target_tables.proofs.runs.begins_run.Goals as goal

pub returns-in-Some-Err : goal.returns-in-Some-Err
returns-in-Some-Err g c =
    let pages : List (List (g.row.K.Denot × (ℕ × g.row.R.Denot))) = c.args.pages.now in
    let xs : List (g.row.K.Denot × Option g.row.R.Denot) = c.args.changes.now in
    let n : ℕ = c.args.left in
    let x : g.row.K.Denot × Option g.row.R.Denot = c.index-changes-left.result in
    let i : ℕ = c.in-Some-Err.spot.page in
    let p : ℕ = c.in-Some-Err.spot.place in
    let at : WouldStandAt g.K.Ord.cmp pages x.0 i p = rw c.in-Some-Err.field-0-is at c.in-Some-Err.ensures in
    let some : 0 < length pages = omega arith in
    let es : List (g.row.K.Denot × (ℕ × g.row.R.Denot)) = take (flat pages i p) (entries_of pages) in
    let parts : take n xs ≡ take (n - 1) xs ++ x ∷ [] = taken_apart xs n x c.requires.some c.requires.left c.index-changes-left.is in
    let P : List (g.row.K.Denot × Option g.row.R.Denot) → Type 0 = λ l. AllByRecursion (λ (e : g.row.K.Denot × (ℕ × g.row.R.Denot)). AreAbove g.K.Ord.cmp e.0 l) es in
    record {
      inside = (at.falls some).inside;
      within = at.within;
      front = subst P (sym parts) (front_all g.met.K.Ord.total (take (n - 1) xs) x (subst (IsRising (flip_args g.K.Ord.cmp)) parts c.requires.falling) es at.gap.below);
    }
