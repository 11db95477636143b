use Rattle.std.proofs.Common.{◌≡◌, ℕ, ◌+◌, ◌-◌, ◌<◌, length, drop, sym, subst, ◌∙◌, arith, refl}
use Rattle.std.specs.List.{AllByRecursion}
use Rattle.std.proofs.Math.Seq.{drop-length}
use Rattle.target_tables.specs.Touches.{new_keys}
use Rattle.target_tables.specs.Kept.{IsFree}
use Rattle.target_tables.specs.Pages.{entries_of}
use Rattle.target_tables.proofs.Judging.{clash_here}
use Rattle.target_tables.proofs.survey.survey.Goals as goal

pub returns-in-Foreign-clause-err : goal.returns-in-Foreign-clause-err
returns-in-Foreign-clause-err g c =
    let inside : c.loop-place.place - 1 < length c.args.changes.now = omega arith in
    let behind : c.loop-place.place ≡ c.loop-place.place - 1 + 1 = omega arith in
    let P : ℕ → Type 0 = λ n. AllByRecursion (IsFree g.K.Ord.cmp (entries_of c.args.pages.now) c.args.stream) (drop n c.args.changes.now) in
    record {
      inside = inside;
      here = clash_here g.K.Ord.cmp (entries_of c.args.pages.now) c.args.stream c.args.changes.now (c.loop-place.place - 1) c.in-Foreign.owner c.index-changes-place.result inside c.index-changes-place.is (sym c.judge-met.ensures ∙ c.in-Foreign.is);
      later = subst P behind c.loop-place.invariant.3;
    }

pub returns-clause-ok : goal.returns-clause-ok
returns-clause-ok g c =
    let P : ℕ → Type 0 = λ p. (c.loop-place.count ≡ new_keys g.K.Ord.cmp (entries_of c.args.pages.now) (drop p c.args.changes.now)) × AllByRecursion (IsFree g.K.Ord.cmp (entries_of c.args.pages.now) c.args.stream) (drop p c.args.changes.now) in
    let none : c.loop-place.place ≡ 0 = omega arith in
    subst P none (c.loop-place.invariant.2, c.loop-place.invariant.3)

pub loop-place-init : goal.loop-place-init
loop-place-init g c = rw (drop-length c.args.changes.now) (omega arith, omega arith, refl, tt)
