use Rattle.std.proofs.Common.{ℕ, ◌/◌, refl, arith}
use Rattle.row_view.specs.declared.marks.Mark.{Mark}
use Rattle.row_view.proofs.MarkLaws.{marks_put, marks_kept}
use Rattle.row_view.proofs.count.Count.mark.Goals as goal
use Rattle.row_view.proofs.count.Count.mark.Goals.{else-self-eq0-via-then-self-eq0+else-place-lt-MARKS, else-self-eq0-via-else-self-eq0}

pub returns-then-place-lt-MARKS : goal.returns-then-place-lt-MARKS
returns-then-place-lt-MARKS c message packed fields left place is counted =
    let mark : Mark = record { at = c.args.at; end = c.args.end; offset = c.min.result } in
    let i : ℕ = c.args.self.now.columns / 16 in
    marks_put message packed fields left c.args.at c.args.end c.args.self.now c.args.marks.now mark i place is counted c.requires.within.0 refl refl
    (omega (arith, c.min.ensures, c.from.ensures)) (omega (arith, c.if-self-eq0.true))

pub returns-else-self-eq0 : goal.returns-else-self-eq0
returns-else-self-eq0 c message packed fields left place is counted =
    marks_kept message c.args.self.now.columns c.args.marks.now counted.marks_are (λ e.
    elim c.else-self-eq0.branch [
      | else-self-eq0-via-then-self-eq0+else-place-lt-MARKS w ↦ omega (arith, w.if-place-lt-MARKS.false)
      | else-self-eq0-via-else-self-eq0 w ↦ absurd (omega (arith, e, w.if-self-eq0.false))
    ])
