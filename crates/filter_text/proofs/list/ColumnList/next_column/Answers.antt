use Rattle.std.proofs.Common.{List, ℕ, ◌∷◌, sym, ap, ◌∙◌}
use Rattle.std.specs.Borrow.{Bor}
use Rattle.filter_text.specs.ColumnList.{listed_in}
use Rattle.filter_text.proofs.ListLaws.{last_step, more_step}
use Rattle.filter_text.proofs.list.ColumnList.next_column.Goals as goal
use Rattle.filter_text.proofs.list.ColumnList.next_column.Goals.{then-column, else-column}

pub returns-clause-some : goal.returns-clause-some
returns-clause-some c =
    let name = c.in_ok-column.column.name.now in
    elim c.if-column.branch [
      | then-column w ↦
          sym c.self.view_is
          ∙ (last_step c.self.inside.rest.now c.in_ok-column.column c.self.invariant c.in_ok-column.ensures.shorter c.in_ok-column.ensures.column w.if-column.true).columns
          ∙ ap (λ (s : Bor (List ℕ)). name ∷ listed_in s.now) (sym w.self-is)
      | else-column w ↦
          sym c.self.view_is
          ∙ (more_step c.self.inside.rest.now c.in_ok-column.column c.self.invariant c.in_ok-column.ensures.shorter c.in_ok-column.ensures.column w.if-column.false).columns
          ∙ ap (λ (s : Bor (List ℕ)). name ∷ listed_in s.now) (sym w.self-is)
    ]
