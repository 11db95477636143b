use Rattle.std.proofs.Common.{◌≡◌, ℕ, ◌≤◌, List, length, sym, ap, ◌∙◌, arith}
use Rattle.target_tables.specs.Fronts.{first_front}
use Rattle.target_tables.proofs.Fronting.{first_front-insert}
use Rattle.target_tables.proofs.page.Page.put_in.Goals as goal

pub invariant_of-self-else-place-eq0 : goal.invariant_of-self-else-place-eq0
invariant_of-self-else-place-eq0 g c =
    let before : List (g.row.K.Denot × (ℕ × g.row.R.Denot)) = c.self.inside.entries.items in
    let same : before ≡ c.args.self.now = c.self.view_is in
    let within : c.args.place ≤ length before = omega (arith, ap (λ (l : List (g.row.K.Denot × (ℕ × g.row.R.Denot))). length l) same) in (
      c.self.invariant.0
          ∙ sym (ap (λ (l : List (g.row.K.Denot × (ℕ × g.row.R.Denot))). first_front g.K.Fronted.front_of l) c.put_between.ensures.items
          ∙ first_front-insert g.K.Fronted.front_of before c.args.place c.args.entry (omega (arith, c.if-place-eq0.false)) within),
      omega arith,
    )
