use Rattle.std.proofs.Common.{ℕ, List, [], ◌∷◌, subst, ◌∙◌, arith}
use Rattle.std.proofs.lemmas.List.Elements.{All-rest}
use Rattle.target_tables.specs.Pages.{IsFull, AreFull}
use Rattle.target_tables.proofs.Mixing.{popped}
use Rattle.target_tables.proofs.taken.Taken.pop.Goals as goal

pub invariant_of-self-in-None : goal.invariant_of-self-in-None
invariant_of-self-in-None g c = All-rest IsFull c.in_ok-page-in-None.page c.take_first-in-None.new.list.items c.self.inside.pages.items c.in_ok-page-in-None.ensures c.self.invariant

pub returns-in_ok-page-in-None : goal.returns-in_ok-page-in-None
returns-in_ok-page-in-None g c =
    let full : AreFull (c.in_ok-page-in-None.page ∷ c.take_first-in-None.new.list.items) = subst (λ (l : List (List (g.row.K.Denot × (ℕ × g.row.R.Denot)))). AreFull l) c.in_ok-page-in-None.ensures c.self.invariant in
    let first : IsFull c.in_ok-page-in-None.page = full 0 [] (omega arith) in
    popped c.args.self.now c.self.inside.entries.items c.in_ok-page-in-None.page c.self.inside.pages.items c.take_first-in-None.new.list.items c.from.result.items c.take_first-in-None-2.new.list.items c.take_first-in-None-2.result
    c.self.view_is c.in-None.ensures.0 c.in_ok-page-in-None.ensures (c.from.ensures.0 ∙ c.into_entries.ensures) first.least c.take_first-in-None-2.ensures
