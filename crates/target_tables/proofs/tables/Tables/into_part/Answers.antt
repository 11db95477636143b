use Rattle.std.proofs.Common.{ℕ, List, sym, ap, subst, ◌∙◌}
use Rattle.target_tables.specs.Contents.{Contents}
use Rattle.target_tables.specs.Pages.{entries_of}
use Rattle.target_tables.specs.Rising.{IsRising}
use Rattle.target_tables.proofs.tables.Tables.into_part.Goals as goal

pub new-requires-2 : goal.new-requires-2
new-requires-2 g c =
    subst (IsRising g.K.Ord.cmp) (sym (c.new.ensures ∙ ap (λ (l : List (List (g.row.K.Denot × (ℕ × g.row.R.Denot)))). entries_of l) c.into_list-list.ensures.pages)) c.self.invariant

pub returns-clause-rising : goal.returns-clause-rising
returns-clause-rising g c = subst (λ (v : Contents g.row.K.Denot g.row.R.Denot). IsRising g.K.Ord.cmp v.entries) c.self.view_is c.self.invariant
