use Rattle.std.proofs.Common.{◌≡◌, ℕ, List, [], ◌∷◌, ◌++◌, append-nil, ap, sym, subst, ◌∙◌}
use Rattle.std.specs.declared.cmp.Ordering.TheVariants.{Less}
use Rattle.target_tables.specs.Contents.{Contents}
use Rattle.target_tables.specs.Pages.{entries_of}
use Rattle.target_tables.specs.Rising.{IsRising, AreBelow}
use Rattle.target_tables.proofs.Order.{ordered_with}
use Rattle.target_tables.proofs.tables.Tables.push.Goals as goal

pub invariant_of-self-2 : goal.invariant_of-self-2
invariant_of-self-2 g c =
    let es : (List (g.row.K.Denot × (ℕ × g.row.R.Denot))) = entries_of c.self.inside.pages.pages in
    let x : (g.row.K.Denot × (ℕ × g.row.R.Denot)) = (c.args.key, (c.args.stream, c.args.row)) in
    let below : AreBelow g.K.Ord.cmp c.args.key es = subst (AreBelow g.K.Ord.cmp c.args.key) (sym (ap (λ (s : Contents g.row.K.Denot g.row.R.Denot). s.entries) c.self.view_is)) c.requires in
    let all : entries_of c.put_last.new.pages.pages ≡ es ++ x ∷ [] = c.put_last.ensures.entries ∙ ap (λ (l : (List (List (g.row.K.Denot × (ℕ × g.row.R.Denot))))). entries_of l ++ x ∷ []) c.reserve.ensures.pages in
    subst (IsRising g.K.Ord.cmp) (sym all)
    (ordered_with (λ a b. g.K.Ord.cmp a b ≡ Less) es x [] (subst (IsRising g.K.Ord.cmp) (sym (append-nil es)) c.self.invariant) below tt)
