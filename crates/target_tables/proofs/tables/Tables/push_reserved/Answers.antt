use Rattle.std.proofs.Common.{◌≡◌, ℕ, List, [], append-nil, ap, sym, subst}
use Rattle.std.specs.declared.cmp.Ordering.TheVariants.{Less}
use Rattle.target_tables.specs.Contents.{Contents}
use Rattle.target_tables.specs.Pages.{entries_of}
use Rattle.target_tables.specs.Rising.{IsRising, AreBelow}
use Rattle.target_tables.proofs.Order.{ordered_with}
use Rattle.target_tables.proofs.tables.Tables.push_reserved.Goals as goal

pub invariant_of-self : goal.invariant_of-self
invariant_of-self g c =
    let es : (List (g.row.K.Denot × (ℕ × g.row.R.Denot))) = entries_of c.self.inside.pages.pages in
    let below : AreBelow g.K.Ord.cmp c.args.entry.0 es = subst (AreBelow g.K.Ord.cmp c.args.entry.0) (sym (ap (λ (s : Contents g.row.K.Denot g.row.R.Denot). s.entries) c.self.view_is)) c.requires.below in
    subst (IsRising g.K.Ord.cmp) (sym c.put_last.ensures.entries)
    (ordered_with (λ a b. g.K.Ord.cmp a b ≡ Less) es c.args.entry [] (subst (IsRising g.K.Ord.cmp) (sym (append-nil es)) c.self.invariant) below tt)

pub returns-clause-rising : goal.returns-clause-rising
returns-clause-rising g c =
    let es : (List (g.row.K.Denot × (ℕ × g.row.R.Denot))) = entries_of c.self.inside.pages.pages in
    let below : AreBelow g.K.Ord.cmp c.args.entry.0 es = subst (AreBelow g.K.Ord.cmp c.args.entry.0) (sym (ap (λ (s : Contents g.row.K.Denot g.row.R.Denot). s.entries) c.self.view_is)) c.requires.below in
    subst (IsRising g.K.Ord.cmp) (sym c.put_last.ensures.entries)
    (ordered_with (λ a b. g.K.Ord.cmp a b ≡ Less) es c.args.entry [] (subst (IsRising g.K.Ord.cmp) (sym (append-nil es)) c.self.invariant) below tt)
