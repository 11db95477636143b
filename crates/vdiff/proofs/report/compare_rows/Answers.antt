use Rattle.std.proofs.Common.{◌∙◌, sym, inl, inr}
use Rattle.vdiff.proofs.ReportLaws.{none_of, walk_ends, walks_matching, walks_mismatched, walks_source, walks_target}
use Rattle.vdiff.proofs.report.compare_rows.Goals as goal
use Rattle.vdiff.proofs.report.compare_rows.Goals.{in_default, in_default-2}

pub loop-ours-preserved-in-Less : goal.loop-ours-preserved-in-Less
loop-ours-preserved-in-Less c =
    let w = rw (c.in-Some-Some.ensures.cases.0, c.in-Some-Some.ensures'.cases.0) at c.loop-ours.invariant in
    rw c.in-Some-Some.ensures'.cases.0 (walks_source _ _ _ _ _ _ _ _ _ _ w (sym c.cmp.ensures ∙ c.in-Less.is))

pub loop-ours-preserved-in-Greater : goal.loop-ours-preserved-in-Greater
loop-ours-preserved-in-Greater c =
    let w = rw (c.in-Some-Some.ensures.cases.0, c.in-Some-Some.ensures'.cases.0) at c.loop-ours.invariant in
    rw c.in-Some-Some.ensures.cases.0 (walks_target _ _ _ _ _ _ _ _ _ _ w (sym c.cmp.ensures ∙ c.in-Greater.is))

pub loop-ours-preserved-then-same : goal.loop-ours-preserved-then-same
loop-ours-preserved-then-same c =
    let w = rw (c.in-Some-Some.ensures.cases.0, c.in-Some-Some.ensures'.cases.0) at c.loop-ours.invariant in
    walks_matching _ _ _ _ _ _ _ _ _ _ w ((c.keys_tie_where_they_are_equal.ensures _ _).0 (sym c.cmp.ensures ∙ c.in-Equal.is)) (c.same.ensures.0 c.if-same.true)

pub loop-ours-preserved : goal.loop-ours-preserved
loop-ours-preserved c =
    let w = rw (c.in-Some-Some.ensures.cases.0, c.in-Some-Some.ensures'.cases.0) at c.loop-ours.invariant in
    walks_mismatched _ _ _ _ _ _ _ _ _ _ w ((c.keys_tie_where_they_are_equal.ensures _ _).0 (sym c.cmp.ensures ∙ c.in-Equal.is)) (λ e. let told = c.same.ensures.1 e in cc)

pub returns : goal.returns
returns c = walk_ends _ _ _ _ _ _ _ _ c.loop-ours.invariant (elim c.match-split_first.branch [ in_default w ↦ inr (none_of _ w.in_default.ensures'.cases) | in_default-2 w ↦ inl (none_of _ w.in_default.ensures.cases) ])
