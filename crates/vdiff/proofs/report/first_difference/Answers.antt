use Rattle.std.proofs.Common.{◌≡◌, ◌∙◌, ◌⊎◌, inl, inr, [], sym}
use Rattle.vdiff.proofs.ReportLaws.{same_for_longer, stops_at_source, stops_at_target, stops_at_rows, none_of, rest_of_source, rest_of_target}
use Rattle.vdiff.proofs.report.first_difference.Goals as goal
use Rattle.vdiff.proofs.report.first_difference.Goals.{in_default, in_default-2}

pub returns-in-Less : goal.returns-in-Less
returns-in-Less c =
    let w = rw (c.in-Some-Some.ensures.cases.0, c.in-Some-Some.ensures'.cases.0) at c.loop-ours.invariant in
    stops_at_source _ _ _ _ _ _ w (sym c.cmp.ensures ∙ c.in-Less.is)

pub returns-in-Greater : goal.returns-in-Greater
returns-in-Greater c =
    let w = rw (c.in-Some-Some.ensures.cases.0, c.in-Some-Some.ensures'.cases.0) at c.loop-ours.invariant in
    stops_at_target _ _ _ _ _ _ w (sym c.cmp.ensures ∙ c.in-Greater.is)

pub returns-then-not-same : goal.returns-then-not-same
returns-then-not-same c =
    let w = rw (c.in-Some-Some.ensures.cases.0, c.in-Some-Some.ensures'.cases.0) at c.loop-ours.invariant in
    stops_at_rows _ _ _ _ _ _ w ((c.keys_tie_where_they_are_equal.ensures _ _).0 (sym c.cmp.ensures ∙ c.in-Equal.is)) (λ e. let told = c.same.ensures.1 e in let h = c.if-not-same.true in cc)

pub loop-ours-preserved : goal.loop-ours-preserved
loop-ours-preserved c =
    let w = rw (c.in-Some-Some.ensures.cases.0, c.in-Some-Some.ensures'.cases.0) at c.loop-ours.invariant in
    same_for_longer _ _ _ _ _ _ w ((c.keys_tie_where_they_are_equal.ensures _ _).0 (sym c.cmp.ensures ∙ c.in-Equal.is)) (c.same.ensures.0 c.if-not-same.false)

pub returns-in-Some-default : goal.returns-in-Some-default
returns-in-Some-default c =
    let end = elim c.match-split_first.branch as (λ b. (c.loop-ours.left.now ≡ []) ⊎ (c.loop-ours.right.now ≡ [])) [ in_default w ↦ inr (none_of _ w.in_default.ensures'.cases) | in_default-2 w ↦ inl (none_of _ w.in_default.ensures.cases) ] in
    rest_of_source _ _ _ _ _ c.loop-ours.invariant end c.in-Some-default.ensures.value

pub returns-in-None-Some : goal.returns-in-None-Some
returns-in-None-Some c = rest_of_target _ _ _ _ _ c.loop-ours.invariant c.in-None-Some.ensures.value c.in-None-Some.ensures'.value
