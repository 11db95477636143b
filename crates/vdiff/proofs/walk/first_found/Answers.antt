use Rattle.std.proofs.Common.{◌∙◌, sym}
use Rattle.vdiff.proofs.ReportLaws.{all_above}
use Rattle.vdiff.proofs.WalkLaws.{above_of_greater, next_through}
use Rattle.vdiff.proofs.walk.first_found.Goals as goal

pub of_source-requires-in-Less-clause-target : goal.of_source-requires-in-Less-clause-target
of_source-requires-in-Less-clause-target c =
    let w = rw (c.in-Some-Some.ensures.cases.0, c.in-Some-Some.ensures'.cases.0) at c.behind_same.ensures.walked in
    rw c.in-Some-Some.ensures'.cases.0 (all_above c.in-Some-Some.ours.now.0 c.in-Some-Some.theirs.now c.in-Some-Some.rights.now w.right_rises (sym c.cmp.ensures ∙ c.in-Less.is))

pub of_target-requires-in-Greater-clause-source : goal.of_target-requires-in-Greater-clause-source
of_target-requires-in-Greater-clause-source c =
    let w = rw (c.in-Some-Some.ensures.cases.0, c.in-Some-Some.ensures'.cases.0) at c.behind_same.ensures.walked in
    rw c.in-Some-Some.ensures.cases.0 (above_of_greater c.in-Some-Some.ours.now c.in-Some-Some.theirs.now c.in-Some-Some.lefts.now w.left_rises (sym c.cmp.ensures ∙ c.in-Greater.is))

pub of_both-requires-clause-key : goal.of_both-requires-clause-key
of_both-requires-clause-key c = (c.keys_tie_where_they_are_equal.ensures _ _).0 (sym c.cmp.ensures ∙ c.in-Equal.is)

pub of_both-requires-clause-rows : goal.of_both-requires-clause-rows
of_both-requires-clause-rows c =
    let stops = rw (c.in-Some-Some.ensures.cases.0, c.in-Some-Some.ensures'.cases.0) at c.behind_same.ensures.stops in
    let key = (c.keys_tie_where_they_are_equal.ensures _ _).0 (sym c.cmp.ensures ∙ c.in-Equal.is) in
    λ rows. stops (λ i. (key i, rows i))

pub returns-in-Equal : goal.returns-in-Equal
returns-in-Equal c =
    let w = rw (c.in-Some-Some.ensures.cases.0, c.in-Some-Some.ensures'.cases.0) at c.behind_same.ensures.walked in
    next_through _ _ _ _ _ _ _ w c.of_both.ensures
