use Rattle.std.proofs.Common.{◌∷◌, ℕ, List, drop, sym, ap, subst, ◌∙◌}
use Rattle.target_tables.specs.Common.{common}
use Rattle.target_tables.specs.Rising.{IsRising}
use Rattle.target_tables.proofs.Meetings.{rest_rises, common_less, common_greater, common_equal, common_end}
use Rattle.target_tables.proofs.common.next_common.Goals as goal

pub loop-key-preserved-in-Less : goal.loop-key-preserved-in-Less
loop-key-preserved-in-Less g c = (
  subst (IsRising g.K.Ord.cmp) (sym c.advance.ensures) (rest_rises g.K.Ord.cmp c.loop-key.one c.loop-key.invariant.0),
  c.loop-key.invariant.1,
  ap (λ (l : List (g.row.K.Denot × (ℕ × g.row.R.Denot))). common g.K.Ord.cmp l c.loop-key.other) c.advance.ensures
      ∙ common_less g.met.K.Ord.total c.loop-key.one c.loop-key.other c.in-Some.key.now c.in-Some-front.also.now c.in-Some.here c.in-Some-front.there c.in-Some.ensures c.in-Some-front.ensures (sym c.cmp.ensures ∙ c.in-Less.is) c.loop-key.invariant.1
      ∙ c.loop-key.invariant.2,
)

pub loop-key-preserved : goal.loop-key-preserved
loop-key-preserved g c = (
  c.loop-key.invariant.0,
  subst (IsRising g.K.Ord.cmp) (sym c.advance-in-Greater.ensures) (rest_rises g.K.Ord.cmp c.loop-key.other c.loop-key.invariant.1),
  ap (λ (l : List (g.row.K.Denot × (ℕ × g.row.R.Denot))). common g.K.Ord.cmp c.loop-key.one l) c.advance-in-Greater.ensures
      ∙ common_greater g.met.K.Ord.total c.loop-key.one c.loop-key.other c.in-Some.key.now c.in-Some-front.also.now c.in-Some.here c.in-Some-front.there c.in-Some.ensures c.in-Some-front.ensures (sym c.cmp.ensures ∙ c.in-Greater.is) c.loop-key.invariant.0
      ∙ c.loop-key.invariant.2,
)

pub returns-in-Equal-clause-next : goal.returns-in-Equal-clause-next
returns-in-Equal-clause-next g c =
    let met : g.row.K.Denot × (ℕ × ℕ) = (c.in-Some.key.now, (c.in-Some.here, c.in-Some-front.there)) in
    sym c.loop-key.invariant.2
    ∙ common_equal g.met.K.Ord.total c.loop-key.one c.loop-key.other c.in-Some.key.now c.in-Some-front.also.now c.in-Some.here c.in-Some-front.there c.in-Some.ensures c.in-Some-front.ensures (sym c.cmp.ensures ∙ c.in-Equal.is) c.loop-key.invariant.0
    ∙ ap (λ (l : List (g.row.K.Denot × (ℕ × g.row.R.Denot))). met ∷ common g.K.Ord.cmp l (drop 1 c.loop-key.other)) (sym c.advance-in-Equal.ensures)
    ∙ ap (λ (l : List (g.row.K.Denot × (ℕ × g.row.R.Denot))). met ∷ common g.K.Ord.cmp c.advance-in-Equal.new.self l) (sym c.advance-in-Equal-2.ensures)

pub returns-in-None-clause-next : goal.returns-in-None-clause-next
returns-in-None-clause-next g c =
    sym c.loop-key.invariant.2 ∙ ap (λ (l : List (g.row.K.Denot × (ℕ × g.row.R.Denot))). common g.K.Ord.cmp c.loop-key.one l) c.in-None.ensures ∙ common_end g.met.K.Ord.total c.loop-key.one
