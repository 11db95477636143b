use Rattle.std.proofs.Common.{◌≡◌, List, [], ◌∷◌, ◌++◌, reverse, sym, ap, subst, ◌∙◌, arith}
use Rattle.std.proofs.lemmas.List.{append_assoc, reverse-append}
use Rattle.std.specs.declared.cmp.Ordering.TheVariants.{Less}
use Rattle.target_tables.specs.Rising.{AreBelow}
use Rattle.target_tables.proofs.Order.{all_join}
use Rattle.target_tables.proofs.page.move_lesser.Goals as goal

pub loop-upper-preserved : goal.loop-upper-preserved
loop-upper-preserved g c =
    let lower : List (g.row.K.Denot × g.row.V.Denot) = c.loop-upper.lower.items in
    let rest : List (g.row.K.Denot × g.row.V.Denot) = c.take_last-entry.new.self.items in
    let e : g.row.K.Denot × g.row.V.Denot = c.take_last-entry.result in
    let Q : List (g.row.K.Denot × g.row.V.Denot) → Type 0 = AreBelow g.K.Ord.cmp c.args.key.now in
    record {
      entries =
          ap (λ (l : List (g.row.K.Denot × g.row.V.Denot)). l ++ reverse rest) c.push_reserved.ensures.items
          ∙ append_assoc lower (e ∷ []) (reverse rest)
          ∙ ap (λ (l : List (g.row.K.Denot × g.row.V.Denot)). lower ++ l) (sym (ap (λ (l : List (g.row.K.Denot × g.row.V.Denot)). reverse l) c.take_last-entry.ensures.items ∙ reverse-append rest (e ∷ [])))
          ∙ c.loop-upper.invariant.entries;
      count = omega arith;
      below = λ h. subst Q (sym c.push_reserved.ensures.items)
          (all_join (λ f. g.K.Ord.cmp f.0 c.args.key.now ≡ Less) lower (e ∷ []) (c.loop-upper.invariant.below h)
          (c.ends_below.ensures.below c.loop-upper-test.true rest e (c.deref.ensures.value ∙ c.take_last-entry.ensures.items), tt));
      lower_room = omega arith;
      upper_room = omega arith;
    }
