use Rattle.feed_bytes.proofs.set_laws.set_laws.Goals as goal

pub returns : goal.returns
returns c = record {
  subset = λ a b x y. (c.within_is_subset.ensures a b x y).0;
  computed = λ a b x y. (c.within_is_subset.ensures a b x y).1;
  union_around = c.union_with_a_superset_is_the_superset.ensures.computed_behind;
  union_within = c.union_with_a_superset_is_the_superset.ensures.computed_before;
  canonical = c.positions_are_canonical.ensures;
}
