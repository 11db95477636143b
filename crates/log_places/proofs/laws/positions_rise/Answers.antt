use Rattle.log_places.proofs.RiseLaws.{positions-rise}
use Rattle.log_places.proofs.laws.positions_rise.Goals as goal

pub returns : goal.returns
returns c = positions-rise (record {
  within = c.within_is_subset.ensures;
  canonical = c.union_is_the_least_set_over_both.ensures.canonical;
  one = c.union_is_the_least_set_over_both.ensures.holds_one;
  other = c.union_is_the_least_set_over_both.ensures.holds_other;
})
