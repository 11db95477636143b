use Rattle.log_places.proofs.NextLaws.{with-last}
use Rattle.log_places.proofs.places.with_last.Goals as goal

pub returns-in-Ok-add : goal.returns-in-Ok-add
returns-in-Ok-add c =
    with-last (record {
      equal = c.equal_members_equal_sets.ensures;
      canonical = c.union_is_the_least_set_over_both.ensures.canonical;
      pairs = c.union_is_the_least_set_over_both.ensures.pairs;
    }) c.args.reached.now c.in-Ok.set c.add.new.self c.args.added.now c.to_be_bytes.result c.requires.interval c.requires.lacks c.in-Ok.ensures.value c.to_be_bytes.ensures c.in-Ok-add.ensures.value
