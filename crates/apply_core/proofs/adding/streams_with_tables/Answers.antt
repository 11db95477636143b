use Rattle.std.proofs.Common.{map}
use Rattle.std.specs.Arc.{arc_value}
use Rattle.apply_core.proofs.AddLaws.{as_many_as, feeds_extend, stopped_all}
use Rattle.apply_core.proofs.ScheduleLaws.{if-answered}
use Rattle.apply_core.proofs.adding.streams_with_tables.Goals as goal

pub streams_of_more-requires-clause-count : goal.streams_of_more-requires-clause-count
streams_of_more-requires-clause-count c = as_many_as (map arc_value c.args.plans.now) c.args.feeds.now c.args.board.now c.in_ok-judge_plans.ensures.taken

pub streams_of_more-requires-clause-few : goal.streams_of_more-requires-clause-few
streams_of_more-requires-clause-few c = c.is_lawful.ensures.few

pub streams_of_more-requires-clause-extend : goal.streams_of_more-requires-clause-extend
streams_of_more-requires-clause-extend c = feeds_extend (map arc_value c.args.plans.now) c.args.feeds.now c.args.board.now c.in_ok-judge_plans.ensures.taken

pub returns-clause-taken : goal.returns-clause-taken
returns-clause-taken c = if-answered c.streams_of_more.result c.in_ok-judge_plans.ensures.taken

pub returns-clause-whole : goal.returns-clause-whole
returns-clause-whole c = if-answered c.streams_of_more.result c.in_ok-judge_plans.ensures.whole

pub returns-clause-refused : goal.returns-clause-refused
returns-clause-refused c = stopped_all (map arc_value c.args.plans.now) c.args.feeds.now c.args.board.now c.in_ok-judge_plans.ensures.taken c.streams_of_more.result c.streams_of_more.ensures.err
