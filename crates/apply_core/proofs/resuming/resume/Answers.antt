use Rattle.std.proofs.Common.{◌≤◌, map, sym, subst}
use Rattle.std.proofs.lemmas.List.{length-map}
use Rattle.std.proofs.lemmas.Result.{err_from_is_err_and}
use Rattle.std.specs.Arc.{arc_value}
use Rattle.apply_core.proofs.AfterSaveLaws.{fed_of, comes_back, are_feeds, unfed_refused, fed_taken, all_refused}
use Rattle.apply_core.proofs.AfterAddingLaws.{comes_back_with_more}
use Rattle.apply_core.proofs.ScheduleLaws.{if-answered}
use Rattle.apply_core.proofs.resuming.resume.Goals as goal

pub resumed_over-requires-clause-feeds : goal.resumed_over-requires-clause-feeds
resumed_over-requires-clause-feeds c =
    are_feeds (map arc_value c.args.plans.now) c.args.feeds.now (subst (λ n. 1 ≤ n) (sym (length-map c.args.plans.now arc_value)) c.requires.some)
    (subst (λ n. n ≤ 64) (sym (length-map c.args.plans.now arc_value)) c.requires.few) c.in_ok-judge_feeds.ensures.fed c.in_ok-judge_feeds.ensures.whole

pub returns-in_err-judge_feeds-clause-refused : goal.returns-in_err-judge_feeds-clause-refused
returns-in_err-judge_feeds-clause-refused c =
    let p = err_from_is_err_and c.from_residual.result c.from_residual.ensures.1 in
    rw (p.1, p.2) (unfed_refused (map arc_value c.args.plans.now) c.args.feeds.now c.args.bytes.now c.in_err-judge_feeds.field-0.0 c.in_err-judge_feeds.ensures.refused)

pub returns-in_err-judge_feeds-clause-after_save : goal.returns-in_err-judge_feeds-clause-after_save
returns-in_err-judge_feeds-clause-after_save c = λ board of.
    fed_taken (map arc_value c.args.plans.now) c.args.feeds.now c.in_err-judge_feeds.field-0.0 (fed_of (map arc_value c.args.plans.now) c.args.feeds.now c.args.bytes.now board of) c.in_err-judge_feeds.ensures.refused

pub returns-in_err-judge_feeds-clause-after_adding : goal.returns-in_err-judge_feeds-clause-after_adding
returns-in_err-judge_feeds-clause-after_adding c = λ board of.
    fed_taken (map arc_value c.args.plans.now) c.args.feeds.now c.in_err-judge_feeds.field-0.0 of.fed c.in_err-judge_feeds.ensures.refused

pub returns-clause-after_adding : goal.returns-clause-after_adding
returns-clause-after_adding c = λ board of.
    let are = are_feeds (map arc_value c.args.plans.now) c.args.feeds.now (subst (λ n. 1 ≤ n) (sym (length-map c.args.plans.now arc_value)) c.requires.some)
    (subst (λ n. n ≤ 64) (sym (length-map c.args.plans.now arc_value)) c.requires.few) c.in_ok-judge_feeds.ensures.fed c.in_ok-judge_feeds.ensures.whole in
    comes_back_with_more (λ a b. (c.keys_tie_where_they_are_equal.ensures a b).0) c.saved_boards_are_said_of_more.ensures c.checkpoints_say_one_thing.ensures c.extended_boards_are_resumed.ensures (map arc_value c.args.plans.now)
    c.know_plans.ensures c.args.feeds.now c.args.bytes.now c.know_length.ensures board of are c.resumed_over.result c.resumed_over.ensures.resumed c.resumed_over.ensures.refused

pub returns-clause-fed : goal.returns-clause-fed
returns-clause-fed c = if-answered c.resumed_over.result c.in_ok-judge_feeds.ensures.fed

pub returns-clause-refused : goal.returns-clause-refused
returns-clause-refused c = all_refused (map arc_value c.args.plans.now) c.args.feeds.now c.args.bytes.now c.resumed_over.result c.in_ok-judge_feeds.ensures.fed c.resumed_over.ensures.refused

pub returns-clause-after_save : goal.returns-clause-after_save
returns-clause-after_save c = λ board of.
    let are = are_feeds (map arc_value c.args.plans.now) c.args.feeds.now (subst (λ n. 1 ≤ n) (sym (length-map c.args.plans.now arc_value)) c.requires.some)
    (subst (λ n. n ≤ 64) (sym (length-map c.args.plans.now arc_value)) c.requires.few) c.in_ok-judge_feeds.ensures.fed c.in_ok-judge_feeds.ensures.whole in
    comes_back (λ a b. (c.keys_tie_where_they_are_equal.ensures a b).0) c.saved_boards_are_said.ensures c.checkpoints_say_one_thing.ensures c.restarted_boards_are_resumed.ensures (map arc_value c.args.plans.now) c.know_plans.ensures
    c.args.feeds.now c.args.bytes.now c.know_length.ensures board of are c.resumed_over.result c.resumed_over.ensures.resumed c.resumed_over.ensures.refused
