use Rattle.std.proofs.Common.{◌≡◌, ◌∙◌, Ok, Err, inr, length, map, sym, ap, subst}
use Rattle.std.proofs.lemmas.Result.{err_from_is_err_and}
use Rattle.std.specs.Arc.{arc_value}
use Rattle.std.specs.String.{string_bytes}
use Rattle.source_feed.specs.Planned.{groups_under}
use Rattle.vrepl_main.specs.Opening.{feed_under}
use Rattle.vrepl_compact.proofs.AskedLaws.{compacted_behind, given_memory, one_error, opened_as, opens_as, refused_at, refused_behind, told_behind}
use Rattle.vrepl_compact.proofs.compacting.compacted_of.Goals as goal

pub compacted_feed-requires-clause-bytes : goal.compacted_feed-requires-clause-bytes
compacted_feed-requires-clause-bytes g c =
    let plan = arc_value c.args.plan.now in
    let opened = opened_as plan (groups_under c.args.bytes.now plan) c.in_ok-feed.feed c.in_ok-feed.ensures.given in
    subst (λ p. groups_under c.args.bytes.now p ≡ Ok c.in_ok-feed.feed.groups) (sym opened.1) opened.0

pub returns-clause-compacted : goal.returns-clause-compacted
returns-clause-compacted g c =
    let plan = arc_value c.args.plan.now in
    let made = c.in_ok-new.new.made in
    compacted_behind c.args.inputs.now (feed_under plan (groups_under c.args.bytes.now plan)) (λ feed. Ok (record { plans = map arc_value c.args.plans.now; bytes = c.args.bytes.now; feed = feed }))
    c.in_ok-feed.feed made.groups made.rows made.feed c.in_ok-feed.ensures.given c.in_ok-new.ensures.compacted

pub returns-in_err-feed-clause-refused : goal.returns-in_err-feed-clause-refused
returns-in_err-feed-clause-refused g c =
    let plan = arc_value c.args.plan.now in
    let p = err_from_is_err_and c.from_residual.result c.from_residual.ensures.1 in
    rw (p.1, p.2)
    (refused_at c.in_err-feed.field-0.0 (feed_under plan (groups_under c.args.bytes.now plan)) (λ feed. Ok (record { plans = map arc_value c.args.plans.now; bytes = c.args.bytes.now; feed = feed })) c.in_err-feed.ensures.given)

pub returns-in_err-new-clause-refused : goal.returns-in_err-new-clause-refused
returns-in_err-new-clause-refused g c =
    let plan = arc_value c.args.plan.now in
    let p = err_from_is_err_and c.from_residual-in_err-new.result c.from_residual-in_err-new.ensures.1 in
    rw (p.1, p.2)
    (refused_behind c.args.inputs.now c.in_err-new.field-0.0 (feed_under plan (groups_under c.args.bytes.now plan)) (λ feed. Ok (record { plans = map arc_value c.args.plans.now; bytes = c.args.bytes.now; feed = feed }))
    c.in_ok-feed.feed c.in_ok-feed.ensures.given c.in_err-new.ensures.refused)

pub returns-clause-told : goal.returns-clause-told
returns-clause-told g c =
    let plan = arc_value c.args.plan.now in
    let made = c.in_ok-new.new.made in
    told_behind (feed_under plan (groups_under c.args.bytes.now plan)) (λ feed. Ok (record { plans = map arc_value c.args.plans.now; bytes = c.args.bytes.now; feed = feed })) c.in_ok-feed.feed made.groups made.rows (length made.feed)
    (string_bytes c.in_ok-new.new.line) c.in_ok-feed.ensures.given c.in_ok-new.ensures.told

pub returns-in_err-feed-clause-memory : goal.returns-in_err-feed-clause-memory
returns-in_err-feed-clause-memory g c e =
    let p = err_from_is_err_and c.from_residual.result c.from_residual.ensures.1 in
    c.in_err-feed.ensures.memory (ap Err (given_memory c.in_err-feed.field-0.0 (sym p.2 ∙ one_error c.from_residual.result _ _ p.1 e)))

pub returns-in_err-plan-clause-memory : goal.returns-in_err-plan-clause-memory
returns-in_err-plan-clause-memory g c e =
    let plan = arc_value c.args.plan.now in
    inr (opens_as plan (groups_under c.args.bytes.now plan) c.in_ok-feed.feed c.in_ok-feed.ensures.given)

pub returns-in_err-new-clause-memory : goal.returns-in_err-new-clause-memory
returns-in_err-new-clause-memory g c e =
    let plan = arc_value c.args.plan.now in
    inr (opens_as plan (groups_under c.args.bytes.now plan) c.in_ok-feed.feed c.in_ok-feed.ensures.given)
