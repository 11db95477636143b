use Rattle.std.proofs.Common.{Err}
use Rattle.std.proofs.lemmas.Result.{err_from_is_err_and}
use Rattle.source_feed.specs.Private.NamedGroups.{all_named}
use Rattle.source_feed.proofs.FirstFaultLaws.{refusal_stands}
use Rattle.source_feed.proofs.groups.read_groups.Goals as goal

pub returns-in_err-kept-clause-first : goal.returns-in_err-kept-clause-first
returns-in_err-kept-clause-first c =
    let p = err_from_is_err_and c.from_residual.result c.from_residual.ensures.1 in
    rw (p.1, p.2) (refusal_stands all_named c.args.feed.now (record { keyspace = c.args.keyspace.now; shard = c.args.shard.now }) (Err c.in_err-kept.field-0.0) c.in_err-kept.ensures.groups)
