use Rattle.std.proofs.Common.{◌≤◌, ◌∙◌, List, length, sym, subst}
use Rattle.std.proofs.lemmas.Bool.{true≢false}
use Rattle.std.proofs.lemmas.Result.{err_from_is_err_and}
use Rattle.vevent.specs.CheckpointPart.{TablePartValue}
use Rattle.checkpoint_laws.specs.Saved.{SavedStream}
use Rattle.checkpoint_laws.specs.Said.{SaysStream}
use Rattle.checkpoint_core.specs.Private.Reading.{SayTables}
use Rattle.checkpoint_core.proofs.Items.{nothing_by}
use Rattle.checkpoint_core.proofs.ReadLaws.{stream_said, tables_of_said, some_tables, few_tables}
use Rattle.checkpoint_core.proofs.reading.read_stream.Goals as goal

pub read_tables-requires-clause-some : goal.read_tables-requires-clause-some
read_tables-requires-clause-some c =
    subst (λ (ts : List TablePartValue). 1 ≤ length ts) (sym (c.deref.ensures.value ∙ c.in_ok-tables.ensures))
    (some_tables c.args.version c.args.plan.now (length c.args.part.now.tables) c.tables.ensures.well_formed.tables.count.0 (c.has_so_many.ensures.0 c.if-not-has_so_many.false))

pub read_tables-requires-clause-few : goal.read_tables-requires-clause-few
read_tables-requires-clause-few c =
    subst (λ (ts : List TablePartValue). length ts ≤ length c.args.plan.now.tables) (sym (c.deref.ensures.value ∙ c.in_ok-tables.ensures))
    (few_tables c.args.version c.args.plan.now (length c.args.part.now.tables) (c.has_so_many.ensures.0 c.if-not-has_so_many.false))

pub returns-in_err-saved-clause-err : goal.returns-in_err-saved-clause-err
returns-in_err-saved-clause-err c =
    let p = err_from_is_err_and c.from_residual-in_err-saved.result c.from_residual-in_err-saved.ensures.1 in
    rw (p.1, p.2) (nothing_by (SayTables c.args.version c.args.plan.now c.deref.result.now) (λ (saved : SavedStream). SaysStream c.args.version c.args.plan.now saved c.args.part.now)
    (λ none saved h. none saved (tables_of_said c.args.version c.args.plan.now c.args.part.now c.deref.result.now saved (c.deref.ensures.value ∙ c.in_ok-tables.ensures) h))
    c.in_err-saved.field-0.0 c.in_err-saved.ensures.err)

pub returns-then-not-is_of_shard-clause-err : goal.returns-then-not-is_of_shard-clause-err
returns-then-not-is_of_shard-clause-err c = λ saved h. true≢false (sym (c.is_of_shard.ensures.1 h.shard) ∙ c.if-not-is_of_shard.true)

pub returns-then-not-has_so_many-clause-err : goal.returns-then-not-has_so_many-clause-err
returns-then-not-has_so_many-clause-err c = λ saved h. true≢false (sym (c.has_so_many.ensures.1 h.count) ∙ c.if-not-has_so_many.true)

pub returns-clause-ok : goal.returns-clause-ok
returns-clause-ok c =
    let says : SayTables c.args.version c.args.plan.now c.in_ok-tables.tables.items c.in_ok-saved.saved =
    subst (λ (ts : List TablePartValue). SayTables c.args.version c.args.plan.now ts c.in_ok-saved.saved) c.deref.ensures.value c.in_ok-saved.ensures.ok in
    stream_said c.args.version c.args.plan.now c.args.part.now c.in_ok-tables.tables.items c.in_ok-saved.saved (c.is_of_shard.ensures.0 c.if-not-is_of_shard.false) (c.has_so_many.ensures.0 c.if-not-has_so_many.false)
    c.in_ok-tables.ensures says
