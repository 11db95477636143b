use Rattle.std.proofs.Common.{◌≡◌, ◌∙◌, List, subst, sym, refl, None, Err, map, option_map}
use Rattle.std.proofs.lemmas.Result.{err_from_is_err_and}
use Rattle.log_feed.specs.Table.{table_value}
use Rattle.log_feed.specs.declared.table.FeedTable.{FeedTable}
use Rattle.vrepl_transcribe.specs.Transcribed.{names_of}
use Rattle.vrepl_transcribe.specs.Private.Steps.{AnswersNames, IsWhyOf}
use Rattle.vrepl_transcribe.specs.Source.{first_unplain}
use Rattle.vrepl_transcribe.proofs.EndLaws.{names_under, why_from, written_from}
use Rattle.vrepl_transcribe.proofs.SourceLaws.{is_source}
use Rattle.vrepl_transcribe.proofs.transcribing.write_under.Goals as goal

pub returns-in_err-names_are_plain : goal.returns-in_err-names_are_plain
returns-in_err-names_are_plain g c =
    let p = err_from_is_err_and c.from_residual.result c.from_residual.ensures.1 in
    rw (p.1, p.2)
    (names_under c.args.inputs c.args.plan.now (g.L.LogFiles.gives c.args.files.now) (g.L.LogFiles.many c.args.files.now) c.in_err-names_are_plain.field-0.0 (g.W.Out.written c.args.out.now) (g.W.Out.written c.args.out.now)
    (subst (λ tables. AnswersNames tables (Err c.in_err-names_are_plain.field-0.0)) c.tables-tables.ensures.tables c.in_err-names_are_plain.ensures))

pub returns-in-Ok : goal.returns-in-Ok
returns-in-Ok g c =
    let plain : first_unplain c.args.plan.now.tables ≡ None = rw c.tables-tables.ensures.tables at c.in_ok-names_are_plain.ensures in
    written_from c.args.inputs c.args.plan.now (g.L.LogFiles.gives c.args.files.now) (g.L.LogFiles.many c.args.files.now) _ (g.W.Out.written c.args.out.now) (g.W.Out.written c.write_from.new.out)
    (rw (c.keyspace.ensures, c.shard.ensures, c.schema_of.ensures, c.deref.ensures.value, c.in_ok-tables.ensures, c.tables-tables.ensures.tables) refl) plain (is_source c.args.plan.now (option_map (λ name. name.now) c.args.inputs.schema) c.tables-tables.ensures.well_formed plain) c.in-Ok.ensures

pub returns : goal.returns
returns g c =
    let plain : first_unplain c.args.plan.now.tables ≡ None = rw c.tables-tables.ensures.tables at c.in_ok-names_are_plain.ensures in
    why_from c.args.inputs c.args.plan.now (g.L.LogFiles.gives c.args.files.now) (g.L.LogFiles.many c.args.files.now) _ c.in-Err.error c.why_of.result (g.W.Out.written c.args.out.now) (g.W.Out.written c.write_from.new.out)
    (rw (c.keyspace.ensures, c.shard.ensures, c.schema_of.ensures, c.deref.ensures.value, c.in_ok-tables.ensures, c.tables-tables.ensures.tables) refl) plain c.in-Err.ensures
    (subst (λ (ts : List FeedTable). IsWhyOf (names_of c.args.inputs) (map table_value ts) c.in-Err.error c.why_of.result) (c.deref-in-Err.ensures.value ∙ sym c.deref.ensures.value) c.why_of.ensures)
