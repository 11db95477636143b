use Rattle.std.proofs.Common.{◌∙◌, ap, refl, sym}
use Rattle.std.specs.Prelude.{Ok}
use Rattle.std.proofs.lemmas.Result.{err_from_is_err_and}
use Rattle.show_json.specs.Columns.{columns_of}
use Rattle.vrepl_main.specs.Command.{IsGivenText}
use Rattle.vrepl_main.specs.Show.{shown_source}
use Rattle.vrepl_main.proofs.CommandLaws.{PrintsWhole-text, refuses, refuses_unwritten}
use Rattle.vrepl_show.specs.ShowJson.{json_groups}
use Rattle.vrepl_show.proofs.LineLaws.{refuses-lines, same-lines}
use Rattle.vrepl_show.proofs.showing.print_bytes.Goals as goal

pub returns-in_err-groups : goal.returns-in_err-groups
returns-in_err-groups g c =
    let p = err_from_is_err_and c.from_residual.result c.from_residual.ensures.1 in
    rw (p.1, p.2) (refuses IsGivenText _ _ _ (refuses-lines _ c.in_err-groups.field-0.0 _ c.in_err-groups.ensures.exact))

pub returns-in_err-print_groups_json : goal.returns-in_err-print_groups_json
returns-in_err-print_groups_json g c =
    let p = err_from_is_err_and c.from_residual-in_err-print_groups_json.result c.from_residual-in_err-print_groups_json.ensures.1 in
    let lines = ap Ok (sym (same-lines _ _ c.in_ok-tables.ensures c.in_ok-groups.groups.items)) in
    rw p.1 (refuses_unwritten IsGivenText p.0 _ _ _ _ _ (ap (json_groups (columns_of c.args.feed.now (shown_source c.args.keyspace.now c.args.shard.now))) c.in_ok-groups.ensures.exact ∙ lines) refl c.in_err-print_groups_json.ensures p.2)

pub returns : goal.returns
returns g c =
    let lines = ap Ok (sym (same-lines _ _ c.in_ok-tables.ensures c.in_ok-groups.groups.items)) in
    PrintsWhole-text _ _ _ _ (ap (json_groups (columns_of c.args.feed.now (shown_source c.args.keyspace.now c.args.shard.now))) c.in_ok-groups.ensures.exact ∙ lines) c.in_ok-print_groups_json.ensures
