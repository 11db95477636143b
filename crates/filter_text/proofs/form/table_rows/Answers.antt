use Rattle.std.proofs.Common.{arith}
use Rattle.std.proofs.lemmas.Grind.{common_steps}
use Rattle.filter_text.proofs.SliceLaws.{one, nothing_behind, table_read}
use Rattle.filter_text.proofs.form.table_rows.Goals as goal

pub returns-in-empty : goal.returns-in-empty
returns-in-empty c = nothing_behind c.args.columns c.args.tokens.now c.in-empty.len_below

pub returns-in-len1-up : goal.returns-in-len1-up
returns-in-len1-up c =
    let parts = one c.args.tokens.now c.in-len1-up.len_at_least in
    rw parts.is (table_read c.args.columns parts.a parts.rest _ c.from_table.result (rw parts.is at c.from_table.ensures) (grind (arith, common_steps)))
