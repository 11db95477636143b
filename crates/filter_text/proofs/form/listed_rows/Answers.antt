use Rattle.filter_text.proofs.SelectionLaws.{listed_long}
use Rattle.filter_text.proofs.form.listed_rows.Goals as goal

pub returns-in_default : goal.returns-in_default
returns-in_default c = listed_long c.args.list.now c.args.rest.now c.requires c.in_default.ensures.none
