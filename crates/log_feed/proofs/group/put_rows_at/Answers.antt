use Rattle.std.proofs.Common.{map, sym, ap, ◌∙◌, option_map}
use Rattle.log_feed.specs.Table.{table_value}
use Rattle.log_feed.proofs.GroupLaws.{nothing-told}
use Rattle.log_feed.proofs.group.put_rows_at.Goals as goal

pub returns-in-None : goal.returns-in-None
returns-in-None c =
    rw (sym c.table_of.ensures ∙ ap (option_map (λ x. (x.0, table_value x.1.now))) c.in-None.is) (nothing-told (map (λ e. e.items) c.args.events.now.items) c.args.stages.now.items)

pub returns-in-Some : goal.returns-in-Some
returns-in-Some c = rw (sym c.table_of.ensures ∙ ap (option_map (λ x. (x.0, table_value x.1.now))) c.in-Some.is) c.put_rows_there.ensures
