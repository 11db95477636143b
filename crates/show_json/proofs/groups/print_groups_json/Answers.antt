use Rattle.std.proofs.Common.{subst}
use Rattle.json_pieces.specs.Telling.{LineValue, Tells, at}
use Rattle.show_json.specs.Private.Kept.{columns_in}
use Rattle.show_json.specs.Text.{json_text_of}
use Rattle.show_json.proofs.groups.print_groups_json.Goals as goal

pub returns : goal.returns
returns g c =
    let text = json_text_of (columns_in c.args.tables.now) c.args.groups.now.items in
    let begun = g.O.Out.written c.args.out.now in
    c.finish.ensures begun text (subst (λ (l : LineValue). Tells (at begun l) (at (g.O.Out.written c.put_groups.new.out) c.put_groups.new.line) text) c.new-line.ensures c.put_groups.ensures)
