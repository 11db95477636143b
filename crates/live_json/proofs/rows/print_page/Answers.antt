use Rattle.std.proofs.Common.{map}
use Rattle.std.specs.Option.{option_copied}
use Rattle.target_tables.specs.Contents.{entry}
use Rattle.live_json.specs.Answers.{page_data}
use Rattle.std.specs.Prelude.{codes}
use Rattle.serde_json.specs.Written.{compact_text}
use Rattle.json_pieces.proofs.TellLaws.{then_tells}
use Rattle.live_json.proofs.rows.print_page.Goals as goal

pub returns : goal.returns
returns g c =
    let answer = page_data (record { rows = map entry c.args.entries.now; next = option_copied c.args.next }) in
    c.end.ensures.ok _ answer (then_tells _ _ _ (codes "{\"ok\":") (compact_text answer) c.begun-line.ensures c.put_page.ensures)
