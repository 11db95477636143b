use Rattle.std.specs.Option.{option_map}
use Rattle.target_tables.specs.Contents.{standing}
use Rattle.live_json.specs.Answers.{standing_data}
use Rattle.std.specs.Prelude.{codes}
use Rattle.serde_json.specs.Written.{compact_text}
use Rattle.json_pieces.proofs.TellLaws.{then_tells}
use Rattle.live_json.proofs.rows.print_row.Goals as goal

pub returns : goal.returns
returns g c =
    let answer = standing_data (option_map standing c.args.there) in
    c.end.ensures.ok _ answer (then_tells _ _ _ (codes "{\"ok\":") (compact_text answer) c.begun-line.ensures c.put_found.ensures)
