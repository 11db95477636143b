use Rattle.live_json.specs.Answers.{saved_data}
use Rattle.std.specs.Prelude.{codes}
use Rattle.serde_json.specs.Written.{compact_text}
use Rattle.json_pieces.proofs.TellLaws.{then_tells}
use Rattle.live_json.proofs.line.print_saved.Goals as goal

pub returns : goal.returns
returns g c =
    let answer = saved_data c.args.bytes in
    c.end.ensures.ok _ answer (then_tells _ _ _ (codes "{\"ok\":") (compact_text answer) c.begun-line.ensures c.put_saved.ensures)
