use Rattle.std.proofs.Common.{map}
use Rattle.live_json.specs.Answers.{more_data}
use Rattle.live_json.specs.Private.Parts.{stream_value}
use Rattle.std.specs.Prelude.{codes}
use Rattle.serde_json.specs.Written.{compact_text}
use Rattle.json_pieces.proofs.TellLaws.{then_tells}
use Rattle.live_json.proofs.streams.print_more.Goals as goal

pub returns : goal.returns
returns g c =
    let answer = more_data c.args.bytes c.args.changes (map stream_value c.args.streams.now) in
    c.end.ensures.ok _ answer (then_tells _ _ _ (codes "{\"ok\":") (compact_text answer) c.begun-line.ensures c.put_more.ensures)
