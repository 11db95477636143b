use Rattle.live_json.specs.Answers.{refusal_data}
use Rattle.live_json.specs.Private.Parts.{refusal_value}
use Rattle.std.specs.Prelude.{codes}
use Rattle.serde_json.specs.Written.{compact_text}
use Rattle.json_pieces.proofs.TellLaws.{then_tells}
use Rattle.live_json.proofs.refusal.print_refused.Goals as goal

pub returns : goal.returns
returns g c =
    let answer = refusal_value c.args.refusal.now in
    c.end.ensures.refused _ answer (then_tells _ _ _ (codes "{\"refused\":") (compact_text (refusal_data answer)) c.begun-line.ensures c.put_refusal.ensures)
