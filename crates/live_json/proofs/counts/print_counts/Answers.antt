use Rattle.std.proofs.Common.{map}
use Rattle.live_json.specs.Answers.{counts_data}
use Rattle.live_json.specs.Private.Parts.{counts_value}
use Rattle.std.specs.Prelude.{codes}
use Rattle.serde_json.specs.Written.{compact_text}
use Rattle.json_pieces.proofs.TellLaws.{then_tells}
use Rattle.live_json.proofs.counts.print_counts.Goals as goal

pub returns : goal.returns
returns g c =
    let answer = counts_data (map counts_value c.args.tables.now) in
    c.end.ensures.ok _ answer (then_tells _ _ _ (codes "{\"ok\":") (compact_text answer) c.begun-line.ensures c.put_counts.ensures)
