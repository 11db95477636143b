use Rattle.std.proofs.Common.{List, ℕ, ◌++◌, subst}
use Rattle.std.specs.Prelude.{codes}
use Rattle.printing.specs.Printing.{Prints}
use Rattle.serde_json.specs.Written.{compact_text}
use Rattle.json_pieces.proofs.TellLaws.{then_tells}
use Rattle.live_json.specs.Answers.{refusal_data}
use Rattle.live_json.proofs.TextLaws.{ok-text, refused-text}
use Rattle.live_json.proofs.line.end.Goals as goal

pub returns-clause-ok : goal.returns-clause-ok
returns-clause-ok g c = λ begun answer told.
    let text = codes "{\"ok\":" ++ compact_text answer in
    subst (λ (t : List ℕ). Prints c.finish.result begun (g.O.Out.written c.finish.new.out) t) (ok-text answer) (c.finish.ensures begun (text ++ codes "}\n") (then_tells _ _ _ text (codes "}\n") told c.put.ensures))

pub returns-clause-refused : goal.returns-clause-refused
returns-clause-refused g c = λ begun refusal told.
    let text = codes "{\"refused\":" ++ compact_text (refusal_data refusal) in
    subst (λ (t : List ℕ). Prints c.finish.result begun (g.O.Out.written c.finish.new.out) t) (refused-text refusal) (c.finish.ensures begun (text ++ codes "}\n") (then_tells _ _ _ text (codes "}\n") told c.put.ensures))
