use Rattle.std.proofs.Common.{subst}
use Rattle.json_pieces.specs.Telling.{LineValue, Tells, at}
use Rattle.refusal_json.proofs.explained.print_explained.Goals as goal

pub returns : goal.returns
returns g c =
    let text = c.put_explained.ensures.0 in
    let begun = g.O.Out.written c.args.out.now in
    (text, c.put_explained.ensures.1, c.finish.ensures begun text (subst (λ (l : LineValue). Tells (at begun l) (at (g.O.Out.written c.put_explained.new.out) c.put_explained.new.line) text) c.new-line.ensures c.put_explained.ensures.2))
