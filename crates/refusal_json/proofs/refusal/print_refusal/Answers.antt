use Rattle.std.proofs.Common.{option_map, subst}
use Rattle.json_pieces.specs.Telling.{LineValue, Tells, at}
use Rattle.refusal_json.specs.Details.{details_value}
use Rattle.refusal_json.specs.Refusal.{refusal_json}
use Rattle.refusal_json.proofs.refusal.print_refusal.Goals as goal

pub returns : goal.returns
returns g c =
    let text = refusal_json c.args.number (details_value c.args.details.now) (option_map (λ place. place.now) c.args.place) in
    let begun = g.O.Out.written c.args.out.now in
    c.finish.ensures begun text (subst (λ (l : LineValue). Tells (at begun l) (at (g.O.Out.written c.put_refusal.new.out) c.put_refusal.new.line) text) c.new-line.ensures c.put_refusal.ensures)
