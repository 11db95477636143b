use Rattle.std.proofs.Common.{List, Option, subst, sym, ℕ}
use Rattle.json_pieces.specs.Telling.{Tells, at}
use Rattle.refusal_json.specs.Explained.{IsExplainedJson}
use Rattle.refusal_json.proofs.explained.put_explained.Goals as goal

pub returns-in-Some : goal.returns-in-Some
returns-in-Some g c =
    subst (λ (number : Option ℕ). (text : List ℕ) × IsExplainedJson number text × Tells (at (g.O.Out.written c.args.out.now) c.args.line.now) (at (g.O.Out.written c.put_number.new.out) c.put_number.new.line) text)
    (sym c.in-Some.is) c.put_number.ensures
