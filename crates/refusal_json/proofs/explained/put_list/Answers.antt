use Rattle.std.proofs.Common.{◌≡◌, ◌+◌, ap, arith}
use Rattle.std.specs.Prelude.{suc}
use Rattle.json_pieces.proofs.TellLaws.{same_text, then_tells}
use Rattle.refusal_words.specs.Texts.{has_text}
use Rattle.refusal_json.specs.Explained.{line_if, lines_below}
use Rattle.refusal_json.proofs.explained.put_list.Goals as goal

pub loop-number-preserved : goal.loop-number-preserved
loop-number-preserved g c =
    let n = c.loop-number.number in
    let more : suc n ≡ n + 1 = omega arith in
    same_text _ _ _ _ (ap lines_below more) (then_tells _ _ _ (lines_below n) (line_if (has_text n) n) c.loop-number.invariant c.put_listed.ensures)
