use Rattle.std.proofs.Common.{◌∙◌, None, ap, arith, length, sym, take}
use Rattle.std.proofs.lemmas.List.{take_all}
use Rattle.std.proofs.lemmas.Str.Pattern.{split_once_first}
use Rattle.refusal_json.proofs.meaning.first_line.Goals as goal

pub returns-in-None : goal.returns-in-None
returns-in-None c =
    let text = c.args.text.now in
    let all = split_once_first 10 text None c.in-None.ensures.cases (omega arith) in
    sym (ap (λ n. take n text) all ∙ take_all (length text) text (omega arith))
