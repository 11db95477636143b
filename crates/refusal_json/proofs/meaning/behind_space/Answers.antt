use Rattle.std.proofs.Common.{None, arith, sym}
use Rattle.std.proofs.lemmas.List.{drop_all}
use Rattle.std.proofs.lemmas.Str.Pattern.{split_once_first}
use Rattle.refusal_json.proofs.meaning.behind_space.Goals as goal

pub returns-in-None : goal.returns-in-None
returns-in-None c =
    let line = c.args.line.now in
    let all = split_once_first 32 line None c.in-None.ensures.cases (omega arith) in
    sym (drop_all _ line (omega (arith, all)))
