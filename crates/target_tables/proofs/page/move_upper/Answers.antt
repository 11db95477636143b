use Rattle.std.proofs.Common.{◌≡◌, length, take, drop, reverse, List, sym, ap, ◌∙◌, arith}
use Rattle.std.proofs.lemmas.List.{take_at, drop_at}
use Rattle.target_tables.proofs.page.move_upper.Goals as goal

pub returns-clause-lower : goal.returns-clause-lower
returns-clause-lower g c =
    let n : length c.loop-lower.lower.items ≡ c.args.place = omega arith in
    sym (take_at c.loop-lower.lower.items (reverse c.loop-lower.upper.items) c.args.place n) ∙ ap (λ (l : List g.row.X.Denot). take c.args.place l) c.loop-lower.invariant.0

pub returns-clause-upper : goal.returns-clause-upper
returns-clause-upper g c =
    let n : length c.loop-lower.lower.items ≡ c.args.place = omega arith in
    sym (drop_at c.loop-lower.lower.items (reverse c.loop-lower.upper.items) c.args.place n) ∙ ap (λ (l : List g.row.X.Denot). drop c.args.place l) c.loop-lower.invariant.0
