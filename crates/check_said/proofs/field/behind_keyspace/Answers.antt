use Rattle.std.proofs.Common.{◌∙◌, ◌++◌, ap, sym, arith}
use Rattle.std.proofs.lemmas.Str.Pattern.{strip_prefix_char}
use Rattle.source_feed.proofs.Names.{dot_found, dot_missing}
use Rattle.check_said.proofs.field.behind_keyspace.Goals as goal

pub returns-clause-some : goal.returns-clause-some
returns-clause-some c =
    let e = c.in_ok-strip_prefix.ensures.cases in
    dot_found c.args.keyspace.now c.args.name.now c.in_ok-strip_prefix.field-0.now c.strip_prefix-2.result (e.1.1 ∙ ap (λ t. c.args.keyspace.now ++ t) (sym e.2))
    (strip_prefix_char 46 c.in_ok-strip_prefix.field-0.now c.strip_prefix-2.result c.strip_prefix-2.ensures.cases (omega arith))

pub returns-clause-none : goal.returns-clause-none
returns-clause-none c =
    let e = c.in_ok-strip_prefix.ensures.cases in
    dot_missing c.args.keyspace.now c.args.name.now c.in_ok-strip_prefix.field-0.now c.strip_prefix-2.result (e.1.1 ∙ ap (λ t. c.args.keyspace.now ++ t) (sym e.2))
    (strip_prefix_char 46 c.in_ok-strip_prefix.field-0.now c.strip_prefix-2.result c.strip_prefix-2.ensures.cases (omega arith))
