use Rattle.std.proofs.Common.{◌≡◌, ◌≢◌, ◌==◌, [], true, false, length, refl, ap, ◌∙◌}
use Rattle.source_feed.proofs.Names.{short_name-of}
use Rattle.check_said.proofs.field.short_name.Goals as goal

pub returns : goal.returns
returns c =
    let some : c.args.keyspace.now ≢ [] = λ e. (let f : false ≡ true = c.if-is_empty.ensures ∙ ap (λ k. length k == 0) e in cc) in
    ap (λ r. r.now) c.unwrap_or.ensures
    ∙ short_name-of c.args.keyspace.now c.args.name.now c.args.name c.behind_keyspace.result some refl c.behind_keyspace.ensures.some c.behind_keyspace.ensures.none
