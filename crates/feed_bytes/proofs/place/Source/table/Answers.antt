use Rattle.std.proofs.Common.{◌≡◌, ◌≢◌, ◌==◌, [], true, false, length, refl, ap, ◌∙◌}
use Rattle.source_feed.specs.SourceValue.{SourceValue, short_name}
use Rattle.source_feed.proofs.Names.{short_name-of}
use Rattle.feed_bytes.proofs.place.Source.table.Goals as goal

pub returns : goal.returns
returns c =
    let some : c.self.inside.keyspace.now ≢ [] = λ e. (let f : false ≡ true = c.if-is_empty.ensures ∙ ap (λ k. length k == 0) e in cc) in
    ap (λ r. r.now) c.unwrap_or.ensures
    ∙ short_name-of c.self.inside.keyspace.now c.args.name.now c.args.name c.behind_keyspace.result some refl c.behind_keyspace.ensures.some c.behind_keyspace.ensures.none
    ∙ ap (λ (s : SourceValue). short_name s.keyspace c.args.name.now) c.self.view_is
