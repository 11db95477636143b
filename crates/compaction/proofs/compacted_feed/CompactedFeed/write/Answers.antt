use Rattle.std.proofs.Common.{◌++◌, List, ℕ, ap, subst}
use Rattle.printing.specs.Printing.{Prints}
use Rattle.json_pieces.specs.Telling.{LineValue, Tells, at}
use Rattle.json_pieces.proofs.TellLaws.{same_text, then_tells}
use Rattle.compaction.specs.Private.Sized.{joined}
use Rattle.compaction.proofs.compacted_feed.CompactedFeed.write.Goals as goal

pub returns : goal.returns
returns g c =
    let f = c.self.inside in
    let behind = f.tail.items ++ f.rest.now in
    let first = subst (λ (line : LineValue). Tells (at (g.O.Out.written c.args.out.now) line) (at (g.O.Out.written c.put.new.out) c.put.new.self) f.head.items) c.new-line.ensures (same_text _ _ _ f.head.items c.deref.ensures.value c.put.ensures) in
    let last = then_tells _ _ _ f.tail.items f.rest.now (same_text _ _ _ f.tail.items c.deref-3.ensures.value c.put-2.ensures) c.put-3.ensures in
    let middle = then_tells _ _ _ (joined f.portions.items) behind (same_text _ _ _ (joined f.portions.items) (ap joined c.deref-2.ensures.value) c.put_portions.ensures) last in
    subst (λ (text : List ℕ). Prints c.finish.result (g.O.Out.written c.args.out.now) (g.O.Out.written c.finish.new.out) text) c.self.view_is
    (c.finish.ensures (g.O.Out.written c.args.out.now) (f.head.items ++ (joined f.portions.items ++ behind)) (then_tells _ _ _ f.head.items (joined f.portions.items ++ behind) first middle))
