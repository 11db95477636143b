use Rattle.std.proofs.Common.{◌≡◌, IfOk, map, subst, ap}
use Rattle.std.specs.Option.{option_copied}
use Rattle.source_feed.specs.Image.{ImageRows, lent_row}
use Rattle.source_feed.proofs.ChunkLaws.{rising-past, chunk-answer, rising-least, chunk-whole}
use Rattle.source_feed.proofs.image.Image.chunk.Goals as goal

pub first_rows-requires-2 : goal.first_rows-requires-2
first_rows-requires-2 c = rising-past c.self.inside.rows.entries c.entries_past.result c.in_ok-key.key c.entries_past.ensures.entries c.entries_past.ensures.rising

pub returns : goal.returns
returns c =
    subst (λ (rows : ImageRows). IfOk c.first_rows-2.result (λ found. map lent_row found.items ≡ rows))
    (chunk-answer c.self.inside.rows.entries c.entries_past.result c.in_ok-key.key c.in-Some.key.now (option_copied c.args.after) c.args.self.now c.args.t c.args.rows
    c.entries_past.ensures.entries c.in_ok-key.ensures (ap option_copied c.in-Some.is) c.self.view_is)
    c.first_rows-2.ensures

pub first_rows-requires : goal.first_rows-requires
first_rows-requires c = rising-least c.self.inside.rows.entries c.scan.result c.first_of-first.result c.scan.ensures.entries c.scan.ensures.rising

pub returns-in_default : goal.returns-in_default
returns-in_default c =
    subst (λ (rows : ImageRows). IfOk c.first_rows.result (λ found. map lent_row found.items ≡ rows))
    (chunk-whole c.self.inside.rows.entries c.scan.result c.first_of-first.result (option_copied c.args.after) c.args.self.now c.args.t c.args.rows
    c.scan.ensures.entries c.first_of-first.ensures.least (ap option_copied c.in_default.is) c.self.view_is)
    c.first_rows.ensures
