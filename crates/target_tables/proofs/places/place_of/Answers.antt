use Rattle.std.proofs.Common.{◌≡◌, ℕ, ◌+◌, ◌-◌, ◌/◌, ◌<◌, ◌∙◌, get_or, sym, ap, length, arith}
use Rattle.target_tables.proofs.Seeking.{below_read, above_read, at_read}
use Rattle.target_tables.proofs.places.place_of.Goals as goal

pub loop-low-preserved-in-Less : goal.loop-low-preserved-in-Less
loop-low-preserved-in-Less g c =
    let m : ℕ = c.loop-low.low + (c.loop-low.high - c.loop-low.low) / 2 in
    let inside : m < length c.args.entries.now = omega arith in
    let read : c.order.result ≡ g.K.Ord.cmp (get_or c.args.entries.now m c.index-entries-middle.result).0 c.args.key.now =
    c.order.ensures ∙ ap (λ (e : g.row.K.Denot × g.row.V.Denot). g.K.Ord.cmp e.0 c.args.key.now) c.index-entries-middle.is in
    (omega arith, c.loop-low.invariant.1, below_read g.met.K.Ord.total c.args.entries.now m c.index-entries-middle.result inside c.requires c.args.key.now (sym read ∙ c.in-Less.is), c.loop-low.invariant.3)

pub returns-in-Equal : goal.returns-in-Equal
returns-in-Equal g c =
    let m : ℕ = c.loop-low.low + (c.loop-low.high - c.loop-low.low) / 2 in
    let inside : m < length c.args.entries.now = omega arith in
    let read : c.order.result ≡ g.K.Ord.cmp (get_or c.args.entries.now m c.index-entries-middle.result).0 c.args.key.now =
    c.order.ensures ∙ ap (λ (e : g.row.K.Denot × g.row.V.Denot). g.K.Ord.cmp e.0 c.args.key.now) c.index-entries-middle.is in
    at_read g.met.K.Ord.total c.args.entries.now m c.index-entries-middle.result inside c.requires c.args.key.now (sym read ∙ c.in-Equal.is)

pub loop-low-preserved : goal.loop-low-preserved
loop-low-preserved g c =
    let m : ℕ = c.loop-low.low + (c.loop-low.high - c.loop-low.low) / 2 in
    let inside : m < length c.args.entries.now = omega arith in
    let read : c.order.result ≡ g.K.Ord.cmp (get_or c.args.entries.now m c.index-entries-middle.result).0 c.args.key.now =
    c.order.ensures ∙ ap (λ (e : g.row.K.Denot × g.row.V.Denot). g.K.Ord.cmp e.0 c.args.key.now) c.index-entries-middle.is in
    (omega arith, omega arith, c.loop-low.invariant.2, above_read g.met.K.Ord.total c.args.entries.now m c.index-entries-middle.result inside c.requires c.args.key.now (sym read ∙ c.in-Greater.is))
