use Rattle.std.proofs.Common.{◌≡◌, ◌+◌, ◌-◌, List, length, get_or, sym, ap, ◌∙◌, arith}
use Rattle.std.proofs.lemmas.List.{length_push, get_or_push}
use Rattle.target_tables.proofs.Turning.{only_less}
use Rattle.target_tables.proofs.page.ends_below.Goals as goal

pub returns-clause-below : goal.returns-clause-below
returns-clause-below g c = λ h front last is.
    let size : length c.args.entries.now ≡ length front + 1 = ap length is ∙ length_push front last in
    let there : get_or c.args.entries.now (length c.args.entries.now - 1) c.index-entries-entries.result ≡ last =
    ap (λ (l : List (g.row.K.Denot × g.row.V.Denot)). get_or l (length c.args.entries.now - 1) c.index-entries-entries.result) is
    ∙ get_or_push front last c.index-entries-entries.result (length c.args.entries.now - 1) (omega (arith, size)) in
    ap (λ (e : g.row.K.Denot × g.row.V.Denot). g.K.Ord.cmp e.0 c.args.key.now) (sym (c.index-entries-entries.is ∙ there)) ∙ sym c.order.ensures ∙ only_less c.order.result (sym c.is_lt.ensures ∙ h)
