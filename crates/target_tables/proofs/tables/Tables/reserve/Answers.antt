use Rattle.std.proofs.Common.{◌≡◌, ℕ, ◌+◌, ◌-◌, ◌*◌, ◌≤◌, List, length, ap, arith}
use Rattle.target_tables.specs.Pages.{owed}
use Rattle.target_tables.proofs.Rooms.{owed_most}
use Rattle.target_tables.proofs.tables.Tables.reserve.Goals as goal

pub returns-clause-ok : goal.returns-clause-ok
returns-clause-ok g c =
    let now : (List (List (g.row.K.Denot × (ℕ × g.row.R.Denot)))) = c.reserve.new.self.pages in
    let few : owed c.self.inside.pages.pages ≤ 64 * (length c.self.inside.pages.pages + 1) = owed_most c.self.inside.pages.pages c.as_slice.ensures.full in
    let pages : length c.as_slice.result.now ≡ length c.self.inside.pages.pages = ap length c.as_slice.ensures.pages in
    let served : c.args.count ≤ c.spares_for-spares.result + (63 * c.spares_for-spares.result + 63 - owed c.self.inside.pages.pages) = c.spares_for-spares.ensures (owed c.self.inside.pages.pages) (omega arith) in
    let same : owed now ≡ owed c.self.inside.pages.pages = ap (λ (l : (List (List (g.row.K.Denot × (ℕ × g.row.R.Denot))))). owed l) c.reserve.ensures.pages in
    let ready : c.spares_for-spares.result ≤ c.reserve.new.self.spares = c.in_ok-reserve.ensures.ok in
    omega arith
