use Rattle.std.proofs.Common.{◌≡◌, ◌+◌, ◌-◌, ◌<◌, ◌≤◌, length, vec_len, sym, subst, arith}
use Rattle.std.proofs.lemmas.Bool.{ltb-true}
use Rattle.target_tables.specs.Pages.{Book, room_of}
use Rattle.target_tables.proofs.Rooms.{room_beside}
use Rattle.target_tables.proofs.pages.Pages.can_spare.Goals as goal

pub returns-clause-room : goal.returns-clause-room
returns-clause-room g c = λ less pages full more.
    let fewer : c.spares_for.result < c.len-2.result = ltb-true c.spares_for.result c.len-2.result less in
    let long : vec_len c.self.inside.list ≡ length c.self.inside.list.items = c.self.inside.list.ok.0 in
    let S : Book g.row.K.Denot g.row.R.Denot → Type 0 = λ b. length pages ≡ length b.pages + 1 in
    let one : length pages ≡ length c.self.inside.list.items + 1 = subst S (sym c.self.view_is) more in
    let T : Book g.row.K.Denot g.row.R.Denot → Type 0 = λ b. c.args.count ≤ room_of pages (b.spares - 1) in
    subst T c.self.view_is (room_beside pages full (vec_len c.self.inside.spares - 1) c.args.count c.spares_for.result (λ owed most. c.spares_for.ensures owed (omega (arith, long, one, most))) (omega (arith, fewer)))
