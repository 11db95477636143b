use Rattle.std.proofs.Common.{sym, refl, subst}
use Rattle.std.specs.Prelude.{IsTrue}
use Rattle.apply_core.proofs.JoinLaws.{compatible, all_first, all_second}
use Rattle.apply_core.proofs.joining.find_source.Goals as goal

pub returns-then-holds_all-clause-ok : goal.returns-then-holds_all-clause-ok
returns-then-holds_all-clause-ok c =
    all_first c.args.a.now c.args.b.now (c.joined_boards_are_lawful.ensures.one c.args.a.now c.is_lawful.ensures).0 c.in-Ok.ensures.ok (c.holds_all.ensures (subst IsTrue (sym c.if-holds_all.true) refl))

pub returns-then-holds_all-2-clause-ok : goal.returns-then-holds_all-2-clause-ok
returns-then-holds_all-2-clause-ok c =
    all_second (λ a b. (c.keys_tie_where_they_are_equal.ensures a b).0) c.args.a.now c.args.b.now c.is_lawful.ensures c.is_lawful-2.ensures (c.joined_boards_are_lawful.ensures.one c.args.b.now c.is_lawful-2.ensures).0 c.in-Ok.ensures.ok
    (c.holds_all-in-Ok.ensures (subst IsTrue (sym c.if-holds_all-2.true) refl))

pub returns-in-Ok-choose_sides-clause-ok : goal.returns-in-Ok-choose_sides-clause-ok
returns-in-Ok-choose_sides-clause-ok c = (compatible c.args.a.now c.args.b.now c.in-Ok.ensures.ok c.in-Ok-choose_sides.ensures.apart, c.in-Ok-choose_sides.ensures.sides)
