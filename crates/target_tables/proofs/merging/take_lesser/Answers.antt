use Rattle.std.proofs.Common.{sym, ◌∙◌}
use Rattle.target_tables.proofs.Mixing.{took_rest, took_first, took_second, took_both}
use Rattle.target_tables.proofs.merging.take_lesser.Goals as goal

pub returns-in-None : goal.returns-in-None
returns-in-None g c = took_rest g.met.K.Ord.total c.args.one.now c.args.other.now c.take.new.self c.take.result c.in-None.ensures.first c.take.ensures.rising c.take.ensures.taken

pub returns-in-Less : goal.returns-in-Less
returns-in-Less g c =
    took_first g.met.K.Ord.total c.args.one.now c.args.other.now c.in-Some.key.now c.in-Some-first.second.now c.in-Some.ensures.first c.in-Some-first.ensures.first c.in-Some.ensures.rising c.in-Some-first.ensures.rising
    c.take-in-Less.new.self c.take-in-Less.result (sym c.cmp.ensures ∙ c.in-Less.is) c.take-in-Less.ensures.taken

pub returns-in-Greater : goal.returns-in-Greater
returns-in-Greater g c =
    took_second g.met.K.Ord.total c.args.one.now c.args.other.now c.in-Some.key.now c.in-Some-first.second.now c.in-Some.ensures.first c.in-Some-first.ensures.first c.in-Some.ensures.rising c.in-Some-first.ensures.rising
    c.take-in-Greater.new.self c.take-in-Greater.result (sym c.cmp.ensures ∙ c.in-Greater.is) c.take-in-Greater.ensures.taken

pub returns-in-Equal : goal.returns-in-Equal
returns-in-Equal g c =
    took_both g.met.K.Ord.total c.args.one.now c.args.other.now c.in-Some.key.now c.in-Some-first.second.now c.in-Some.ensures.first c.in-Some-first.ensures.first c.in-Some.ensures.rising c.in-Some-first.ensures.rising
    c.take-in-Equal-2.new.self c.take-in-Equal.new.self c.take-in-Equal-2.result c.take-in-Equal.result (sym c.cmp.ensures ∙ c.in-Equal.is) c.take-in-Equal-2.ensures.taken c.take-in-Equal.ensures.taken
