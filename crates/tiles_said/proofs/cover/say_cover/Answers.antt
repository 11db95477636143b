use Rattle.std.proofs.Common.{map, arith, sym, ◌∙◌, ap}
use Rattle.tiles_said.proofs.SaidLaws.{says_everything, says_unlike, says_shared}
use Rattle.tiles_said.proofs.cover.say_cover.Goals as goal

pub returns-then-are_everything : goal.returns-then-are_everything
returns-then-are_everything c =
    says_everything c.say.result (map (λ name. name.now) c.args.names.now) c.args.source.now c.args.passings.now c.args.table.now c.deref.result.now c.len.result c.in_ok-shares.shares.items c.args.said.now c.say.new.said
    c.say.ensures (c.deref.ensures ∙ c.in_ok-line.ensures) (omega (arith, c.len.ensures, c.in_ok-shares.shares.ok.0)) c.in_ok-shares.ensures
    (sym c.are_absent.ensures ∙ c.if-are_absent.false) (sym c.are_everything.ensures ∙ c.if-are_everything.true)

pub returns-then-not-are_alike : goal.returns-then-not-are_alike
returns-then-not-are_alike c =
    says_unlike c.say-then-not-are_alike.result (map (λ name. name.now) c.args.names.now) c.args.source.now c.args.passings.now c.args.table.now c.deref-then-not-are_alike.result.now c.args.said.now c.say-then-not-are_alike.new.said
    c.say-then-not-are_alike.ensures (c.deref-then-not-are_alike.ensures ∙ c.in_ok-line-2.ensures)
    (sym c.are_absent.ensures ∙ c.if-are_absent.false) (sym c.are_everything.ensures ∙ c.if-are_everything.false) (sym c.are_alike.ensures ∙ c.if-not-are_alike.true)

pub returns : goal.returns
returns c =
    says_shared c.say_found.result (map (λ name. name.now) c.args.names.now) c.args.source.now c.args.passings.now c.args.table.now c.len-2.result c.deref-2.result.now c.in_ok-own.own c.deref-3.result.now c.args.said.now c.say_found.new.said
    c.say_found.ensures (omega (arith, c.len-2.ensures, c.in_ok-shares.shares.ok.0, c.deref-2.ensures.len)) (c.deref-2.ensures.value ∙ c.in_ok-shares.ensures) c.in_ok-own.ensures (rw c.deref-3.ensures.value c.in_ok-found.ensures)
    (sym c.are_absent.ensures ∙ c.if-are_absent.false) (sym c.are_everything.ensures ∙ c.if-are_everything.false) (sym c.are_alike.ensures ∙ c.if-not-are_alike.false)
