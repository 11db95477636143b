use Rattle.std.proofs.Common.{Some, ap, sym, ◌∙◌}
use Rattle.std.specs.Option.{option_map}
use Rattle.target_tables.specs.Contents.{standing}
use Rattle.stream_worker.specs.Knowing.{Laid}
use Rattle.stream_worker.specs.Seats.{own_cut}
use Rattle.stream_worker.proofs.StepsOfOneStream.{own_none, own_else, own_found}
use Rattle.stream_worker.proofs.deal.Deal.own_row.Goals as goal

pub returns-in-None : goal.returns-in-None
returns-in-None c =
    own_none c.self.inside.board c.args.s c.args.key.now c.self.invariant (sym c.row.ensures ∙ ap (option_map standing) c.in-None.is)
    ∙ ap (λ (laid : Laid). own_cut laid.board c.args.s c.args.key.now) c.self.view_is

pub returns-then-owner-s : goal.returns-then-owner-s
returns-then-owner-s c =
    own_else c.self.inside.board c.args.s c.args.key.now c.in-Some.owner c.in-Some.row.now c.self.invariant (sym c.row.ensures ∙ ap (option_map standing) c.in-Some.is) c.if-owner-s.true
    ∙ ap (λ (laid : Laid). own_cut laid.board c.args.s c.args.key.now) c.self.view_is

pub returns-in_ok-row-in-Some : goal.returns-in_ok-row-in-Some
returns-in_ok-row-in-Some c =
    ap Some c.in_ok-row-in-Some.ensures
    ∙ own_found c.self.inside.board c.args.s c.args.key.now c.in-Some.owner c.in-Some.row.now c.self.invariant (sym c.row.ensures ∙ ap (option_map standing) c.in-Some.is) c.if-owner-s.false
    ∙ ap (λ (laid : Laid). own_cut laid.board c.args.s c.args.key.now) c.self.view_is
