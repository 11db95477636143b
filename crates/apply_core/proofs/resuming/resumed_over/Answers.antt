use Rattle.std.proofs.Common.{List, sym, subst}
use Rattle.std.proofs.lemmas.Result.{err_from_is_err_and}
use Rattle.filter_rule.specs.PlanValue.{PlanValue}
use Rattle.checkpoint_laws.specs.Said.{IsCheckpoint}
use Rattle.apply_core.proofs.AfterSaveLaws.{saved_refused}
use Rattle.apply_core.proofs.ReadLaws.{resumed-reads}
use Rattle.apply_core.proofs.resuming.resumed_over.Goals as goal

pub returns-in_err-saved-clause-refused : goal.returns-in_err-saved-clause-refused
returns-in_err-saved-clause-refused c =
    let p = err_from_is_err_and c.from_residual.result c.from_residual.ensures.1 in
    rw (p.1, p.2) (c.in_err-saved.ensures.refused c.args.feeds.now c.requires.fed.opened)

pub made_of-requires-clause-said : goal.made_of-requires-clause-said
made_of-requires-clause-said c =
    let said = subst (λ (ps : List PlanValue). IsCheckpoint ps c.args.bytes.now c.in_ok-saved.saved.items) (sym c.requires.fed.opened) c.in_ok-saved.ensures.said in
    record { bytes = c.args.bytes.now; is = said }

pub returns-in_err-board-clause-refused : goal.returns-in_err-board-clause-refused
returns-in_err-board-clause-refused c =
    let p = err_from_is_err_and c.from_residual-in_err-board.result c.from_residual-in_err-board.ensures.1 in
    let said = subst (λ (ps : List PlanValue). IsCheckpoint ps c.args.bytes.now c.in_ok-saved.saved.items) (sym c.requires.fed.opened) c.in_ok-saved.ensures.said in
    rw (p.1, p.2) (saved_refused c.args.feeds.now c.args.bytes.now c.in_ok-saved.saved.items c.in_err-board.field-0.0 said c.in_err-board.ensures.err)

pub returns-clause-resumed : goal.returns-clause-resumed
returns-clause-resumed c =
    let said = subst (λ (ps : List PlanValue). IsCheckpoint ps c.args.bytes.now c.in_ok-saved.saved.items) (sym c.requires.fed.opened) c.in_ok-saved.ensures.said in
    let made = c.in_ok-board.ensures.ok in
    record {
      saved = c.in_ok-saved.saved.items;
      said = said;
      made = made;
      same = (c.resumed_boards_are_lawful.ensures c.args.feeds.now c.args.bytes.now c.in_ok-saved.saved.items c.in_ok-board.board c.requires.feeds said made).1;
    }

pub returns-clause-reads : goal.returns-clause-reads
returns-clause-reads c = resumed-reads c.args.feeds.now c.in_ok-saved.saved.items c.in_ok-board.board c.requires.feeds c.in_ok-board.ensures.ok

pub returns-clause-board : goal.returns-clause-board
returns-clause-board c = record {
  lawful = c.is_lawful.ensures;
  count = c.in_ok-board.ensures.ok.states.count;
  reads = resumed-reads c.args.feeds.now c.in_ok-saved.saved.items c.in_ok-board.board c.requires.feeds c.in_ok-board.ensures.ok;
}
