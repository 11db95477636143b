use Rattle.std.proofs.Common.{sym, subst}
use Rattle.vrepl_main.specs.declared.joining.Unjoined.{Unjoined}
use Rattle.vrepl_main.specs.JoinedRun.{join_refusal_line}
use Rattle.vrepl_main.specs.Printing.{PrintsOrBreaks}
use Rattle.vrepl_main.proofs.joining.refuse_unjoined.Goals as goal

pub returns-in-One-clause-line : goal.returns-in-One-clause-line
returns-in-One-clause-line g c =
    subst (λ (u : Unjoined). PrintsOrBreaks (g.E.Out.written c.args.err.now) (g.E.Out.written c.refuse_over.new.err) (join_refusal_line u))
    (sym c.in-One.is) (rw c.deref.ensures at c.refuse_over.ensures.line)

pub returns-in-Other-clause-line : goal.returns-in-Other-clause-line
returns-in-Other-clause-line g c =
    subst (λ (u : Unjoined). PrintsOrBreaks (g.E.Out.written c.args.err.now) (g.E.Out.written c.refuse_over-in-Other.new.err) (join_refusal_line u))
    (sym c.in-Other.is) (rw c.deref-in-Other.ensures at c.refuse_over-in-Other.ensures.line)

pub returns-in-Boards-clause-line : goal.returns-in-Boards-clause-line
returns-in-Boards-clause-line g c =
    subst (λ (u : Unjoined). PrintsOrBreaks (g.E.Out.written c.args.err.now) (g.E.Out.written c.refuse_over-in-Boards.new.err) (join_refusal_line u))
    (sym c.in-Boards.is) (rw c.deref-in-Boards.ensures at c.refuse_over-in-Boards.ensures.line)
