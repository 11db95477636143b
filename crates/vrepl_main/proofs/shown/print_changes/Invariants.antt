use Rattle.vrepl_main.specs.Adding.{at, IsPutUpTo}
use Rattle.feed_text.specs.Shown.{changes_text}
use Rattle.vrepl_main.proofs.shown.print_changes.Given as goal

-- what is printed and what is left are the whole
abbrev pub invariant-loop-change : goal.invariant-loop-change
invariant-loop-change g l = IsPutUpTo (at (g.W.Out.written l.fn.out) l.fn.text) (at (g.W.Out.written l.out) l.text) (changes_text l.fn.changes) (changes_text l.change-iterator)
