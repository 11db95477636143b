use Rattle.vrepl_main.specs.Adding.{at, IsPutUpTo}
use Rattle.feed_text.specs.Shown.{shown}
use Rattle.vrepl_main.proofs.shown.print_groups.Given as goal

-- what is printed and what is left are the whole
abbrev pub invariant-loop-group : goal.invariant-loop-group
invariant-loop-group g l = IsPutUpTo (at (g.W.Out.written l.fn.out) l.fn.text) (at (g.W.Out.written l.out) l.text) (shown l.fn.groups.items) (shown l.group-iterator)
