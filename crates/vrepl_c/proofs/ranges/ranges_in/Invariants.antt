use Rattle.std.proofs.Common.{◌≡◌, drop, map}
use Rattle.vrepl_c.specs.Readers.{ranges_in}
use Rattle.vrepl_c.proofs.RangeLaws.{behind}
use Rattle.vrepl_c.proofs.ranges.ranges_in.Given as goal

-- the ranges so far and those of the texts that are left are the whole
abbrev pub invariant-loop-text : goal.invariant-loop-text
invariant-loop-text l = ranges_in (map (λ text. text.now) l.fn.texts) ≡ behind l.ranges.items (ranges_in (map (λ text. text.now) (drop l.text-index l.texts)))
