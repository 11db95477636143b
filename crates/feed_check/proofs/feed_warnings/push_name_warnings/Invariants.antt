use Rattle.std.proofs.Common.{◌≡◌, ◌++◌, drop, map}
use Rattle.std.specs.String.{string_bytes}
use Rattle.feed_check.specs.Report.{name_warnings}
use Rattle.feed_check.proofs.feed_warnings.push_name_warnings.Given as goal

-- the text so far, and the warnings of the names that are left, are the whole
abbrev pub invariant-loop-name : goal.invariant-loop-name
invariant-loop-name l = string_bytes l.text ++ name_warnings l.i l.plan (map (λ name. name.now) (drop l.name-index l.names)) ≡ string_bytes l.fn.text ++ name_warnings l.i l.plan (map (λ name. name.now) l.names)
