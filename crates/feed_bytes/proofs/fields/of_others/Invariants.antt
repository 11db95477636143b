use Rattle.std.proofs.Common.{◌≡◌, ◌++◌, drop}
use Rattle.std.specs.List.{filter}
use Rattle.feed_bytes.specs.Private.FieldsBehind.{is_of_another}
use Rattle.feed_bytes.proofs.fields.of_others.Given as goal

-- those so far, and those of the FIELDs to come, are those of all
abbrev pub invariant-loop-field : goal.invariant-loop-field
invariant-loop-field l = l.others.items ++ filter (is_of_another l.source l.table) (drop l.field-index l.fields) ≡ filter (is_of_another l.source l.table) l.fields
