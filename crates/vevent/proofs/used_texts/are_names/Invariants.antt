use Rattle.std.proofs.Common.{◌≡◌}
use Rattle.std.specs.List.{list_all}
use Rattle.std.specs.Str.{is_utf8}
use Rattle.proto_wire.specs.Parts.{text, parts}
use Rattle.vevent.proofs.used_texts.are_names.Given as goal

abbrev pub invariant-loop-field : goal.invariant-loop-field
invariant-loop-field l = list_all (λ field. is_utf8 (text 1 field)) l.field-iterator.items ≡ list_all (λ field. is_utf8 (text 1 field)) (parts 2 l.fn.field_event)
