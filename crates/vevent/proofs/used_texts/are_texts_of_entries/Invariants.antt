use Rattle.std.proofs.Common.{◌≡◌}
use Rattle.std.specs.List.{list_all}
use Rattle.proto_wire.specs.Parts.{parts}
use Rattle.vevent.specs.Fault.{are_entry_texts}
use Rattle.vevent.proofs.used_texts.are_texts_of_entries.Given as goal

abbrev pub invariant-loop-entry : goal.invariant-loop-entry
invariant-loop-entry l = list_all are_entry_texts l.entry-iterator.items ≡ list_all are_entry_texts (parts 1 l.fn.vgtid)
