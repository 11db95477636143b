-- What the fields that are still to come say, one field further on.
use Rattle.std.proofs.Common.{◌≡◌, ℕ, List, ◌∷◌, None, sym, ap, ◌∙◌}
use Rattle.std.specs.Option.{option_or}
use Rattle.std.specs.List.{filter_map, cons_option}
use Rattle.proto_wire.specs.declared.fault.WireFault.{WireFault}
use Rattle.proto_wire.specs.Reading.{Reading}
use Rattle.proto_wire.specs.Field.{WireField}
use Rattle.proto_wire.specs.Parts.{part_in, first_of, last_of}
use Rattle.row_view.specs.RowFields.{packed_fault_at, fault_of}

-- a field with no fault of its own leaves the fault to the others
pub fault_of-next : (old new : Reading WireField WireFault) (f : WireField) → old.items ≡ f ∷ new.items → old.fault ≡ new.fault → packed_fault_at f ≡ None → fault_of new ≡ fault_of old
fault_of-next old new f items fault none =
    let here : filter_map packed_fault_at (f ∷ new.items) ≡ filter_map packed_fault_at new.items = ap (λ o. cons_option o (filter_map packed_fault_at new.items)) none in
    let there : filter_map packed_fault_at old.items ≡ filter_map packed_fault_at new.items = ap (filter_map packed_fault_at) items ∙ here in
    sym (ap (λ fs. option_or (first_of fs) old.fault) there ∙ ap (option_or (first_of (filter_map packed_fault_at new.items))) fault)

-- the last under the number, past a field with none
pub last_of-past : (number : ℕ) (last : List ℕ) (old new : List WireField) (f : WireField) → old ≡ f ∷ new → None ≡ part_in number f → last_of last (filter_map (part_in number) new) ≡ last_of last (filter_map (part_in number) old)
last_of-past number last old new f items none =
    let here : filter_map (part_in number) (f ∷ new) ≡ filter_map (part_in number) new = ap (λ o. cons_option o (filter_map (part_in number) new)) (sym none) in
    sym (ap (last_of last) (ap (filter_map (part_in number)) items ∙ here))
