use Rattle.std.proofs.Common.{◌≡◌, ℕ, ℤ, ◌-◌, List, [], ◌∷◌, ◌++◌, map, length, rules, refl, sym, ap, subst, ◌∙◌, arith}
use mir.Val.{SFits, to_z, of_z}
use Rattle.std.specs.Int.{w64}
use Rattle.std.proofs.lemmas.Int.{to_z-of_z}
use Rattle.proto_wire.specs.Zigzag.{unzigzag_of}
use Rattle.proto_wire.specs.Varint.{varints_of}
use Rattle.proto_wire.specs.Field.{wire_value, wire_field, fields_of}
use Rattle.row_view.specs.RowFields.{lengths_of}
use Rattle.row_view.specs.Private.Marks.{IsPlace}
use Rattle.row_view.specs.Private.Counted.{IsCounted}
use Rattle.row_view.proofs.PlaceLaws.{ends_place}
use Rattle.row_view.proofs.ReadLaws.{field_ahead, field_long, field_lengths, ends_in_field, no_numbers, at_packed, at_single, at_other_type, at_other_number, left_behind}
use Rattle.row_view.proofs.count.Count.put.Goals as goal

pub put_packed-requires-clause-place : goal.put_packed-requires-clause-place
put_packed-requires-clause-place c =
    let ahead = field_ahead c.args.rest.now c.args.after.now (wire_field c.args.field.now) c.requires.field in
    ends_in_field c.args.message.now c.args.rest.now c.args.after.now c.in-1-Bytes.packed.now (wire_field c.args.field.now) c.requires.place ahead (ap wire_value c.in-1-Bytes.is-1)

pub put_packed-requires-clause-few : goal.put_packed-requires-clause-few
put_packed-requires-clause-few c =
    let ahead = field_ahead c.args.rest.now c.args.after.now (wire_field c.args.field.now) c.requires.field in
    let long = field_long c.args.rest.now c.args.after.now c.in-1-Bytes.packed.now (wire_field c.args.field.now) ahead (ap wire_value c.in-1-Bytes.is-1) in
    omega (arith, long, c.requires.few, c.requires.short)

pub put_packed-requires-clause-counted : goal.put_packed-requires-clause-counted
put_packed-requires-clause-counted c =
    let f = wire_field c.args.field.now in
    let ahead = field_ahead c.args.rest.now c.args.after.now f c.requires.field in
    left_behind c.args.message.now c.args.rest.now c.args.after.now f (map unzigzag_of (varints_of c.in-1-Bytes.packed.now).items) c.args.self.now c.args.marks.now ahead
    (at_packed f c.in-1-Bytes.packed.now c.in-1-Bytes.is-0 (ap wire_value c.in-1-Bytes.is-1)) c.requires.counted

pub returns-in-1-Varint-clause-few : goal.returns-in-1-Varint-clause-few
returns-in-1-Varint-clause-few c =
    let ahead = field_ahead c.args.rest.now c.args.after.now (wire_field c.args.field.now) c.requires.field in
    omega (arith, ahead.shorter, c.requires.few, c.put_length.ensures.one)

pub returns-in-1-Varint-clause-read : goal.returns-in-1-Varint-clause-read
returns-in-1-Varint-clause-read c =
    let f = wire_field c.args.field.now in
    let message = c.args.message.now in
    let rest = c.args.rest.now in
    let after = c.args.after.now in
    let more = lengths_of (fields_of after).items in
    let ahead = field_ahead rest after f c.requires.field in
    let single = at_single f c.in-1-Varint.number c.in-1-Varint.is-0 (ap wire_value c.in-1-Varint.is-1) in
    let at : ℕ = length message - length rest in
    let place : IsPlace message [] rest at at = ends_place message [] rest at at c.requires.place refl (omega arith) in
    let fits : SFits w64 c.unzigzag.result = search rules in
    let is : to_z w64 (of_z w64 c.unzigzag.result) ≡ unzigzag_of c.in-1-Varint.number = to_z-of_z w64 c.unzigzag.result fits ∙ c.unzigzag.ensures.value in
    let passed = ap (λ (n : ℤ). n ∷ more) (sym is) in
    let left = no_numbers rest ∙ field_lengths rest after f ahead ∙ ap (λ (ns : List ℤ). ns ++ more) single.0 ∙ passed in (
      single.1,
      c.put_length.ensures.counted message [] rest more place left
          (subst (λ (ns : List ℤ). IsCounted message ns c.args.self.now c.args.marks.now) passed
          (left_behind message rest after f (unzigzag_of c.in-1-Varint.number ∷ []) c.args.self.now c.args.marks.now ahead single.0 c.requires.counted)),
    )

pub returns-in-1-Bytes-clause-few : goal.returns-in-1-Bytes-clause-few
returns-in-1-Bytes-clause-few c =
    let ahead = field_ahead c.args.rest.now c.args.after.now (wire_field c.args.field.now) c.requires.field in
    let long = field_long c.args.rest.now c.args.after.now c.in-1-Bytes.packed.now (wire_field c.args.field.now) ahead (ap wire_value c.in-1-Bytes.is-1) in
    omega (arith, long, c.requires.few, c.put_packed.ensures.few)

pub returns-in_default-clause-few : goal.returns-in_default-clause-few
returns-in_default-clause-few c =
    let ahead = field_ahead c.args.rest.now c.args.after.now (wire_field c.args.field.now) c.requires.field in
    omega (arith, ahead.shorter, c.requires.few)

pub returns-in_default-clause-read : goal.returns-in_default-clause-read
returns-in_default-clause-read c =
    let ahead = field_ahead c.args.rest.now c.args.after.now (wire_field c.args.field.now) c.requires.field in
    let other = at_other_type c.args.field.now c.in_default.not-Varint-1 c.in_default.not-Bytes-1 in
    (other.1, left_behind c.args.message.now c.args.rest.now c.args.after.now (wire_field c.args.field.now) [] c.args.self.now c.args.marks.now ahead other.0 c.requires.counted)

pub returns-in_default-2-clause-few : goal.returns-in_default-2-clause-few
returns-in_default-2-clause-few c =
    let ahead = field_ahead c.args.rest.now c.args.after.now (wire_field c.args.field.now) c.requires.field in
    omega (arith, ahead.shorter, c.requires.few)

pub returns-in_default-2-clause-read : goal.returns-in_default-2-clause-read
returns-in_default-2-clause-read c =
    let ahead = field_ahead c.args.rest.now c.args.after.now (wire_field c.args.field.now) c.requires.field in
    let other = at_other_number (wire_field c.args.field.now) (λ e. absurd (omega (arith, c.in_default.is-0, e))) in
    (other.1, left_behind c.args.message.now c.args.rest.now c.args.after.now (wire_field c.args.field.now) [] c.args.self.now c.args.marks.now ahead other.0 c.requires.counted)
