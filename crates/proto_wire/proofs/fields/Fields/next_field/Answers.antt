use Rattle.std.proofs.lemmas.Result.{err_from_is_err_and}
use Rattle.proto_wire.specs.Field.{wire_field, field_at}
use Rattle.proto_wire.proofs.ReadingLaws.{empty_list, not_empty, next_none, next_err, next_some}
use Rattle.proto_wire.proofs.FieldLaws.{field_takes}
use Rattle.proto_wire.proofs.fields.Fields.next_field.Goals as goal

pub returns-then-is_empty : goal.returns-then-is_empty
returns-then-is_empty c = next_none field_at c.self.inside.rest.now c.args.self.now (empty_list c.self.inside.rest.now c.if-is_empty.ensures) c.self.view_is

pub returns-in_err-field : goal.returns-in_err-field
returns-in_err-field c =
    let p = err_from_is_err_and c.from_residual.result c.from_residual.ensures.1 in
    rw (p.1, p.2) (next_err field_at c.self.inside.rest.now c.args.self.now c.in_err-field.field-0.0 (not_empty c.self.inside.rest.now c.if-is_empty.ensures) c.in_err-field.ensures c.self.view_is)

pub returns : goal.returns
returns c = next_some field_at field_takes c.self.inside.rest.now c.args.self.now (wire_field c.in_ok-field.field, c.in_ok-field.rest.now) c.in_ok-field.ensures c.self.view_is
