use Rattle.std.proofs.Common.{◌≤◌, [], length, sym, ◌∙◌, arith}
use Rattle.std.proofs.lemmas.Result.{err_from_is_err_and}
use Rattle.proto_wire.specs.Field.{wire_field}
use Rattle.proto_wire.proofs.ReadingLaws.{empty_list, not_empty}
use Rattle.row_view.proofs.FoundLaws.{last_of-past}
use Rattle.row_view.proofs.PlaceLaws.{ends_long}
use Rattle.row_view.proofs.ReadLaws.{field_ahead, broken_here, packed_here, last_here, read_on, read_whole}
use Rattle.row_view.proofs.found.found_in.Goals as goal

pub returns-in_err-field : goal.returns-in_err-field
returns-in_err-field c =
    let p = err_from_is_err_and c.from_residual.result c.from_residual.ensures.1 in
    let rest = c.loop-rest.rest.now in
    rw (p.1, p.2) (sym c.loop-rest.invariant.fault ∙ broken_here rest c.in_err-field.field-0.0 (not_empty rest (sym c.loop-rest-test.true ∙ c.is_empty.ensures)) c.in_err-field.ensures)

pub returns-in_err-put : goal.returns-in_err-put
returns-in_err-put c =
    let p = err_from_is_err_and c.from_residual-in_err-put.result c.from_residual-in_err-put.ensures.1 in
    let rest = c.loop-rest.rest.now in
    let f = wire_field c.in_ok-field.field in
    let ahead = field_ahead rest c.in_ok-field.after.now f c.in_ok-field.ensures in
    rw (p.1, p.2) (sym c.loop-rest.invariant.fault ∙ packed_here rest c.in_ok-field.after.now f c.in_err-put.field-0.0 ahead c.in_err-put.ensures.read)

pub loop-rest-smaller-in-Some : goal.loop-rest-smaller-in-Some
loop-rest-smaller-in-Some c = (field_ahead c.loop-rest.rest.now c.in_ok-field.after.now (wire_field c.in_ok-field.field) c.in_ok-field.ensures).shorter

pub loop-rest-preserved-in-Some : goal.loop-rest-preserved-in-Some
loop-rest-preserved-in-Some c =
    let rest = c.loop-rest.rest.now in
    let after = c.in_ok-field.after.now in
    let f = wire_field c.in_ok-field.field in
    let ahead = field_ahead rest after f c.in_ok-field.ensures in
    let last = last_here rest after c.in-Some.last.now c.loop-rest.values.now f ahead c.in-Some.ensures in
    let long : length rest ≤ length c.args.bytes.now =
    omega (arith, ends_long c.args.bytes.now [] rest (record { front = c.loop-rest.invariant.front; is = c.loop-rest.invariant.is })) in
    read_on c.args.bytes.now rest after c.loop-rest.values.now c.in-Some.last.now f _ _ _ _ c.loop-rest.invariant ahead c.in_ok-put.ensures.read.0 last.0
    (omega (arith, last.1, long)) c.put.ensures.few c.in_ok-put.ensures.read.1

pub loop-rest-smaller : goal.loop-rest-smaller
loop-rest-smaller c = (field_ahead c.loop-rest.rest.now c.in_ok-field.after.now (wire_field c.in_ok-field.field) c.in_ok-field.ensures).shorter

pub loop-rest-preserved : goal.loop-rest-preserved
loop-rest-preserved c =
    let rest = c.loop-rest.rest.now in
    let after = c.in_ok-field.after.now in
    let f = wire_field c.in_ok-field.field in
    let ahead = field_ahead rest after f c.in_ok-field.ensures in
    read_on c.args.bytes.now rest after c.loop-rest.values.now c.loop-rest.values.now f _ _ _ _ c.loop-rest.invariant ahead c.in_ok-put.ensures.read.0
    (last_of-past _ _ _ _ _ ahead.items c.in_default.ensures) c.loop-rest.invariant.short c.put.ensures.few c.in_ok-put.ensures.read.1

pub returns : goal.returns
returns c = read_whole c.args.bytes.now c.loop-rest.rest.now _ _ _ c.loop-rest.invariant (empty_list c.loop-rest.rest.now (sym c.loop-rest-test.false ∙ c.is_empty.ensures))
