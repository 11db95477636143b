use Rattle.std.proofs.lemmas.Result.{err_from_is_err_and}
use Rattle.proto_wire.specs.Varint.{varint_at}
use Rattle.proto_wire.proofs.ReadingLaws.{empty_list, not_empty, next_none, next_err, next_some}
use Rattle.proto_wire.proofs.VarintLaws.{varint_takes}
use Rattle.proto_wire.proofs.varints.Varints.next_varint.Goals as goal

pub returns-then-is_empty : goal.returns-then-is_empty
returns-then-is_empty c = next_none varint_at c.self.inside.rest.now c.args.self.now (empty_list c.self.inside.rest.now c.if-is_empty.ensures) c.self.view_is

pub returns-in_err-value : goal.returns-in_err-value
returns-in_err-value c =
    let p = err_from_is_err_and c.from_residual.result c.from_residual.ensures.1 in
    rw (p.1, p.2) (next_err varint_at c.self.inside.rest.now c.args.self.now c.in_err-value.field-0.0 (not_empty c.self.inside.rest.now c.if-is_empty.ensures) c.in_err-value.ensures c.self.view_is)

pub returns : goal.returns
returns c = next_some varint_at varint_takes c.self.inside.rest.now c.args.self.now (c.in_ok-value.value, c.in_ok-value.rest.now) c.in_ok-value.ensures c.self.view_is
