use Rattle.std.proofs.Common.{◌≡◌, ◌∙◌, ◌≤◌, ◌^◌, ◌++◌, arith, length, sym, ap, subst}
use Rattle.std.proofs.lemmas.List.{length-append}
use Rattle.proto_wire.specs.Varint.{shortest}
use Rattle.row_view.specs.ColumnValue.{column_value}
use Rattle.row_view.specs.WrittenRow.{value_bytes, written_lengths, written_values}
use Rattle.json_pieces.specs.Telling.{IsToldUpTo, at}
use Rattle.json_pieces.proofs.TellLaws.{starts, moves, ends}
use Rattle.compaction.proofs.sized_row.put_lengths.Goals as goal

pub loop-column-init : goal.loop-column-init
loop-column-init g c =
    let here = at (g.O.Out.written c.args.out.now) c.args.line.now in
    let made = c.into_iter-column-iterator.ensures in
    let columns = c.columns-column-items.ensures in
    let all : c.args.row.now ≡ c.into_iter-column-iterator.result = cc in (
      subst (λ left. IsToldUpTo here here (written_lengths c.args.row.now) (written_lengths left)) all (starts here (written_lengths c.args.row.now)),
      subst (λ left. length (written_values left) ≤ 2 ^ 24) all c.requires,
    )

pub number_of-requires : goal.number_of-requires
number_of-requires g c =
    let column = column_value c.in-Some.column in
    let parts : length (written_values c.loop-column.column-iterator) ≡ length (value_bytes column ++ written_values c.next.new.self) = ap (λ columns. length (written_values columns)) c.in-Some.ensures.steps in
    omega (arith, c.loop-column.invariant.1, parts, length-append (value_bytes column) (written_values c.next.new.self))

pub loop-column-preserved : goal.loop-column-preserved
loop-column-preserved g c =
    let column = column_value c.in-Some.column in
    let parts : length (written_values c.loop-column.column-iterator) ≡ length (value_bytes column ++ written_values c.next.new.self) = ap (λ columns. length (written_values columns)) c.in-Some.ensures.steps in (
      moves _ _ _ _ _ (shortest c.number_of.result) (written_lengths c.next.new.self) (ap written_lengths c.in-Some.ensures.steps ∙ ap (λ n. shortest n ++ written_lengths c.next.new.self) (sym c.number_of.ensures)) c.loop-column.invariant.0
          c.put_number.ensures,
      omega (arith, c.loop-column.invariant.1, parts, length-append (value_bytes column) (written_values c.next.new.self)),
    )

pub returns : goal.returns
returns g c = ends _ _ _ _ (ap written_lengths c.in-None.ensures.steps.0) c.loop-column.invariant.0
