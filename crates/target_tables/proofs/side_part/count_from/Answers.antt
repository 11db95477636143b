use Rattle.std.proofs.Common.{◌≡◌, ◌+◌, ◌≤◌, ◌^◌, length, arith}
use Rattle.target_tables.specs.Merged.{comes_from, part_of}
use Rattle.target_tables.proofs.Mixing.{part_most}
use Rattle.target_tables.proofs.side_part.count_from.Goals as goal

pub overflow_add-count : goal.overflow_add-count
overflow_add-count g c =
    let all : length (part_of (comes_from c.args.sides.now c.args.side) c.args.rows) ≤ length c.args.rows = part_most (comes_from c.args.sides.now c.args.side) c.args.rows in
    let seen : c.loop-stream.count + length (part_of (comes_from c.args.sides.now c.args.side) c.loop-stream.rows) ≡ length (part_of (comes_from c.args.sides.now c.args.side) c.args.rows) = c.loop-stream.invariant in
    let few : length c.args.rows ≤ 2 ^ 63 = c.requires in
    omega (arith, all, seen, few)
