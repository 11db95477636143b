use Rattle.std.proofs.Common.{◌≡◌, ℕ, suc, ◌+◌, ◌-◌, ap, arith}
use Rattle.std.specs.List.{flat_map}
use Rattle.log_values.specs.Decimal.{full_groups, group_text}
use Rattle.log_values.proofs.DecimalLaws.{digits_at, shows_turn, shows_end}
use Rattle.log_values.proofs.decimal.put_full.Goals as goal

pub loop-preserved : goal.loop-preserved
loop-preserved c =
    let bytes = c.args.bytes.now in
    let n = c.args.groups - c.loop.counter in
    let k = c.args.groups - (c.loop.counter + 1) in
    let one : n ≡ suc k = omega arith in (
      omega arith,
      shows_turn c.args.out.now.items c.loop.out.items c.put_group.new.out.items c.args.started c.loop.begun c.in_ok-begun.begun
          (flat_map (group_text bytes) (full_groups c.args.place c.args.groups)) (flat_map (group_text bytes) (full_groups c.loop.at n))
          (group_text bytes (record { place = c.loop.at; digits = 9 })) (flat_map (group_text bytes) (full_groups (c.loop.at + 4) k))
          c.loop.invariant.1 (digits_at bytes c.loop.at n k one) c.in_ok-begun.ensures,
    )

pub returns : goal.returns
returns c =
    let bytes = c.args.bytes.now in
    let n = c.args.groups - c.loop.counter in
    let none : n ≡ 0 = omega arith in
    shows_end c.args.out.now.items c.loop.out.items c.args.started c.loop.begun (flat_map (group_text bytes) (full_groups c.args.place c.args.groups)) (flat_map (group_text bytes) (full_groups c.loop.at n))
    c.loop.invariant.1 (ap (λ (m : ℕ). flat_map (group_text bytes) (full_groups c.loop.at m)) none)
