use Rattle.std.proofs.Common.{ℕ, ◌/◌, ◌%◌, List, ◌++◌, ap, ◌∙◌, arith}
use Rattle.std.specs.List.{flat_map}
use Rattle.log_values.specs.Decimal.{full_groups, group_text, group_size, shown}
use Rattle.log_values.proofs.DecimalLaws.{whole_shown, whole_zero}
use Rattle.log_values.proofs.decimal.put_whole.Goals as goal

pub returns-in_ok-put : goal.returns-in_ok-put
returns-in_ok-put c =
    let bytes = c.args.bytes.now in
    let one = c.put_group.new.out.items in
    let two = c.put_full.new.out.items in
    let odd = c.args.digits % 9 in
    let full = flat_map (group_text bytes) (full_groups (group_size odd) (c.args.digits / 9)) in
    let size = ap (λ (k : ℕ). flat_map (group_text bytes) (full_groups k (c.args.digits / 9))) c.group_size.ensures.value in
    c.in_ok-put.ensures
    ∙ whole_zero c.args.out.now.items one two (group_text bytes (record { place = 0; digits = odd })) full c.in_ok-started.started c.in_ok-put_full.field-0 c.in_ok-started.ensures
    (λ rest. c.in_ok-put_full.ensures rest ∙ ap (λ (xs : List ℕ). one ++ shown c.in_ok-started.started (xs ++ rest)) size) (omega (arith, c.put_full.new.out.ok.0, c.args.out.now.ok.0))

pub returns-else-len-before : goal.returns-else-len-before
returns-else-len-before c =
    let bytes = c.args.bytes.now in
    let one = c.put_group.new.out.items in
    let two = c.put_full.new.out.items in
    let odd = c.args.digits % 9 in
    let full = flat_map (group_text bytes) (full_groups (group_size odd) (c.args.digits / 9)) in
    let size = ap (λ (k : ℕ). flat_map (group_text bytes) (full_groups k (c.args.digits / 9))) c.group_size.ensures.value in
    whole_shown c.args.out.now.items one two (group_text bytes (record { place = 0; digits = odd })) full c.in_ok-started.started c.in_ok-put_full.field-0 c.in_ok-started.ensures
    (λ rest. c.in_ok-put_full.ensures rest ∙ ap (λ (xs : List ℕ). one ++ shown c.in_ok-started.started (xs ++ rest)) size) (λ e. c.if-len-before.false (omega (arith, e, c.put_full.new.out.ok.0, c.args.out.now.ok.0)))
