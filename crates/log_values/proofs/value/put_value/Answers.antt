use Rattle.std.proofs.Common.{List, ℕ, map, ◌≤◌, ◌<◌, length, take, drop, Bor, refl, sym, ap, ◌∙◌, arith}
use Rattle.log_values.specs.Value.{value_size}
use Rattle.log_values.proofs.ValueLaws.{value_cut, value_out, value_there}
use Rattle.log_values.proofs.value.put_value.Goals as goal

pub returns-then-bytes-size : goal.returns-then-bytes-size
returns-then-bytes-size c =
    let bytes = c.args.bytes.now in
    let less : length bytes < value_size c.args.kind bytes = omega (arith, c.value_size-size.ensures) in
    (value_cut c.args.kind (map {A = Bor (List ℕ)} {B = List ℕ} (λ b. b.now) c.args.labels.now) bytes less, refl)

pub returns-then-not-fits : goal.returns-then-not-fits
returns-then-not-fits c =
    let bytes = c.args.bytes.now in
    let size = c.value_size-size.ensures in
    let le : value_size c.args.kind bytes ≤ length bytes = omega (arith, size) in
    let labels = map {A = Bor (List ℕ)} {B = List ℕ} (λ b. b.now) c.args.labels.now in
    (value_out c.args.kind labels bytes c.split_at.result.0.now le (c.split_at.ensures.front ∙ ap (λ (k : ℕ). take k bytes) size) (sym c.fits.ensures ∙ c.if-not-fits.true), refl)

pub returns-in-Ok : goal.returns-in-Ok
returns-in-Ok c =
    let bytes = c.args.bytes.now in
    let size = c.value_size-size.ensures in
    let le : value_size c.args.kind bytes ≤ length bytes = omega (arith, size) in
    let labels = map {A = Bor (List ℕ)} {B = List ℕ} (λ b. b.now) c.args.labels.now in
    value_there c.args.kind labels bytes c.split_at.result.0.now c.split_at.result.1.now c.args.out.now.items c.put_text.new.out.items le
    (c.split_at.ensures.front ∙ ap (λ (k : ℕ). take k bytes) size) (c.split_at.ensures.back ∙ ap (λ (k : ℕ). drop k bytes) size) (sym c.fits.ensures ∙ c.if-not-fits.false) c.in-Ok.ensures
