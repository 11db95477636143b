use Rattle.std.proofs.Common.{◌≡◌, ◌≤◌, ◌+◌, ◌*◌, ◌^◌, ◌∙◌, ℕ, List, arith, drop, length, sym, take}
use Rattle.gtid_set.proofs.DigitLaws.{group-length}
use Rattle.gtid_set.proofs.UuidHalves.{both-halves, no-clock, no-node, uuid_of-high}
use Rattle.gtid_set.proofs.digits.uuid.Goals as goal

pub hex_behind-requires-2-clause-room : goal.hex_behind-requires-2-clause-room
hex_behind-requires-2-clause-room c =
    let text = c.args.text.now in
    let len : length text ≡ 36 = c.is_hyphenated.ensures.length c.if-not-is_hyphenated.false in
    let one : c.in_ok-time_low.time_low + 1 ≤ 16 ^ 8 = rw (group-length text 0 8 len (omega arith)) at c.in_ok-time_low.ensures.small in
    rw (group-length text 9 4 len (omega arith)) (omega arith)

pub hex_behind-requires-3-clause-room : goal.hex_behind-requires-3-clause-room
hex_behind-requires-3-clause-room c =
    let text = c.args.text.now in
    let len : length text ≡ 36 = c.is_hyphenated.ensures.length c.if-not-is_hyphenated.false in
    let one : c.in_ok-time_low.time_low + 1 ≤ 16 ^ 8 = rw (group-length text 0 8 len (omega arith)) at c.in_ok-time_low.ensures.small in
    let two : c.in_ok-time_mid.time_mid + 1 ≤ (c.in_ok-time_low.time_low + 1) * 16 ^ 4 = rw (group-length text 9 4 len (omega arith)) at c.in_ok-time_mid.ensures.small in
    rw (group-length text 14 4 len (omega arith)) (omega arith)

pub hex_behind-requires-4-clause-room : goal.hex_behind-requires-4-clause-room
hex_behind-requires-4-clause-room c =
    let text = c.args.text.now in
    let len : length text ≡ 36 = c.is_hyphenated.ensures.length c.if-not-is_hyphenated.false in
    rw (group-length text 19 4 len (omega arith)) (omega arith)

pub hex_behind-requires-5-clause-room : goal.hex_behind-requires-5-clause-room
hex_behind-requires-5-clause-room c =
    let text = c.args.text.now in
    let len : length text ≡ 36 = c.is_hyphenated.ensures.length c.if-not-is_hyphenated.false in
    let one : c.in_ok-clock.clock + 1 ≤ (0 + 1) * 16 ^ 4 = rw (group-length text 19 4 len (omega arith)) at c.in_ok-clock.ensures.small in
    rw (group-length text 24 12 len (omega arith)) (omega arith)

pub hex_behind-requires-2-clause-fours : goal.hex_behind-requires-2-clause-fours
hex_behind-requires-2-clause-fours c = rw (group-length c.args.text.now 9 4 (c.is_hyphenated.ensures.length c.if-not-is_hyphenated.false) (omega arith)) (omega arith)

pub hex_behind-requires-3-clause-fours : goal.hex_behind-requires-3-clause-fours
hex_behind-requires-3-clause-fours c = rw (group-length c.args.text.now 14 4 (c.is_hyphenated.ensures.length c.if-not-is_hyphenated.false) (omega arith)) (omega arith)

pub hex_behind-requires-4-clause-fours : goal.hex_behind-requires-4-clause-fours
hex_behind-requires-4-clause-fours c = rw (group-length c.args.text.now 19 4 (c.is_hyphenated.ensures.length c.if-not-is_hyphenated.false) (omega arith)) (omega arith)

pub hex_behind-requires-5-clause-fours : goal.hex_behind-requires-5-clause-fours
hex_behind-requires-5-clause-fours c = rw (group-length c.args.text.now 24 12 (c.is_hyphenated.ensures.length c.if-not-is_hyphenated.false) (omega arith)) (omega arith)

-- what is read of the upper half
abbrev clock_of : List ℕ → List ℕ
clock_of text = take 4 (drop 19 text)

abbrev node_of : List ℕ → List ℕ
node_of text = take 12 (drop 24 text)

pub returns-in_err-clock : goal.returns-in_err-clock
returns-in_err-clock c =
    let text = c.args.text.now in
    let hyphens = sym c.is_hyphenated.ensures.value ∙ c.if-not-is_hyphenated.false in
    c.from_residual-in_err-clock.ensures ∙ no-clock c.in_ok-high.high (clock_of text) (node_of text) c.in_err-clock.ensures.value
    ∙ uuid_of-high text c.in_ok-time_low.time_low c.in_ok-time_mid.time_mid c.in_ok-high.high hyphens c.in_ok-time_low.ensures.value c.in_ok-time_mid.ensures.value c.in_ok-high.ensures.value

pub returns-in_err-low : goal.returns-in_err-low
returns-in_err-low c =
    let text = c.args.text.now in
    let hyphens = sym c.is_hyphenated.ensures.value ∙ c.if-not-is_hyphenated.false in
    c.from_residual-in_err-low.ensures ∙ no-node c.in_ok-high.high c.in_ok-clock.clock (clock_of text) (node_of text) c.in_ok-clock.ensures.value c.in_err-low.ensures.value
    ∙ uuid_of-high text c.in_ok-time_low.time_low c.in_ok-time_mid.time_mid c.in_ok-high.high hyphens c.in_ok-time_low.ensures.value c.in_ok-time_mid.ensures.value c.in_ok-high.ensures.value

pub returns : goal.returns
returns c =
    let text = c.args.text.now in
    let len : length text ≡ 36 = c.is_hyphenated.ensures.length c.if-not-is_hyphenated.false in
    let hyphens = sym c.is_hyphenated.ensures.value ∙ c.if-not-is_hyphenated.false in
    rw (c.from.ensures, c.from-2.ensures)
    (both-halves c.in_ok-high.high c.in_ok-clock.clock c.in_ok-low.low (clock_of text) (node_of text) (group-length text 19 4 len (omega arith)) (group-length text 24 12 len (omega arith)) c.in_ok-clock.ensures.value c.in_ok-low.ensures.value
    ∙ uuid_of-high text c.in_ok-time_low.time_low c.in_ok-time_mid.time_mid c.in_ok-high.high hyphens c.in_ok-time_low.ensures.value c.in_ok-time_mid.ensures.value c.in_ok-high.ensures.value)
