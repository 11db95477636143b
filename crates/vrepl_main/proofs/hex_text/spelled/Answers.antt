use Rattle.std.proofs.Common.{◌≡◌, ◌∙◌, ℕ, ap, sym, ◌<◌, [], ◌∷◌, ◌++◌, length, get_or, drop, false, rules}
use Rattle.std.proofs.lemmas.List.{drop_all}
use Rattle.std.specs.Prelude.{Option, Some, None}
use Rattle.vrepl_main.specs.HexText.{hex_text_digit, digits_of, is_skipped_byte, paired}
use Rattle.vrepl_main.proofs.HexLaws.{after, waiting, step-no_digit, step-high, step-low, end-whole, end-left_over}
use Rattle.vrepl_main.proofs.hex_text.spelled.Goals as goal
use Rattle.vrepl_main.proofs.hex_text.spelled.Goals.{in-None, in-Some-high+in_ok-push-in-Some-high}

pub returns-in_default-clause-bad : goal.returns-in_default-clause-bad
returns-in_default-clause-bad c =
    λ _. step-no_digit c.args.text.now c.loop-character.bytes.items c.loop-character.high c.loop-character.character-index
    c.loop-character-test.true (sym c.stands_for_nothing.ensures ∙ c.if-stands_for_nothing.false)
    (sym c.digit_value.ensures.value ∙ c.in_default.is) c.loop-character.invariant.1

pub loop-character-preserved : goal.loop-character-preserved
loop-character-preserved c =
    let text = c.args.text.now in
    let bytes = c.loop-character.bytes.items in
    let at = c.loop-character.character-index in
    let within : at < length text = c.loop-character-test.true in
    let skipped : is_skipped_byte (get_or text at 0) ≡ false = sym c.stands_for_nothing.ensures ∙ c.if-stands_for_nothing.false in
    let digit : hex_text_digit (get_or text at 0) ≡ Some c.in-Some.digit = sym c.digit_value.ensures.value ∙ c.in-Some.is in
    let known = λ (high : Option ℕ) (e : c.loop-character.high ≡ high). c.loop-character.invariant.1 ∙ ap (λ h. after bytes (paired (waiting h ++ digits_of (drop at text)))) e in
    elim c.match-high.branch [
      | in-None w ↦ rw (w.high-is, w.bytes-is) (
        c.in-Some.ensures.range,
        step-high text bytes c.in-Some.digit at within skipped digit (known None w.in-None.is),
      )
      | in-Some-high+in_ok-push-in-Some-high w ↦ rw (w.high-is, w.bytes-is, w.in_ok-push-in-Some-high.ensures.items) (
        tt,
        step-low text bytes w.in-Some-high.first c.in-Some.digit at within skipped digit (known (Some w.in-Some-high.first) w.in-Some-high.is),
      )
    ]

pub returns-in-None-high-clause-value : goal.returns-in-None-high-clause-value
returns-in-None-high-clause-value c =
    let bytes = c.loop-character.bytes.items in
    let rest : drop c.loop-character.character-index c.args.text.now ≡ [] = drop_all _ _ c.loop-character-test.false in
    c.loop-character.invariant.1
    ∙ ap (λ h. after bytes (paired (waiting h ++ digits_of (drop c.loop-character.character-index c.args.text.now)))) c.in-None-high.is
    ∙ ap (λ xs. after bytes (paired (digits_of xs))) rest
    ∙ end-whole bytes

pub returns-in-Some-high-2-clause-bad : goal.returns-in-Some-high-2-clause-bad
returns-in-Some-high-2-clause-bad c =
    let bytes = c.loop-character.bytes.items in
    let high = c.in-Some-high-2.field-0 in
    let rest : drop c.loop-character.character-index c.args.text.now ≡ [] = drop_all _ _ c.loop-character-test.false in
    λ _. c.loop-character.invariant.1
    ∙ ap (λ h. after bytes (paired (waiting h ++ digits_of (drop c.loop-character.character-index c.args.text.now)))) c.in-Some-high-2.is
    ∙ ap (λ xs. after bytes (paired (Some high ∷ digits_of xs))) rest
    ∙ end-left_over bytes high

pub returns-in-None-high-clause-bad : goal.returns-in-None-high-clause-bad
returns-in-None-high-clause-bad c = search rules

pub returns-in-Some-high-2-clause-value : goal.returns-in-Some-high-2-clause-value
returns-in-Some-high-2-clause-value c = search rules

pub returns-in_default-clause-value : goal.returns-in_default-clause-value
returns-in_default-clause-value c = search rules

pub returns-in_err-push-in-Some-high-clause-bad : goal.returns-in_err-push-in-Some-high-clause-bad
returns-in_err-push-in-Some-high-clause-bad c = search rules

pub returns-in_err-push-in-Some-high-clause-value : goal.returns-in_err-push-in-Some-high-clause-value
returns-in_err-push-in-Some-high-clause-value c = search rules
