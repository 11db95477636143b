use Rattle.std.proofs.Common.{◌≡◌, ◌∙◌, ℕ, ap, sym, ◌<◌, [], ◌∷◌, ◌++◌, length, get_or, drop, false}
use Rattle.std.proofs.lemmas.List.{drop_all}
use Rattle.std.specs.Prelude.{Option, Some, None, is_some}
use Rattle.vrepl_main.specs.HexText.{hex_text_digit, digits_of, is_skipped_byte, paired}
use Rattle.vrepl_main.proofs.HexLaws.{waiting, spells-no_digit, spells-high, spells-low, spells-whole, spells-left_over}
use Rattle.vrepl_main.proofs.hex_text.spells_bytes.Goals as goal
use Rattle.vrepl_main.proofs.hex_text.spells_bytes.Goals.{in-None, in-Some-high}

pub returns-in_default : goal.returns-in_default
returns-in_default c =
    sym (spells-no_digit c.args.text.now c.loop-character.high c.loop-character.character-index
    c.loop-character-test.true (sym c.stands_for_nothing.ensures ∙ c.if-stands_for_nothing.false)
    (sym c.digit_value.ensures.value ∙ c.in_default.is) c.loop-character.invariant)

pub loop-character-preserved : goal.loop-character-preserved
loop-character-preserved c =
    let text = c.args.text.now in
    let at = c.loop-character.character-index in
    let within : at < length text = c.loop-character-test.true in
    let skipped : is_skipped_byte (get_or text at 0) ≡ false = sym c.stands_for_nothing.ensures ∙ c.if-stands_for_nothing.false in
    let digit : hex_text_digit (get_or text at 0) ≡ Some c.in-Some.digit = sym c.digit_value.ensures.value ∙ c.in-Some.is in
    let known = λ (high : Option ℕ) (e : c.loop-character.high ≡ high). c.loop-character.invariant ∙ ap (λ h. is_some (paired (waiting h ++ digits_of (drop at text)))) e in
    elim c.match-high.branch [
      | in-None w ↦ rw w.high-is (spells-high text c.in-Some.digit at within skipped digit (known None w.in-None.is))
      | in-Some-high w ↦ rw w.high-is (spells-low text w.in-Some-high.field-0 c.in-Some.digit at within skipped digit (known (Some w.in-Some-high.field-0) w.in-Some-high.is))
    ]

pub returns-in-None-high : goal.returns-in-None-high
returns-in-None-high c =
    let rest : drop c.loop-character.character-index c.args.text.now ≡ [] = drop_all _ _ c.loop-character-test.false in
    sym (c.loop-character.invariant
    ∙ ap (λ h. is_some (paired (waiting h ++ digits_of (drop c.loop-character.character-index c.args.text.now)))) c.in-None-high.is
    ∙ ap (λ xs. is_some (paired (digits_of xs))) rest
    ∙ spells-whole)

pub returns-in-Some-high-2 : goal.returns-in-Some-high-2
returns-in-Some-high-2 c =
    let high = c.in-Some-high-2.field-0 in
    let rest : drop c.loop-character.character-index c.args.text.now ≡ [] = drop_all _ _ c.loop-character-test.false in
    sym (c.loop-character.invariant
    ∙ ap (λ h. is_some (paired (waiting h ++ digits_of (drop c.loop-character.character-index c.args.text.now)))) c.in-Some-high-2.is
    ∙ ap (λ xs. is_some (paired (Some high ∷ digits_of xs))) rest
    ∙ spells-left_over high)
