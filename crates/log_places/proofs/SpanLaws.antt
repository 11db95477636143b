-- The text of some numbers of a uuid is read as these.
use Rattle.std.proofs.Common.{◌≡◌, ℕ, ◌<◌, ◌≤◌, ◌^◌, eqb, List, [], ◌∷◌, ◌++◌, length, length-append, None, Result, Ok, refl, sym, ap, ◌∙◌, inl, inr, arith}
use Rattle.std.specs.Fmt.{decimal}
use Rattle.std.proofs.lemmas.Fmt.{length-decimal-le}
use Rattle.std.proofs.lemmas.Bool.{cases_Bool}
use Rattle.std.proofs.lemmas.List.{append-nil}
use Rattle.gtid_set.specs.declared.interval.Interval.{Interval}
use Rattle.gtid_set.specs.declared.fault.GtidFault.{GtidFault}
use Rattle.gtid_set.specs.Position.{IsInterval, IsCanonical}
use Rattle.gtid_set.specs.Printed.{uuid_text, span_text, numbers_text, interval_text, printed_position}
use Rattle.gtid_set.specs.Text.{position_of_text, text_limit}

decimal_short : (n : ℕ) → n < 2 ^ 64 → length (decimal n) ≤ 20
decimal_short n less = length-decimal-le 20 n (omega arith) (omega (arith, less)) less

span_short : (first last : ℕ) → first < 2 ^ 64 → last < 2 ^ 64 → length (span_text first last) ≤ 41
span_short first last f l =
    let one = decimal_short first f in
    let two = decimal_short last l in
    elim (cases_Bool (eqb first last)) [
      | inl same ↦
          let shown : span_text first last ≡ decimal first = rw same refl in
          rw shown (omega (arith, one))
      | inr other ↦
          let shown : span_text first last ≡ decimal first ++ 45 ∷ decimal last = rw other refl in
          rw shown (omega (arith, one, two, length-append (decimal first) (45 ∷ decimal last)))
    ]

uuid_long : (uuid : ℕ) → length (uuid_text uuid) ≡ 36
unfolding uuid_text
uuid_long uuid = refl

printed_one : (i : Interval) → printed_position (i ∷ []) ≡ interval_text None i
printed_one i = append-nil (interval_text None i)

text_short : (i : Interval) → IsInterval i → length (printed_position (i ∷ [])) ≤ text_limit
text_short i h =
    let last : i.last < 2 ^ 64 = omega (arith, h.to_last) in
    let first : i.first < 2 ^ 64 = omega (arith, last, h.holds_first) in
    let numbers : length (numbers_text i) ≤ 41 = span_short i.first i.last first last in
    let uuid = uuid_long i.uuid in
    rw (printed_one i) (omega (arith, uuid, numbers, length-append (uuid_text i.uuid) (58 ∷ numbers_text i)))

pub set_read : ((set : List Interval) → IsCanonical set → length (printed_position set) ≤ text_limit → position_of_text (printed_position set) ≡ Ok set)
    → (i : Interval) (text : List ℕ) (set : List Interval) → IsInterval i → text ≡ interval_text None i → position_of_text text ≡ Ok set → set ≡ i ∷ []
set_read reads_back i text set h is read =
    let back : position_of_text (printed_position (i ∷ [])) ≡ Ok (i ∷ []) = reads_back (i ∷ []) (h, tt, tt) (text_short i h) in
    let there : position_of_text text ≡ Ok (i ∷ []) = ap position_of_text (is ∙ sym (printed_one i)) ∙ back in
    same_value (sym read ∙ there)
  where
    same_value : {one other : List Interval} → ◌≡◌ {A = Result (List Interval) GtidFault} (Ok one) (Ok other) → one ≡ other
    same_value e = cc
