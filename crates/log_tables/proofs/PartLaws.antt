-- Parts of a body take bytes.
use Rattle.std.proofs.Common.{◌≡◌, ◌≢◌, ℕ, suc, ◌+◌, ◌<◌, ◌≤◌, true, false, cond, eqb, ltb, List, [], ◌∷◌, ◌++◌, length, take, drop, length-drop, Result, Ok, Err, refl, sym, ap, ◌∙◌, inl, inr, arith}
use Rattle.std.proofs.lemmas.Bool.{cases_lt, cases_Bool, lt-ltb, le-ltb}
use Rattle.std.proofs.lemmas.List.{append-nil}
use Rattle.list_laws.specs.Outcome.{◌>>=◌}
use Rattle.item_readers.specs.Reading.{reading_of}
use Rattle.item_readers.proofs.ReadingLaws.{TakesBytes, reading-none, reading-first, reading-fault}
use Rattle.log_events.specs.Number.{number}
use Rattle.log_tables.specs.declared.fault.TableFault.{TableFault}
use Rattle.log_tables.specs.declared.fault.TableFault.TheVariants.{CutBody}
use Rattle.log_tables.specs.Part.{front_at, wide_at, packed_at, counted_at}
use Rattle.log_tables.specs.Extra.{ExtraPart, part_at, last_part, texts_at}
use Rattle.log_tables.proofs.Fronts.{with_first, first_step, first-none, first-more}

front_takes : (n : ℕ) (bytes : List ℕ) (x : List ℕ × List ℕ) → front_at n bytes ≡ Ok x → length x.1 + n ≡ length bytes
front_takes n bytes x e =
    elim (cases_lt (length bytes) n) [
      | inl lt ↦ let test : ltb (length bytes) n ≡ true = lt-ltb _ _ lt in let none = rw test at e in cc
      | inr le ↦
          let test : ltb (length bytes) n ≡ false = le-ltb _ _ le in
          let some = rw test at e in
          let is : x ≡ (take n bytes, drop n bytes) = cc in
          rw is (omega (arith, length-drop n bytes))
    ]

wide_takes : (n : ℕ) (bytes : List ℕ) (x : ℕ × List ℕ) → wide_at n bytes ≡ Ok x → length x.1 ≤ length bytes
wide_takes n bytes x e =
    elim (cases_lt (length bytes) n) [
      | inl lt ↦ let test : ltb (length bytes) n ≡ true = lt-ltb _ _ lt in let none = rw test at e in cc
      | inr le ↦
          let test : ltb (length bytes) n ≡ false = le-ltb _ _ le in
          let some = rw test at e in
          let is : x ≡ (number 0 n bytes, drop n bytes) = cc in
          rw is (omega (arith, length-drop n bytes))
    ]

packed_takes : (bytes : List ℕ) (x : ℕ × List ℕ) → packed_at bytes ≡ Ok x → length x.1 < length bytes
unfolding packed_at
packed_takes [] x e = cc
packed_takes (first ∷ bytes) x e =
    elim (cases_lt first 251) [
      | inl lt ↦
          let test : ltb first 251 ≡ true = lt-ltb _ _ lt in
          let read = rw test at e in
          let is : x ≡ (first, bytes) = cc in
          rw is (omega arith)
      | inr le ↦
          let test : ltb first 251 ≡ false = le-ltb _ _ le in
          wide_by first bytes x (rw test at e)
    ]
  where
    wide_by : (first : ℕ) (bytes : List ℕ) (x : ℕ × List ℕ) → cond (eqb first 252) (wide_at 2 bytes) (cond (eqb first 253) (wide_at 3 bytes) (cond (eqb first 254) (wide_at 8 bytes) (Err CutBody))) ≡ Ok x → length x.1 < suc (length bytes)
    wide_by first bytes x e =
        elim (cases_Bool (eqb first 252)) [
          | inl two ↦ let le = wide_takes 2 bytes x (rw two at e) in omega arith
          | inr not_two ↦ elim (cases_Bool (eqb first 253)) [
            | inl three ↦ let le = wide_takes 3 bytes x (rw (not_two, three) at e) in omega arith
            | inr not_three ↦ elim (cases_Bool (eqb first 254)) [
              | inl eight ↦ let le = wide_takes 8 bytes x (rw (not_two, not_three, eight) at e) in omega arith
              | inr none ↦ let no = rw (not_two, not_three, none) at e in cc
            ]
          ]
        ]

pub counted_takes : (bytes : List ℕ) (x : List ℕ × List ℕ) → counted_at bytes ≡ Ok x → length x.1 < length bytes
unfolding counted_at
counted_takes bytes x e =
    let count = first_step (packed_at bytes) (λ count. front_at count.0 count.1) x e in
    let less = packed_takes bytes count.0 count.1 in
    let same = front_takes count.0.0 count.0.1 x count.2 in
    omega arith

part_takes : (bytes : List ℕ) (x : ExtraPart × List ℕ) → part_at bytes ≡ Ok x → length x.1 < length bytes
unfolding part_at
part_takes bytes x e =
    let kind = first_step (front_at 1 bytes) (λ kind. counted_at kind.1 >>= λ value. Ok (record { kind = number 0 1 kind.0; value = value.0 }, value.1)) x e in
    let value = first_step (counted_at kind.0.1) (λ value. Ok (record { kind = number 0 1 kind.0.0; value = value.0 }, value.1)) x kind.2 in
    let same = front_takes 1 bytes kind.0 kind.1 in
    let less = counted_takes kind.0.1 value.0 value.1 in
    let is : x.1 ≡ value.0.1 = cc in
    rw is (omega arith)

pub part_reader : TakesBytes part_at
part_reader = record { shorter = part_takes }

-- ---- parts one on

abbrev pub last_of : ℕ → List ℕ → List ℕ → Result (List ℕ) TableFault
last_of kind found left = last_part kind found (reading_of part_at left).items (reading_of part_at left).fault

pub part_more : (kind : ℕ) (found new left : List ℕ) (x : ExtraPart × List ℕ) (all : Result (List ℕ) TableFault) → part_at left ≡ Ok x → new ≡ cond (eqb x.0.kind kind) x.0.value found → last_of kind found left ≡ all → last_of kind new x.1 ≡ all
part_more kind found new left x all read is so_far =
    let first = reading-first part_at part_reader left x read in
    let parts = rw first at so_far in
    rw is parts

pub part_end : (kind : ℕ) (found left : List ℕ) (all : Result (List ℕ) TableFault) → left ≡ [] → last_of kind found left ≡ all → all ≡ Ok found
part_end kind found left all none so_far =
    let parts : last_of kind found left ≡ Ok found = rw (none, reading-none part_at) refl in
    sym so_far ∙ parts

pub part_fault : (kind : ℕ) (found left : List ℕ) (fault : TableFault) (all : Result (List ℕ) TableFault) → left ≢ [] → part_at left ≡ Err fault → last_of kind found left ≡ all → all ≡ Err fault
part_fault kind found left fault all some read so_far =
    let parts : last_of kind found left ≡ Err fault = rw (reading-fault part_at left fault some read) refl in
    sym so_far ∙ parts

-- ---- labels one on

texts-first : (n k : ℕ) (left : List ℕ) (x : List ℕ × List ℕ) → n ≡ suc k → counted_at left ≡ Ok x → texts_at n left ≡ (texts_at k x.1 >>= λ others. Ok (x.0 ∷ others.0, others.1))
unfolding texts_at
texts-first n k left x e read = rw (e, read) refl

pub texts_start : (n m : ℕ) (xs : List (List ℕ)) (bytes : List ℕ) → n ≡ m → xs ≡ [] → with_first xs (texts_at n bytes) ≡ texts_at m bytes
texts_start n m xs bytes same none = rw (same, none) (first-none (texts_at m bytes))

pub texts_more : (n k : ℕ) (left : List ℕ) (x : List ℕ × List ℕ) (xs : List (List ℕ)) (all : Result (List (List ℕ) × List ℕ) TableFault) → n ≡ suc k → counted_at left ≡ Ok x
    → with_first xs (texts_at n left) ≡ all → with_first (xs ++ x.0 ∷ []) (texts_at k x.1) ≡ all
texts_more n k left x xs all e read so_far =
    first-more xs x.0 (texts_at k x.1) ∙ ap (with_first xs) (sym (texts-first n k left x e read)) ∙ so_far

pub texts_fault : (n k : ℕ) (left : List ℕ) (fault : TableFault) (xs : List (List ℕ)) (all : Result (List (List ℕ) × List ℕ) TableFault) → n ≡ suc k → counted_at left ≡ Err fault
    → with_first xs (texts_at n left) ≡ all → all ≡ Err fault
unfolding texts_at
texts_fault n k left fault xs all e read so_far =
    let none : with_first xs (texts_at n left) ≡ Err fault = rw (e, read) refl in
    sym so_far ∙ none

pub texts_end : (n : ℕ) (left : List ℕ) (xs : List (List ℕ)) (all : Result (List (List ℕ) × List ℕ) TableFault) → n ≡ 0 → with_first xs (texts_at n left) ≡ all → all ≡ Ok (xs, left)
unfolding texts_at
texts_end n left xs all e so_far =
    let done : with_first xs (texts_at n left) ≡ Ok (xs ++ [], left) = rw e refl in
    sym so_far ∙ done ∙ ap (λ (ys : List (List ℕ)). Ok (ys, left)) (append-nil xs)
