-- A varint is read exactly where one stands.
use Rattle.std.proofs.Common.{◌≡◌, ℕ, zero, suc, ◌+◌, ◌-◌, ◌*◌, ◌<◌, ◌≤◌, ◌⊎◌, inl, inr, true, false, cond, ltb, List, [], ◌∷◌, ◌++◌, length, Result, Ok, Err, refl, sym, ap, ◌∙◌, append_assoc, arith}
use Rattle.std.proofs.lemmas.Bool.{lt-ltb, le-ltb, cases_lt}
use Rattle.std.proofs.lemmas.List.{length-append}
use Rattle.proto_wire.specs.declared.fault.WireFault.{WireFault}
use Rattle.proto_wire.specs.declared.fault.WireFault.TheVariants.{Truncated, VarintTooLong}
use Rattle.list_laws.specs.Outcome.{◌>>=◌}
use Rattle.proto_wire.specs.Varint.{IsContinued, value_of, IsVarint, NoVarint, varint_within, varint_at}
use Rattle.proto_wire.proofs.ReadingLaws.{TakesBytes, IsReader}

-- a varint and its absence, where at most `more` bytes are continued
abbrev pub IsWithin : ℕ → List ℕ → ℕ → Type 0
IsWithin more bytes n = (front : List ℕ) × (last : ℕ) × (bytes ≡ front ++ last ∷ []) × IsContinued front × (last < 128) × (length front ≤ more) × (length front ≡ more → last ≤ 1) × (n ≡ value_of bytes)

abbrev NoneWithin : ℕ → List ℕ → WireFault → Type 0
NoneWithin more bytes fault = ((fault ≡ Truncated) × IsContinued bytes × (length bytes ≤ more))
    ⊎ ((fault ≡ VarintTooLong) × ((front : List ℕ) × (tenth : ℕ) × (rest : List ℕ) × (bytes ≡ front ++ tenth ∷ rest) × IsContinued front × (length front ≡ more) × (2 ≤ tenth)))

within-nil : (more : ℕ) → varint_within more [] ≡ Err Truncated
unfolding varint_within
within-nil zero = refl
within-nil (suc more) = refl

within-low : (more b : ℕ) (bytes : List ℕ) → b < 128 → varint_within (suc more) (b ∷ bytes) ≡ Ok (b, bytes)
unfolding varint_within
within-low more b bytes lt = let test : ltb b 128 ≡ true = lt-ltb b 128 lt in rw test refl

abbrev above : ℕ → Result (ℕ × List ℕ) WireFault → Result (ℕ × List ℕ) WireFault
above b read = read >>= λ high. Ok (b - 128 + 128 * high.0, high.1)

within-high : (more b : ℕ) (bytes : List ℕ) → 128 ≤ b → varint_within (suc more) (b ∷ bytes) ≡ above b (varint_within more bytes)
unfolding varint_within
within-high more b bytes le = let test : ltb b 128 ≡ false = le-ltb b 128 le in rw test refl

within-tenth : (b : ℕ) (bytes : List ℕ) → b < 2 → varint_within 0 (b ∷ bytes) ≡ Ok (b, bytes)
unfolding varint_within
within-tenth b bytes lt = let test : ltb b 2 ≡ true = lt-ltb b 2 lt in rw test refl

within-too_long : (b : ℕ) (bytes : List ℕ) → 2 ≤ b → varint_within 0 (b ∷ bytes) ≡ Err VarintTooLong
unfolding varint_within
within-too_long b bytes le = let test : ltb b 2 ≡ false = le-ltb b 2 le in rw test refl

pub value-low : (b : ℕ) → b < 128 → value_of (b ∷ []) ≡ b
value-low b lt = let test : ltb b 128 ≡ true = lt-ltb b 128 lt in rw test (omega arith)

pub value-high : (b : ℕ) (bytes : List ℕ) → 128 ≤ b → value_of (b ∷ bytes) ≡ b - 128 + 128 * value_of bytes
value-high b bytes le = let test : ltb b 128 ≡ false = le-ltb b 128 le in rw test refl

-- ---- what stands there is read

finds_within : (more : ℕ) (front : List ℕ) (last : ℕ) (rest : List ℕ) → IsContinued front → last < 128 → length front ≤ more → (length front ≡ more → last ≤ 1)
    → varint_within more ((front ++ last ∷ []) ++ rest) ≡ Ok (value_of (front ++ last ∷ []), rest)
finds_within zero [] last rest c lt le one =
    let small : last ≤ 1 = one refl in
    within-tenth last rest (omega arith) ∙ ap (λ (n : ℕ). Ok (n, rest)) (sym (value-low last lt))
finds_within (suc more) [] last rest c lt le one =
    within-low more last rest lt ∙ ap (λ (n : ℕ). Ok (n, rest)) (sym (value-low last lt))
finds_within zero (b ∷ front) last rest c lt le one = absurd (omega arith)
finds_within (suc more) (b ∷ front) last rest c lt le one =
    within-high more b ((front ++ last ∷ []) ++ rest) c.0
    ∙ ap (above b) (finds_within more front last rest c.1 lt (omega arith) (λ e. one (ap suc e)))
    ∙ ap (λ (n : ℕ). Ok (n, rest)) (sym (value-high b (front ++ last ∷ []) c.0))

refuses_short : (more : ℕ) (bytes : List ℕ) → IsContinued bytes → length bytes ≤ more → varint_within more bytes ≡ Err Truncated
refuses_short more [] c le = within-nil more
refuses_short zero (b ∷ bytes) c le = absurd (omega arith)
refuses_short (suc more) (b ∷ bytes) c le = within-high more b bytes c.0 ∙ ap (above b) (refuses_short more bytes c.1 (omega arith))

refuses_long : (more : ℕ) (front : List ℕ) (tenth : ℕ) (rest : List ℕ) → IsContinued front → length front ≡ more → 2 ≤ tenth → varint_within more (front ++ tenth ∷ rest) ≡ Err VarintTooLong
refuses_long zero [] tenth rest c len le = within-too_long tenth rest le
refuses_long (suc more) [] tenth rest c len le = absurd (omega arith)
refuses_long zero (b ∷ front) tenth rest c len le = absurd (omega arith)
refuses_long (suc more) (b ∷ front) tenth rest c len le = within-high more b (front ++ tenth ∷ rest) c.0 ∙ ap (above b) (refuses_long more front tenth rest c.1 (omega arith) le)

-- ---- what is read stands there

-- an answer above a group came from an answer
above_ok : (b : ℕ) (r : Result (ℕ × List ℕ) WireFault) (y : ℕ × List ℕ) → above b r ≡ Ok y → (x : ℕ × List ℕ) × (r ≡ Ok x) × (y ≡ (b - 128 + 128 * x.0, x.1))
above_ok b (Ok x) y e = (x, refl, cc)
above_ok b (Err f) y e = absurd cc

above_err : (b : ℕ) (r : Result (ℕ × List ℕ) WireFault) (f : WireFault) → above b r ≡ Err f → r ≡ Err f
above_err b (Ok x) f e = absurd cc
above_err b (Err g) f e = cc

abbrev Found : ℕ → List ℕ → ℕ × List ℕ → Type 0
Found more bytes x = (front : List ℕ) × (bytes ≡ front ++ x.1) × IsWithin more front x.0

found_within : (more : ℕ) (bytes : List ℕ) (x : ℕ × List ℕ) → varint_within more bytes ≡ Ok x → Found more bytes x
found_within more [] x e = absurd (let n = within-nil more in cc)
found_within zero (b ∷ bytes) x e =
    elim (cases_lt b 2) [
      | inl lt ↦ let is : x ≡ (b, bytes) = let n = within-tenth b bytes lt in cc in
          rw is (b ∷ [], refl, ([], b, refl, tt, omega arith, omega arith, λ _. omega arith, sym (value-low b (omega arith))))
      | inr le ↦ absurd (let n = within-too_long b bytes le in cc)
    ]
found_within (suc more) (b ∷ bytes) x e =
    elim (cases_lt b 128) [
      | inl lt ↦ let is : x ≡ (b, bytes) = let n = within-low more b bytes lt in cc in
          rw is (b ∷ [], refl, ([], b, refl, tt, lt, omega arith, λ h. absurd (omega arith), sym (value-low b lt)))
      | inr le ↦
          let split = above_ok b (varint_within more bytes) x (sym (within-high more b bytes le) ∙ e) in
          let rest = found_within more bytes split.0 split.1 in
          let item = rest.2 in
          rw split.2 (
            b ∷ rest.0,
            ap (λ (w : List ℕ). b ∷ w) rest.1,
            (
              b ∷ item.0,
              item.1,
              ap (λ (w : List ℕ). b ∷ w) item.2,
              (le, item.3),
              item.4,
              omega (arith, item.5),
              (λ h. item.6 (omega (arith, h))),
              ap (λ (n : ℕ). b - 128 + 128 * n) item.7 ∙ sym (value-high b rest.0 le),
            ),
          )
    ]

refused_within : (more : ℕ) (bytes : List ℕ) (f : WireFault) → varint_within more bytes ≡ Err f → NoneWithin more bytes f
refused_within more [] f e = inl (let n = within-nil more in cc, tt, omega arith)
refused_within zero (b ∷ bytes) f e =
    elim (cases_lt b 2) [
      | inl lt ↦ absurd (let n = within-tenth b bytes lt in cc)
      | inr le ↦ inr (let n = within-too_long b bytes le in cc, ([], b, bytes, refl, tt, refl, le))
    ]
refused_within (suc more) (b ∷ bytes) f e =
    elim (cases_lt b 128) [
      | inl lt ↦ absurd (let n = within-low more b bytes lt in cc)
      | inr le ↦
          elim (refused_within more bytes f (above_err b (varint_within more bytes) f (sym (within-high more b bytes le) ∙ e))) [
            | inl short ↦ inl (short.0, (le, short.1), omega (arith, short.2))
            | inr long ↦ inr (long.0, (b ∷ long.1.0, long.1.1, long.1.2, ap (λ (w : List ℕ). b ∷ w) long.1.3, (le, long.1.4), ap suc long.1.5, long.1.6))
          ]
    ]

shorter_within : (more : ℕ) (bytes : List ℕ) (x : ℕ × List ℕ) → varint_within more bytes ≡ Ok x → length x.1 < length bytes
shorter_within more [] x e = absurd (let n = within-nil more in cc)
shorter_within zero (b ∷ bytes) x e =
    elim (cases_lt b 2) [
      | inl lt ↦ let is : x ≡ (b, bytes) = let n = within-tenth b bytes lt in cc in rw is (omega arith)
      | inr le ↦ absurd (let n = within-too_long b bytes le in cc)
    ]
shorter_within (suc more) (b ∷ bytes) x e =
    elim (cases_lt b 128) [
      | inl lt ↦ let is : x ≡ (b, bytes) = let n = within-low more b bytes lt in cc in rw is (omega arith)
      | inr le ↦
          let split = above_ok b (varint_within more bytes) x (sym (within-high more b bytes le) ∙ e) in
          let less : length split.0.1 < length bytes = shorter_within more bytes split.0 split.1 in
          rw split.2 (omega arith)
    ]

-- ---- ten bytes at most

pub varint_shorter : (bytes : List ℕ) (x : ℕ × List ℕ) → varint_at bytes ≡ Ok x → length x.1 < length bytes
unfolding varint_at
varint_shorter bytes x e = shorter_within 9 bytes x e

pub varint_found : (bytes : List ℕ) (x : ℕ × List ℕ) → varint_at bytes ≡ Ok x → (front : List ℕ) × (bytes ≡ front ++ x.1) × IsVarint front x.0
unfolding varint_at
varint_found bytes x e = found_within 9 bytes x e

pub varint_finds : (front rest : List ℕ) (n : ℕ) → IsVarint front n → varint_at (front ++ rest) ≡ Ok (n, rest)
unfolding varint_at
varint_finds bytes rest n (front, last, parts, continued, low, len, one, value) =
    rw (value, parts) (finds_within 9 front last rest continued low len one)

pub varint_refused : (bytes : List ℕ) (f : WireFault) → varint_at bytes ≡ Err f → NoVarint bytes f
unfolding varint_at
varint_refused bytes f e = refused_within 9 bytes f e

pub varint_refuses : (bytes : List ℕ) (f : WireFault) → NoVarint bytes f → varint_at bytes ≡ Err f
unfolding varint_at
varint_refuses bytes f (inl short) = rw short.0 (refuses_short 9 bytes short.1 short.2)
varint_refuses bytes f (inr (e, (front, tenth, rest, parts, continued, len, le))) = rw (e, parts) (refuses_long 9 front tenth rest continued len le)

pub varint_takes : TakesBytes varint_at
varint_takes = record { shorter = varint_shorter }

pub varint_reader : IsReader IsVarint NoVarint varint_at
varint_reader = record { takes = varint_takes; found = varint_found; finds = varint_finds; refused = varint_refused; refuses = varint_refuses }

-- ---- a longer spelling

value-continued : (front : List ℕ) (last : ℕ) → last < 128 → value_of (front ++ (last + 128) ∷ 0 ∷ []) ≡ value_of (front ++ last ∷ [])
value-continued [] last lt =
    value-high (last + 128) (0 ∷ []) (omega arith) ∙ (let e : last + 128 - 128 + 128 * value_of (0 ∷ []) ≡ last = omega arith in e) ∙ sym (value-low last lt)
value-continued (b ∷ front) last lt = ap (λ (n : ℕ). cond (ltb b 128) b (b - 128) + 128 * n) (value-continued front last lt)

continued_more : (front : List ℕ) (b : ℕ) → IsContinued front → 128 ≤ b → IsContinued (front ++ b ∷ [])
continued_more [] b c le = (le, tt)
continued_more (a ∷ front) b c le = (c.0, continued_more front b c.1 le)

-- the same front and last byte, since both end the list
same_ends : (front other : List ℕ) (last end : ℕ) → front ++ last ∷ [] ≡ other ++ end ∷ [] → (front ≡ other) × (last ≡ end)
same_ends [] [] last end e = (refl, cc)
same_ends [] (b ∷ other) last end e = absurd (nil_end other end cc)
  where
    nil_end : (xs : List ℕ) (x : ℕ) → [] ≡ xs ++ x ∷ [] → ⊥
    nil_end [] x h = cc
    nil_end (y ∷ ys) x h = cc
same_ends (a ∷ front) [] last end e = absurd (nil_end front last cc)
  where
    nil_end : (xs : List ℕ) (x : ℕ) → xs ++ x ∷ [] ≡ [] → ⊥
    nil_end [] x h = cc
    nil_end (y ∷ ys) x h = cc
same_ends (a ∷ front) (b ∷ other) last end e =
    let rest = same_ends front other last end cc in
    (let head : a ≡ b = cc in let tail = rest.0 in cc, rest.1)

pub one_more_byte : (front : List ℕ) (last n : ℕ) → IsVarint (front ++ last ∷ []) n → length front ≤ 8 → IsVarint (front ++ (last + 128) ∷ 0 ∷ []) n
one_more_byte front last n (other, end, parts, continued, low, len, one, value) short =
    let ends = same_ends front other last end parts in
    let lt : last < 128 = rw ends.1 low in (
      front ++ (last + 128) ∷ [],
      0,
      sym (append_assoc front ((last + 128) ∷ []) (0 ∷ [])),
      continued_more front (last + 128) (rw ends.0 continued) (omega arith),
      omega arith,
      omega (arith, length-append front ((last + 128) ∷ [])),
      (λ _. omega arith),
      value ∙ sym (value-continued front last lt),
    )
