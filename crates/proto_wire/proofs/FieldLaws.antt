-- A field, and a message behind its length, are read exactly where one stands.
use Rattle.std.proofs.Common.{◌≡◌, ℕ, zero, suc, ◌+◌, ◌-◌, ◌*◌, ◌/◌, ◌%◌, ◌^◌, ◌<◌, ◌≤◌, ◌⊎◌, inl, inr, Bool, true, false, cond, eqb, ltb, List, ◌++◌, length, take, drop, Option, Some, None, Result, Ok, Err, refl, sym, ap, subst, ◌∙◌, append_assoc, arith}
use Rattle.std.proofs.lemmas.Bool.{lt-ltb, le-ltb, cases_lt}
use Rattle.std.proofs.lemmas.List.{length-append, length-take, length-drop, take_at, drop_at, take-append-drop}
use Rattle.proto_wire.specs.declared.fault.WireFault.{WireFault}
use Rattle.proto_wire.specs.declared.fault.WireFault.TheVariants.{Truncated, GroupWireType, BadWireType, BadFieldNumber}
use Rattle.proto_wire.specs.declared.fault.FrameFault.{FrameFault}
use Rattle.list_laws.specs.Outcome.{◌>>=◌}
use Rattle.proto_wire.specs.Varint.{IsVarint, NoVarint, varint_at}
use Rattle.proto_wire.specs.Field.{WireValue, Varint, Eight, Bytes, Four, WireField, wire_type, IsPayload, IsFieldNumber, IsField, NoPayload, NoFieldBehind, NoField, bytes_at, sized_at, number_at, payload_at, field_with, field_behind, field_at}
use Rattle.proto_wire.specs.Frame.{IsFrame, NoFrame, located, frame_at}
use Rattle.proto_wire.proofs.ReadingLaws.{TakesBytes, IsReader}
use Rattle.proto_wire.proofs.VarintLaws.{varint_shorter, varint_found, varint_finds, varint_refused, varint_refuses}

-- ---- steps

-- the value of two steps that did not fail
pub bind_ok : {A B F : Type 0} (r : Result A F) (f : A → Result B F) (y : B) → (r >>= f) ≡ Ok y → (x : A) × (r ≡ Ok x) × (f x ≡ Ok y)
bind_ok (Ok x) f y e = (x, refl, e)
bind_ok (Err d) f y e = absurd cc

-- which of two steps failed
pub bind_err : {A B F : Type 0} (r : Result A F) (f : A → Result B F) (d : F) → (r >>= f) ≡ Err d → (r ≡ Err d) ⊎ ((x : A) × (r ≡ Ok x) × (f x ≡ Err d))
bind_err (Ok x) f d e = inr (x, refl, e)
bind_err (Err c) f d e = inl cc

-- ---- a number of bytes

bytes_found : (n : ℕ) (bytes : List ℕ) (x : List ℕ × List ℕ) → bytes_at n bytes ≡ Ok x → (bytes ≡ x.0 ++ x.1) × (length x.0 ≡ n) × (length x.1 ≤ length bytes)
bytes_found n bytes x e =
    elim (cases_lt (length bytes) n) [
      | inl lt ↦ absurd (let t : ltb (length bytes) n ≡ true = lt-ltb _ _ lt in let none = rw t at e in cc)
      | inr le ↦ let t : ltb (length bytes) n ≡ false = le-ltb _ _ le in
          let ok = rw t at e in
          let is : x ≡ (take n bytes, drop n bytes) = cc in
          rw is (sym (take-append-drop n bytes), omega (arith, length-take n bytes), omega (arith, length-drop n bytes))
    ]

bytes_finds : (b rest : List ℕ) (n : ℕ) → length b ≡ n → bytes_at n (b ++ rest) ≡ Ok (b, rest)
bytes_finds b rest n e =
    let t : ltb (length (b ++ rest)) n ≡ false = le-ltb _ _ (omega (arith, length-append b rest)) in
    rw (t, take_at b rest n e, drop_at b rest n e) refl

bytes_refused : (n : ℕ) (bytes : List ℕ) (f : WireFault) → bytes_at n bytes ≡ Err f → (f ≡ Truncated) × (length bytes < n)
bytes_refused n bytes f e =
    elim (cases_lt (length bytes) n) [
      | inl lt ↦ let t : ltb (length bytes) n ≡ true = lt-ltb _ _ lt in let none = rw t at e in (cc, lt)
      | inr le ↦ absurd (let t : ltb (length bytes) n ≡ false = le-ltb _ _ le in let ok = rw t at e in cc)
    ]

bytes_refuses : (n : ℕ) (bytes : List ℕ) → length bytes < n → bytes_at n bytes ≡ Err Truncated
bytes_refuses n bytes lt = let t : ltb (length bytes) n ≡ true = lt-ltb _ _ lt in rw t refl

-- ---- bytes behind their length

abbrev Short : List ℕ → Type 0
Short bytes = (size : List ℕ) × (rest : List ℕ) × (n : ℕ) × (bytes ≡ size ++ rest) × IsVarint size n × (length rest < n)

pub sized_found : (bytes : List ℕ) (x : List ℕ × List ℕ) → sized_at bytes ≡ Ok x → (size : List ℕ) × (bytes ≡ (size ++ x.0) ++ x.1) × IsVarint size (length x.0) × (length x.1 < length bytes)
unfolding sized_at
sized_found bytes x e =
    let b = bind_ok (varint_at bytes) (λ size. bytes_at size.0 size.1) x e in
    let v = varint_found bytes b.0 b.1 in
    let less : length b.0.1 < length bytes = varint_shorter bytes b.0 b.1 in
    let t = bytes_found b.0.0 b.0.1 x b.2 in
    (v.0, v.1 ∙ ap (λ (w : List ℕ). v.0 ++ w) t.0 ∙ sym (append_assoc v.0 x.0 x.1), rw t.1 v.2, omega (arith, t.2))

pub sized_finds : (size b rest : List ℕ) → IsVarint size (length b) → sized_at ((size ++ b) ++ rest) ≡ Ok (b, rest)
unfolding sized_at
sized_finds size b rest v =
    let one : varint_at (size ++ (b ++ rest)) ≡ Ok (length b, b ++ rest) = varint_finds size (b ++ rest) (length b) v in
    rw (append_assoc size b rest, one) (bytes_finds b rest (length b) refl)

pub sized_refused : (bytes : List ℕ) (f : WireFault) → sized_at bytes ≡ Err f → NoVarint bytes f ⊎ ((f ≡ Truncated) × Short bytes)
unfolding sized_at
sized_refused bytes f e =
    elim (bind_err (varint_at bytes) (λ size. bytes_at size.0 size.1) f e) [
      | inl none ↦ inl (varint_refused bytes f none)
      | inr b ↦
          let v = varint_found bytes b.0 b.1 in
          let t = bytes_refused b.0.0 b.0.1 f b.2 in
          inr (t.0, (v.0, b.0.1, b.0.0, v.1, v.2, t.1))
    ]

pub sized_refuses : (bytes : List ℕ) (f : WireFault) → NoVarint bytes f ⊎ ((f ≡ Truncated) × Short bytes) → sized_at bytes ≡ Err f
unfolding sized_at
sized_refuses bytes f (inl none) = rw (varint_refuses bytes f none) refl
sized_refuses bytes f (inr (e, (size, rest, n, parts, v, lt))) =
    rw (e, parts, varint_finds size rest n v) (bytes_refuses n rest lt)

-- ---- messages

located_ok : (place : ℕ) (r : Result (List ℕ × List ℕ) WireFault) (x : List ℕ × List ℕ) → located place r ≡ Ok x → r ≡ Ok x
located_ok place (Ok y) x e = cc
located_ok place (Err c) x e = absurd cc

located_err : (place : ℕ) (r : Result (List ℕ × List ℕ) WireFault) (f : FrameFault) → located place r ≡ Err f → (f.place ≡ place) × (r ≡ Err f.cause)
located_err place (Ok y) f e = absurd cc
located_err place (Err c) f e = let is : record { place = place; cause = c } ≡ f = cc in (ap (λ (g : FrameFault). g.place) (sym is), ap (λ (g : FrameFault). Err g.cause) is)

frame_takes : (total : ℕ) → TakesBytes (frame_at total)
unfolding frame_at
frame_takes total = record { shorter = λ bytes x e. (sized_found bytes x (located_ok (total - length bytes) (sized_at bytes) x e)).3 }

frame_found : (total : ℕ) (bytes : List ℕ) (x : List ℕ × List ℕ) → frame_at total bytes ≡ Ok x → (front : List ℕ) × (bytes ≡ front ++ x.1) × IsFrame front x.0
unfolding frame_at
frame_found total bytes x e =
    let s = sized_found bytes x (located_ok (total - length bytes) (sized_at bytes) x e) in
    (s.0 ++ x.0, s.1, (s.0, s.2, refl))

frame_finds : (total : ℕ) (front rest : List ℕ) (x : List ℕ) → IsFrame front x → frame_at total (front ++ rest) ≡ Ok (x, rest)
unfolding frame_at
frame_finds total front rest x (size, v, parts) = rw (parts, sized_finds size x rest v) refl

frame_refused : (total : ℕ) (bytes : List ℕ) (f : FrameFault) → frame_at total bytes ≡ Err f → NoFrame total bytes f
unfolding frame_at
frame_refused total bytes f e =
    let l = located_err (total - length bytes) (sized_at bytes) f e in
    (l.0, sized_refused bytes f.cause l.1)

frame_refuses : (total : ℕ) (bytes : List ℕ) (f : FrameFault) → NoFrame total bytes f → frame_at total bytes ≡ Err f
unfolding frame_at
frame_refuses total bytes f (place, why) = rw (sized_refuses bytes f.cause why, ← place) refl

pub frame_reader : (total : ℕ) → IsReader IsFrame (NoFrame total) (frame_at total)
frame_reader total = record { takes = frame_takes total; found = frame_found total; finds = frame_finds total; refused = frame_refused total; refuses = frame_refuses total }

-- ---- a field's number and payload

number_is : (n : ℕ) → IsFieldNumber n → number_at n ≡ Ok n
number_is n (low, high) =
    let above : ltb n 1 ≡ false = le-ltb _ _ low in
    let below : ltb n (2 ^ 29) ≡ true = lt-ltb _ _ high in
    rw (above, below) refl

number_no : (n : ℕ) → ¬ IsFieldNumber n → number_at n ≡ Err BadFieldNumber
number_no n not_one =
    elim (cases_lt n 1) [
      | inl lt ↦ let t : ltb n 1 ≡ true = lt-ltb _ _ lt in rw t refl
      | inr le ↦ let t : ltb n 1 ≡ false = le-ltb _ _ le in
          elim (cases_lt n (2 ^ 29)) [
            | inl lt ↦ absurd (not_one (le, lt))
            | inr above ↦ let u : ltb n (2 ^ 29) ≡ false = le-ltb _ _ above in rw (t, u) refl
          ]
    ]

-- a number is one of a field, or it isn't
number_cases : (n : ℕ) → IsFieldNumber n ⊎ (¬ IsFieldNumber n)
number_cases n =
    elim (cases_lt n 1) [
      | inl lt ↦ inr (λ h. omega (arith, h.0))
      | inr le ↦ elim (cases_lt n (2 ^ 29)) [ inl lt ↦ inl (le, lt) | inr above ↦ inr (λ h. omega (arith, h.1)) ]
    ]

-- what holds of each number below eight
below_eight : (P : ℕ → Type 0) → P 0 → P 1 → P 2 → P 3 → P 4 → P 5 → P 6 → P 7 → (k : ℕ) → k < 8 → P k
below_eight P a b c d e f g h zero lt = a
below_eight P a b c d e f g h (suc zero) lt = b
below_eight P a b c d e f g h (suc (suc zero)) lt = c
below_eight P a b c d e f g h (suc (suc (suc zero))) lt = d
below_eight P a b c d e f g h (suc (suc (suc (suc zero)))) lt = e
below_eight P a b c d e f g h (suc (suc (suc (suc (suc zero))))) lt = f
below_eight P a b c d e f g h (suc (suc (suc (suc (suc (suc zero)))))) lt = g
below_eight P a b c d e f g h (suc (suc (suc (suc (suc (suc (suc zero))))))) lt = h
below_eight P a b c d e f g h (suc (suc (suc (suc (suc (suc (suc (suc k)))))))) lt = absurd (omega arith)

abbrev PayloadRead : Type 0
PayloadRead = Result (Option WireValue × List ℕ) WireFault

-- a payload that was read, of a wire type
abbrev Holds : ℕ → List ℕ → Option WireValue → List ℕ → Type 0
Holds kind body (Some v) rest = (front : List ℕ) × (body ≡ front ++ rest) × IsPayload front v × (kind ≡ wire_type v)
Holds kind body None rest = (body ≡ rest) × ((kind ≡ 3) ⊎ (kind ≡ 4) ⊎ (kind ≡ 6) ⊎ (kind ≡ 7))

payload_ok : (body : List ℕ) (kind : ℕ) → kind < 8 → (x : Option WireValue × List ℕ) → payload_at kind body ≡ Ok x → Holds kind body x.0 x.1
unfolding payload_at
payload_ok body kind lt =
    below_eight (λ k. (x : Option WireValue × List ℕ) → payload_at k body ≡ Ok x → Holds k body x.0 x.1)
    (λ x e. let b = bind_ok (varint_at body) (λ v. Ok (Some (Varint v.0), v.1)) x e in
    let is : x ≡ (Some (Varint b.0.0), b.0.1) = cc in
    let v = varint_found body b.0 b.1 in
    rw is (v.0, v.1, v.2, refl))
    (λ x e. let b = bind_ok (bytes_at 8 body) (λ v. Ok (Some (Eight v.0), v.1)) x e in
    let is : x ≡ (Some (Eight b.0.0), b.0.1) = cc in
    let v = bytes_found 8 body b.0 b.1 in
    rw is (b.0.0, v.0, (refl, v.1), refl))
    (λ x e. let b = bind_ok (sized_at body) (λ v. Ok (Some (Bytes v.0), v.1)) x e in
    let is : x ≡ (Some (Bytes b.0.0), b.0.1) = cc in
    let v = sized_found body b.0 b.1 in
    rw is (v.0 ++ b.0.0, v.1, (v.0, v.2, refl), refl))
    (λ x e. let is : x ≡ (None, body) = cc in rw is (refl, inl refl))
    (λ x e. let is : x ≡ (None, body) = cc in rw is (refl, inr (inl refl)))
    (λ x e. let b = bind_ok (bytes_at 4 body) (λ v. Ok (Some (Four v.0), v.1)) x e in
    let is : x ≡ (Some (Four b.0.0), b.0.1) = cc in
    let v = bytes_found 4 body b.0 b.1 in
    rw is (b.0.0, v.0, (refl, v.1), refl))
    (λ x e. let is : x ≡ (None, body) = cc in rw is (refl, inr (inr (inl refl))))
    (λ x e. let is : x ≡ (None, body) = cc in rw is (refl, inr (inr (inr refl))))
    kind lt

-- the fault of a step whose second half can't fail
first_err : {A B F : Type 0} (r : Result A F) (f : A → B) (d : F) → (r >>= λ x. Ok (f x)) ≡ Err d → r ≡ Err d
first_err (Ok x) f d e = absurd cc
first_err (Err c) f d e = cc

payload_err : (body : List ℕ) (f : WireFault) (kind : ℕ) → kind < 8 → payload_at kind body ≡ Err f → NoPayload kind body f
unfolding payload_at
payload_err body f kind lt =
    below_eight (λ k. payload_at k body ≡ Err f → NoPayload k body f)
    (λ e. inl (refl, varint_refused body f (first_err (varint_at body) (λ v. (Some (Varint v.0), v.1)) f e)))
    (λ e. let b = bytes_refused 8 body f (first_err (bytes_at 8 body) (λ v. (Some (Eight v.0), v.1)) f e) in inr (inl (refl, b.0, b.1)))
    (λ e. elim (sized_refused body f (first_err (sized_at body) (λ v. (Some (Bytes v.0), v.1)) f e)) [
      | inl none ↦ inr (inr (inl (refl, none)))
      | inr short ↦ inr (inr (inr (inl (refl, short.0, short.1))))
    ])
    (λ e. absurd cc)
    (λ e. absurd cc)
    (λ e. let b = bytes_refused 4 body f (first_err (bytes_at 4 body) (λ v. (Some (Four v.0), v.1)) f e) in inr (inr (inr (inr (refl, b.0, b.1)))))
    (λ e. absurd cc)
    (λ e. absurd cc)
    kind lt

payload_refuses : (body : List ℕ) (f : WireFault) (kind : ℕ) → NoPayload kind body f → payload_at kind body ≡ Err f
unfolding payload_at
payload_refuses body f kind (inl (is, none)) = rw (is, varint_refuses body f none) refl
payload_refuses body f kind (inr (inl (is, e, lt))) = rw (is, e, bytes_refuses 8 body lt) refl
payload_refuses body f kind (inr (inr (inl (is, none)))) = rw (is, sized_refuses body f (inl none)) refl
payload_refuses body f kind (inr (inr (inr (inl (is, e, short))))) = rw (is, sized_refuses body f (inr (e, short))) refl
payload_refuses body f kind (inr (inr (inr (inr (is, e, lt))))) = rw (is, e, bytes_refuses 4 body lt) refl

payload_finds : (front rest : List ℕ) (v : WireValue) → IsPayload front v → payload_at (wire_type v) (front ++ rest) ≡ Ok (Some v, rest)
unfolding payload_at
payload_finds front rest (Varint n) h = rw (varint_finds front rest n h) refl
payload_finds front rest (Eight b) (is, len) = rw (is, bytes_finds b rest 8 len) refl
payload_finds front rest (Bytes b) (size, v, parts) = rw (parts, sized_finds size b rest v) refl
payload_finds front rest (Four b) (is, len) = rw (is, bytes_finds b rest 4 len) refl

payload_none : (body : List ℕ) (kind : ℕ) → ((kind ≡ 3) ⊎ (kind ≡ 4) ⊎ (kind ≡ 6) ⊎ (kind ≡ 7)) → payload_at kind body ≡ Ok (None, body)
unfolding payload_at
payload_none body kind (inl is) = rw is refl
payload_none body kind (inr (inl is)) = rw is refl
payload_none body kind (inr (inr (inl is))) = rw is refl
payload_none body kind (inr (inr (inr is))) = rw is refl

-- ---- fields

number_ok : (n m : ℕ) → number_at n ≡ Ok m → (m ≡ n) × IsFieldNumber n
number_ok n m e =
    elim (number_cases n) [
      | inl fits ↦ let is = number_is n fits in (cc, fits)
      | inr not_one ↦ absurd (let is = number_no n not_one in cc)
    ]

number_err : (n : ℕ) (f : WireFault) → number_at n ≡ Err f → (f ≡ BadFieldNumber) × (¬ IsFieldNumber n)
number_err n f e =
    elim (number_cases n) [
      | inl fits ↦ absurd (let is = number_is n fits in cc)
      | inr not_one ↦ let is = number_no n not_one in (cc, not_one)
    ]

-- the fault of a wire type that has no payload
kind_fault : ℕ → WireFault
kind_fault kind = cond (eqb kind 3) GroupWireType (cond (eqb kind 4) GroupWireType BadWireType)

with_none : (n kind : ℕ) (rest : List ℕ) → field_with n kind None rest ≡ Err (kind_fault kind)
unfolding kind_fault
with_none n kind rest = by_test (eqb kind 3) (eqb kind 4)
  where
    by_test : (a b : Bool) → (let r : Result (WireField × List ℕ) WireFault = cond a (Err GroupWireType) (cond b (Err GroupWireType) (Err BadWireType)) in r ≡ Err (cond a GroupWireType (cond b GroupWireType BadWireType)))
    by_test true b = refl
    by_test false true = refl
    by_test false false = refl

tag_parts : (n k : ℕ) → k < 8 → ((n * 8 + k) / 8 ≡ n) × ((n * 8 + k) % 8 ≡ k)
tag_parts n k lt = (omega arith, omega arith)

tag_whole : (t : ℕ) → t ≡ t / 8 * 8 + t % 8
tag_whole t = omega arith

wire_type_lt : (v : WireValue) → wire_type v < 8
wire_type_lt (Varint n) = omega arith
wire_type_lt (Eight b) = omega arith
wire_type_lt (Bytes b) = omega arith
wire_type_lt (Four b) = omega arith

-- what was read behind a tag: a payload, and a number of a field
behind_ok : (number kind : ℕ) (body : List ℕ) (x : WireField × List ℕ) → kind < 8 → field_behind number kind body ≡ Ok x
    → (front : List ℕ) × (v : WireValue) × (body ≡ front ++ x.1) × IsPayload front v × (kind ≡ wire_type v) × (x.0 ≡ record { number = number; value = v }) × IsFieldNumber number
unfolding field_behind
behind_ok number kind body x lt e =
    let a = bind_ok (payload_at kind body) (λ v. number_at number >>= λ n. field_with n kind v.0 v.1) x e in
    let b = bind_ok (number_at number) (λ n. field_with n kind a.0.0 a.0.1) x a.2 in
    let fits = number_ok number b.0 b.1 in
    let held = payload_ok body kind lt a.0 a.1 in
    go a.0.0 a.0.1 held b.0 fits.0 fits.1 b.2
  where
    go : (o : Option WireValue) (rest : List ℕ) → Holds kind body o rest → (n : ℕ) → n ≡ number → IsFieldNumber number → field_with n kind o rest ≡ Ok x
        → (front : List ℕ) × (v : WireValue) × (body ≡ front ++ x.1) × IsPayload front v × (kind ≡ wire_type v) × (x.0 ≡ record { number = number; value = v }) × IsFieldNumber number
    go (Some v) rest (front, parts, payload, is) n same fits done =
        let it : x ≡ (record { number = n; value = v }, rest) = cc in
        (front, v, parts ∙ ap (λ (y : WireField × List ℕ). front ++ y.1) (sym it), payload, is, ap (λ (y : WireField × List ℕ). y.0) it ∙ ap (λ (m : ℕ). record { number = m; value = v }) same, fits)
    go None rest held n same fits done = absurd (let none = with_none n kind rest in cc)

field_found : (bytes : List ℕ) (x : WireField × List ℕ) → field_at bytes ≡ Ok x → (front : List ℕ) × (bytes ≡ front ++ x.1) × IsField front x.0
unfolding field_at
field_found bytes x e =
    let a = bind_ok (varint_at bytes) (λ tag. field_behind (tag.0 / 8) (tag.0 % 8) tag.1) x e in
    let t = varint_found bytes a.0 a.1 in
    let b = behind_ok (a.0.0 / 8) (a.0.0 % 8) a.0.1 x (omega arith) a.2 in
    let body = b.0 in
    let v = b.1 in
    let tag_is : a.0.0 ≡ a.0.0 / 8 * 8 + wire_type v = tag_whole a.0.0 ∙ ap (λ (k : ℕ). a.0.0 / 8 * 8 + k) b.4 in
    let whole : bytes ≡ (t.0 ++ body) ++ x.1 = t.1 ∙ ap (λ (w : List ℕ). t.0 ++ w) b.2 ∙ sym (append_assoc t.0 body x.1) in
    let made : WireField = record { number = a.0.0 / 8; value = v } in
    let item : IsField (t.0 ++ body) made = (t.0, body, refl, b.6, subst (λ (n : ℕ). IsVarint t.0 n) tag_is t.2, b.3) in
    (t.0 ++ body, whole, subst (λ (f : WireField). IsField (t.0 ++ body) f) (sym b.5) item)

field_finds : (front rest : List ℕ) (x : WireField) → IsField front x → field_at (front ++ rest) ≡ Ok (x, rest)
unfolding field_at field_behind
field_finds front rest x (tag, body, parts, fits, t, payload) =
    let kind = wire_type x.value in
    let split = tag_parts x.number kind (wire_type_lt x.value) in
    let one : varint_at (tag ++ (body ++ rest)) ≡ Ok (x.number * 8 + kind, body ++ rest) = varint_finds tag (body ++ rest) (x.number * 8 + kind) t in
    let two : payload_at kind (body ++ rest) ≡ Ok (Some x.value, rest) = payload_finds body rest x.value payload in
    let three : number_at x.number ≡ Ok x.number = number_is x.number fits in
    rw (parts, append_assoc tag body rest, one, split.0, split.1, two, three) refl

-- a payload that was read was not refused
not_both : (body : List ℕ) (kind : ℕ) (x : Option WireValue × List ℕ) → payload_at kind body ≡ Ok x → (other : WireFault) → ¬ NoPayload kind body other
not_both body kind x e other why = let refused = payload_refuses body other kind why in absurd cc

behind_err : (number kind : ℕ) (body : List ℕ) (f : WireFault) → kind < 8 → field_behind number kind body ≡ Err f → NoFieldBehind number kind body f
unfolding field_behind
behind_err number kind body f lt e =
    elim (bind_err (payload_at kind body) (λ v. number_at number >>= λ n. field_with n kind v.0 v.1) f e) [
      | inl cut ↦ inl (payload_err body f kind lt cut)
      | inr a ↦ elim (bind_err (number_at number) (λ n. field_with n kind a.0.0 a.0.1) f a.2) [
        | inl out ↦ let n = number_err number f out in inr (inl (not_both body kind a.0 a.1, n.0, n.1))
        | inr b ↦ inr (inr (go a.0.0 a.0.1 (payload_ok body kind lt a.0 a.1) b.0 (number_ok number b.0 b.1).1 b.2))
      ]
    ]
  where
    go : (o : Option WireValue) (rest : List ℕ) → Holds kind body o rest → (n : ℕ) → IsFieldNumber number → field_with n kind o rest ≡ Err f
        → (IsFieldNumber number × (f ≡ GroupWireType) × ((kind ≡ 3) ⊎ (kind ≡ 4))) ⊎ (IsFieldNumber number × (f ≡ BadWireType) × ((kind ≡ 6) ⊎ (kind ≡ 7)))
    go (Some v) rest held n fits failed = absurd cc
    go None rest (same, inl is) n fits failed = inl (fits, (let three : field_with n 3 None rest ≡ Err GroupWireType = refl in let at = rw is at failed in cc), inl is)
    go None rest (same, inr (inl is)) n fits failed = inl (fits, (let at = rw is at failed in cc), inr is)
    go None rest (same, inr (inr (inl is))) n fits failed = inr (fits, (let at = rw is at failed in cc), inl is)
    go None rest (same, inr (inr (inr is))) n fits failed = inr (fits, (let at = rw is at failed in cc), inr is)

field_refused : (bytes : List ℕ) (f : WireFault) → field_at bytes ≡ Err f → NoField bytes f
unfolding field_at
field_refused bytes f e =
    elim (bind_err (varint_at bytes) (λ tag. field_behind (tag.0 / 8) (tag.0 % 8) tag.1) f e) [
      | inl none ↦ inl (varint_refused bytes f none)
      | inr a ↦ let t = varint_found bytes a.0 a.1 in
          inr (t.0, a.0.1, a.0.0, t.1, t.2, behind_err (a.0.0 / 8) (a.0.0 % 8) a.0.1 f (omega arith) a.2)
    ]

-- a payload of a wire type below eight is read or refused
payload_answer : (body : List ℕ) (kind : ℕ) (r : PayloadRead) → payload_at kind body ≡ r → ((other : WireFault) → ¬ NoPayload kind body other) → kind < 8 → (x : Option WireValue × List ℕ) × (payload_at kind body ≡ Ok x)
payload_answer body kind (Ok x) e whole lt = (x, e)
payload_answer body kind (Err f) e whole lt = absurd (whole f (payload_err body f kind lt e))

behind_refuses : (number kind : ℕ) (body : List ℕ) (f : WireFault) → kind < 8 → NoFieldBehind number kind body f → field_behind number kind body ≡ Err f
unfolding field_behind
behind_refuses number kind body f lt (inl cut) = rw (payload_refuses body f kind cut) refl
behind_refuses number kind body f lt (inr (inl (whole, is, out))) =
    let read = payload_answer body kind (payload_at kind body) refl whole lt in
    rw (read.1, is, number_no number out) refl
behind_refuses number kind body f lt (inr (inr (inl (fits, is, inl three)))) = rw (payload_none body kind (inl three), number_is number fits, is, three) refl
behind_refuses number kind body f lt (inr (inr (inl (fits, is, inr four)))) = rw (payload_none body kind (inr (inl four)), number_is number fits, is, four) refl
behind_refuses number kind body f lt (inr (inr (inr (fits, is, inl six)))) = rw (payload_none body kind (inr (inr (inl six))), number_is number fits, is, six) refl
behind_refuses number kind body f lt (inr (inr (inr (fits, is, inr seven)))) = rw (payload_none body kind (inr (inr (inr seven))), number_is number fits, is, seven) refl

field_refuses : (bytes : List ℕ) (f : WireFault) → NoField bytes f → field_at bytes ≡ Err f
unfolding field_at
field_refuses bytes f (inl none) = rw (varint_refuses bytes f none) refl
field_refuses bytes f (inr (tag, body, n, parts, t, why)) =
    rw (parts, varint_finds tag body n t) (behind_refuses (n / 8) (n % 8) body f (omega arith) why)

-- what is read behind a tag is no longer than the body
append_shorter : (front rest body : List ℕ) → body ≡ front ++ rest → length rest ≤ length body
append_shorter front rest body e = rw e (omega (arith, length-append front rest))

field_shorter : (bytes : List ℕ) (x : WireField × List ℕ) → field_at bytes ≡ Ok x → length x.1 < length bytes
unfolding field_at
field_shorter bytes x e =
    let a = bind_ok (varint_at bytes) (λ tag. field_behind (tag.0 / 8) (tag.0 % 8) tag.1) x e in
    let less : length a.0.1 < length bytes = varint_shorter bytes a.0 a.1 in
    let b = behind_ok (a.0.0 / 8) (a.0.0 % 8) a.0.1 x (omega arith) a.2 in
    let le : length x.1 ≤ length a.0.1 = append_shorter b.0 x.1 a.0.1 b.2 in
    omega arith

pub field_takes : TakesBytes field_at
field_takes = record { shorter = field_shorter }

pub field_reader : IsReader IsField NoField field_at
field_reader = record { takes = field_takes; found = field_found; finds = field_finds; refused = field_refused; refuses = field_refuses }
