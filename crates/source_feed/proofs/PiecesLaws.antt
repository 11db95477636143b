-- Where whole messages end, and what one piece more makes of them.
use Rattle.std.proofs.Common.{◌≡◌, ℕ, zero, suc, ◌+◌, ◌-◌, ◌^◌, ◌<◌, ◌≤◌, Bool, true, false, not, cond, nat_lt, List, [], ◌∷◌, ◌++◌, length, length-append, take, drop, Option, Some, None, Ok, Err, refl, sym, ap, subst, ◌∙◌, arith}
use Rattle.std.specs.Option.{option_map}
use Rattle.std.proofs.lemmas.Bool.{lt-ltb, ltb-true}
use Rattle.std.proofs.lemmas.List.{length-drop}
use Rattle.list_laws.proofs.Fronts.{take-own}
use Rattle.list_laws.specs.Outcome.{◌>>=◌, unless, refused_if, Refuses}
use Rattle.proto_wire.specs.declared.fault.FrameFault.{FrameFault}
use Rattle.proto_wire.specs.Frame.{frames_of}
use Rattle.source_feed.proofs.FrameLaws.{frames_end, front_whole, front_none, front_at, longest_front, read_behind, frames_none, moved}
use Rattle.source_feed.specs.declared.fault.FeedFault.{FeedFault}
use Rattle.source_feed.specs.declared.fault.FeedFault.TheVariants.{FeedTooLong, Frame}
use Rattle.source_feed.specs.FaultNumber.{meant_of}
use Rattle.source_feed.specs.Pieces.{IsLongestWhole, IsWholeFront, is_no_length, broken_by, messages_in, WholeByBytes}

-- ---- lists

take-all : {A : Type 0} (n : ℕ) (xs : List A) → n ≡ length xs → take n xs ≡ xs
take-all zero [] e = refl
take-all (suc n) [] e = refl
take-all zero (x ∷ xs) e = absurd (omega arith)
take-all {A} (suc n) (x ∷ xs) e = ap (λ (ys : List A). x ∷ ys) (take-all n xs (omega arith))

take-append : {A : Type 0} (n : ℕ) (xs ys : List A) → n ≤ length xs → take n (xs ++ ys) ≡ take n xs
take-append zero xs ys le = refl
take-append (suc n) [] ys le = absurd (omega arith)
take-append {A} (suc n) (x ∷ xs) ys le = ap (λ (zs : List A). x ∷ zs) (take-append n xs ys (omega arith))

take-past : {A : Type 0} (xs ys : List A) (n m : ℕ) → m ≡ length xs + n → take m (xs ++ ys) ≡ xs ++ take n ys
take-past [] ys n m e = let same : m ≡ n = omega (arith, e) in ap (λ (k : ℕ). take k ys) same
take-past (x ∷ xs) ys n zero e = absurd (omega (arith, e))
take-past {A} (x ∷ xs) ys n (suc m) e = ap (λ (zs : List A). x ∷ zs) (take-past xs ys n m (omega (arith, e)))

take-drop : {A : Type 0} (n : ℕ) (xs : List A) → xs ≡ take n xs ++ drop n xs
take-drop zero xs = refl
take-drop (suc n) [] = refl
take-drop {A} (suc n) (x ∷ xs) = ap (λ (ys : List A). x ∷ ys) (take-drop n xs)

long-take : {A : Type 0} (n : ℕ) (xs : List A) → n ≤ length xs → length (take n xs) ≡ n
long-take zero xs le = refl
long-take (suc n) [] le = absurd (omega arith)
long-take (suc n) (x ∷ xs) le = ap suc (long-take n xs (omega arith))

-- ---- the longest beginning

pub longest_is : (bytes : List ℕ) → IsLongestWhole bytes (frames_end bytes).front
longest_is bytes = record { rest = (frames_end bytes).rest; parts = (frames_end bytes).parts; messages = ap (λ r. r.fault) (front_whole bytes); longest = longest_front bytes }

pub one_longest : (bytes one other : List ℕ) → IsLongestWhole bytes one → IsLongestWhole bytes other → one ≡ other
one_longest bytes one other a b =
    let le : length other ≤ length one = a.longest other b.rest b.parts b.messages in
    let ge : length one ≤ length other = b.longest one a.rest a.parts a.messages in
    let as_long : length one ≡ length other = omega (arith, le, ge) in
    sym (take-own one a.rest) ∙ ap (take (length one)) (sym a.parts ∙ b.parts) ∙ ap (λ (n : ℕ). take n (other ++ b.rest)) as_long ∙ take-own other b.rest

-- ---- where it ends

front_here : (bytes : List ℕ) (end : ℕ) → end ≤ length bytes → take end bytes ≡ (frames_end bytes).front → IsWholeFront bytes end
front_here bytes end le e = record { within = le; longest = subst (IsLongestWhole bytes) (sym e) (longest_is bytes) }

pub front_all : (bytes : List ℕ) (end : ℕ) → (frames_of bytes).fault ≡ None → end ≡ length bytes → IsWholeFront bytes end
front_all bytes end e at = front_here bytes end (omega (arith, at)) (take-all end bytes at ∙ sym (front_none bytes e))

pub front_place : (bytes : List ℕ) (f : FrameFault) → (frames_of bytes).fault ≡ Some f → IsWholeFront bytes f.place
front_place bytes f e = let at = front_at bytes f e in front_here bytes f.place at.0 at.1

-- where the other's first whole messages end
pub front_is : (bytes : List ℕ) (end : ℕ) → IsWholeFront bytes end → take end bytes ≡ (frames_end bytes).front
front_is bytes end h = one_longest bytes (take end bytes) (frames_end bytes).front h.longest (longest_is bytes)

-- ---- one piece more

front_behind : (whole rest : List ℕ) → (frames_of whole).fault ≡ None → (frames_end (whole ++ rest)).front ≡ whole ++ (frames_end rest).front
front_behind whole rest none = by (frames_of rest).fault refl
  where
    faults : (frames_of (whole ++ rest)).fault ≡ option_map (moved (length whole)) (frames_of rest).fault
    faults = ap (λ r. r.fault) (read_behind whole rest none)

    by : (o : Option FrameFault) → (frames_of rest).fault ≡ o → (frames_end (whole ++ rest)).front ≡ whole ++ (frames_end rest).front
    by None e = front_none (whole ++ rest) (faults ∙ ap (option_map (moved (length whole))) e) ∙ ap (λ (bytes : List ℕ). whole ++ bytes) (sym (front_none rest e))
    by (Some f) e =
        let there : (frames_of (whole ++ rest)).fault ≡ Some (moved (length whole) f) = faults ∙ ap (option_map (moved (length whole))) e in
        sym (front_at (whole ++ rest) (moved (length whole) f) there).1 ∙ take-past whole rest f.place (length whole + f.place) refl ∙ ap (λ (bytes : List ℕ). whole ++ bytes) (front_at rest f e).1

same_cause : (n : ℕ) (o : Option FrameFault) → broken_by (option_map (moved n) o) ≡ broken_by o
same_cause n None = refl
same_cause n (Some f) = refl

-- the bytes so far, one piece more, and what stands behind the whole messages of before
module _ (bytes piece rest : List ℕ) (end : ℕ) (front : IsWholeFront bytes end) (are : rest ≡ take (length (bytes ++ piece) - end) (drop end (bytes ++ piece))) where
  abbrev whole : List ℕ
  whole = take end bytes

  behind : rest ≡ drop end (bytes ++ piece)
  behind = are ∙ take-all (length (bytes ++ piece) - end) (drop end (bytes ++ piece)) (sym (length-drop end (bytes ++ piece)))

  parts : bytes ++ piece ≡ whole ++ rest
  parts = take-drop end (bytes ++ piece) ∙ ap (λ (b : List ℕ). b ++ drop end (bytes ++ piece)) (take-append end bytes piece front.within) ∙ ap (λ (b : List ℕ). whole ++ b) (sym behind)

  none : (frames_of whole).fault ≡ None
  none = front.longest.messages

  long : length whole ≡ end
  long = long-take end bytes front.within

  reads : frames_of (bytes ++ piece) ≡ record { items = (frames_of whole).items ++ (frames_of rest).items; fault = option_map (moved (length whole)) (frames_of rest).fault }
  reads = ap frames_of parts ∙ read_behind whole rest none

  pub more_front : (end_of_rest : ℕ) → IsWholeFront rest end_of_rest → IsWholeFront (bytes ++ piece) (end + end_of_rest)
  more_front more h =
      let size : length (bytes ++ piece) ≡ length whole + length rest = ap length parts ∙ length-append whole rest in
      let within : more ≤ length rest = h.within in
      front_here (bytes ++ piece) (end + more) (omega (arith, size, long, within))
      (ap (take (end + more)) parts ∙ ap (λ (n : ℕ). take (n + more) (whole ++ rest)) (sym long) ∙ take-past whole rest more (length whole + more) refl ∙ ap (λ (b : List ℕ). whole ++ b) (front_is rest more h)
      ∙ sym (front_behind whole rest none) ∙ ap (λ (b : List ℕ). (frames_end b).front) (sym parts))

  pub more_broken : broken_by (frames_of (bytes ++ piece)).fault ≡ broken_by (frames_of rest).fault
  more_broken = ap (λ r. broken_by r.fault) reads ∙ same_cause (length whole) (frames_of rest).fault

  pub more_messages : length (frames_of (bytes ++ piece)).items ≡ length (frames_of bytes).items + length (frames_of rest).items
  more_messages =
      let same : (frames_of whole).items ≡ (frames_of bytes).items = ap (λ (b : List ℕ). (frames_of b).items) (front_is bytes end front) ∙ ap (λ r. r.items) (front_whole bytes) in
      ap (λ r. length r.items) reads ∙ length-append (frames_of whole).items (frames_of rest).items ∙ ap (λ (n : ℕ). n + length (frames_of rest).items) (ap length same)

-- ---- how many messages

pub messages_are : (bytes : List ℕ) (n : ℕ) → length bytes < 2 ^ 31 → broken_by (frames_of bytes).fault ≡ None → n ≡ length (frames_of bytes).items → messages_in bytes ≡ Ok n
messages_are bytes n few sound is = rw (lt-ltb (length bytes) (2 ^ 31) few, sound, is) refl

pub messages_broken : (bytes : List ℕ) (fault : FeedFault) → length bytes < 2 ^ 31 → broken_by (frames_of bytes).fault ≡ Some fault → messages_in bytes ≡ Err fault
messages_broken bytes fault few broken = rw (lt-ltb (length bytes) (2 ^ 31) few, broken) refl

pub messages_said : (bytes : List ℕ) (n : ℕ) → messages_in bytes ≡ Ok n → (length bytes < 2 ^ 31) × (broken_by (frames_of bytes).fault ≡ None) × (n ≡ length (frames_of bytes).items)
messages_said bytes n e = by (nat_lt (length bytes) (2 ^ 31)) (broken_by (frames_of bytes).fault) refl refl e
  where
    by : (b : Bool) (o : Option FeedFault) → nat_lt (length bytes) (2 ^ 31) ≡ b → broken_by (frames_of bytes).fault ≡ o
        → (refused_if (not b) FeedTooLong >>= λ _. unless o >>= λ _. Ok (length (frames_of bytes).items)) ≡ Ok n
        → (length bytes < 2 ^ 31) × (broken_by (frames_of bytes).fault ≡ None) × (n ≡ length (frames_of bytes).items)
    by true None l s e = (ltb-true (length bytes) (2 ^ 31) l, s, cc)
    by true (Some f) l s e = cc
    by false o l s e = cc

-- ---- no piece yet

pub empty_front : IsWholeFront [] 0
empty_front = front_all [] 0 (ap (λ r. r.fault) frames_none) refl

pub empty_messages : messages_in [] ≡ Ok 0
empty_messages = messages_are [] 0 (omega arith) (ap (λ r. broken_by r.fault) frames_none) (ap (λ r. length r.items) (sym frames_none))

-- ---- a refusal

broken_is : (o : Option FrameFault) (fault : FeedFault) → broken_by o ≡ Some fault → fault ≡ Frame
broken_is None fault e = cc
broken_is (Some f) fault e = by (is_no_length f.cause) e
  where
    by : (b : Bool) → cond b (Some Frame) None ≡ Some fault → fault ≡ Frame
    by true e = cc
    by false e = cc

pub refuses_broken : (fault : FeedFault) (bytes : List ℕ) → broken_by (frames_of bytes).fault ≡ Some fault → messages_in bytes ≡ Err fault → Refuses meant_of fault (messages_in bytes)
refuses_broken fault bytes broken e =
    subst (λ (f : FeedFault). messages_in bytes ≡ Err f → Refuses meant_of f (messages_in bytes)) (sym (broken_is (frames_of bytes).fault fault broken)) (λ same. same) e

-- ---- the law

pub whole_by_bytes : (bytes : List ℕ) → WholeByBytes bytes
whole_by_bytes bytes =
    record {
      one = one_longest bytes;
      counted = λ whole h. ap (λ (b : List ℕ). (frames_of b).items) (one_longest bytes whole (frames_end bytes).front h (longest_is bytes)) ∙ ap (λ r. r.items) (front_whole bytes);
    }
