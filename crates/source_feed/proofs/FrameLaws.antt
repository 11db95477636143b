-- Whole messages in front of other bytes, and the longest of them.
use Rattle.std.proofs.Common.{◌≡◌, ℕ, zero, suc, ◌+◌, ◌-◌, ◌<◌, ◌≤◌, List, [], ◌∷◌, ◌++◌, length, length-append, take, Option, Some, None, Result, Ok, Err, refl, sym, ap, subst, ◌∙◌, arith}
use Rattle.std.specs.Option.{option_map}
use Rattle.std.proofs.lemmas.List.{append-nil}
use Rattle.proto_wire.specs.declared.fault.FrameFault.{FrameFault}
use Rattle.proto_wire.specs.Reading.{Reading, Spells, reading_of}
use Rattle.proto_wire.specs.Frame.{IsFrame, NoFrame, frame_at, frames_of}
use Rattle.proto_wire.proofs.ReadingLaws.{reading-none, reading-first, spells-reading, only_reading}
use Rattle.proto_wire.proofs.FieldLaws.{frame_reader}

append-twice : {A : Type 0} (xs ys zs : List A) → (xs ++ ys) ++ zs ≡ xs ++ (ys ++ zs)
append-twice [] ys zs = refl
append-twice {A} (x ∷ xs) ys zs = ap (λ (more : List A). x ∷ more) (append-twice xs ys zs)

take-front : {A : Type 0} (xs ys : List A) (n : ℕ) → n ≡ length xs → take n (xs ++ ys) ≡ xs
take-front [] ys zero e = refl
take-front [] ys (suc n) e = absurd (omega arith)
take-front (x ∷ xs) ys zero e = absurd (omega arith)
take-front {A} (x ∷ xs) ys (suc n) e = ap (λ (more : List A). x ∷ more) (take-front xs ys n (omega arith))

same_Ok : {A F : Type 0} (r : Result A F) (x y : A) → r ≡ Ok x → r ≡ Ok y → x ≡ y
same_Ok r x y e f = cc

-- ---- what stands behind whole messages

-- the messages at the front are read, and then the rest
behind_messages : (total size : ℕ) (whole rest : List ℕ) (messages : List (List ℕ)) → Spells IsFrame (NoFrame size) whole messages None
    → reading_of (frame_at total) (whole ++ rest) ≡ record { items = messages ++ (reading_of (frame_at total) rest).items; fault = (reading_of (frame_at total) rest).fault }
behind_messages total size whole rest [] e = rw e refl
behind_messages total size whole rest (x ∷ xs) (front, left, parts, item, others) =
    let whole_is : whole ++ rest ≡ front ++ (left ++ rest) = ap (λ (bytes : List ℕ). bytes ++ rest) parts ∙ append-twice front left rest in
    let one : frame_at total (whole ++ rest) ≡ Ok (x, left ++ rest) = ap (frame_at total) whole_is ∙ (frame_reader total).finds front (left ++ rest) x item in
    reading-first (frame_at total) (frame_reader total).takes (whole ++ rest) (x, left ++ rest) one
    ∙ ap (λ (r : Reading (List ℕ) FrameFault). record { items = x ∷ r.items; fault = r.fault }) (behind_messages total size left rest xs others)

-- where the messages end, and what ends them
pub record Ending (total : ℕ) (bytes : List ℕ) (messages : List (List ℕ)) (fault : Option FrameFault) : Type 0 where
  pub front : List ℕ
  pub rest : List ℕ
  pub parts : bytes ≡ front ++ rest
  pub whole : (size : ℕ) → Spells IsFrame (NoFrame size) front messages None
  pub end : Spells IsFrame (NoFrame total) rest [] fault

ending : (total : ℕ) (bytes : List ℕ) (messages : List (List ℕ)) (fault : Option FrameFault) → Spells IsFrame (NoFrame total) bytes messages fault → Ending total bytes messages fault
ending total bytes [] fault h = record { front = []; rest = bytes; parts = refl; whole = λ size. refl; end = h }
ending total bytes (x ∷ xs) fault (front, left, parts, item, others) =
    let more = ending total left xs fault others in
    record {
      front = front ++ more.front;
      rest = more.rest;
      parts = parts ∙ ap (λ (bytes : List ℕ). front ++ bytes) more.parts ∙ sym (append-twice front more.front more.rest);
      whole = λ size. (front, more.front, refl, item, more.whole size);
      end = more.end;
    }

pub frames_end : (bytes : List ℕ) → Ending (length bytes) bytes (frames_of bytes).items (frames_of bytes).fault
frames_end bytes =
    ending (length bytes) bytes (frames_of bytes).items (frames_of bytes).fault (spells-reading IsFrame (NoFrame (length bytes)) (frame_at (length bytes)) (frame_reader (length bytes)) bytes)

-- no bytes are no message
pub frames_none : frames_of [] ≡ record { items = []; fault = None }
frames_none = reading-none (frame_at 0)

-- there are no more messages than bytes
few_spelled : (total : ℕ) (bytes : List ℕ) (messages : List (List ℕ)) (fault : Option FrameFault) → Spells IsFrame (NoFrame total) bytes messages fault → length messages ≤ length bytes
few_spelled total bytes [] fault h = omega arith
few_spelled total bytes (x ∷ xs) fault (front, left, parts, item, others) =
    let one : frame_at total bytes ≡ Ok (x, left) = ap (frame_at total) parts ∙ (frame_reader total).finds front left x item in
    let less : length left < length bytes = (frame_reader total).takes.shorter bytes (x, left) one in
    let more : length xs ≤ length left = few_spelled total left xs fault others in
    omega (arith, less, more)

pub few_messages : (bytes : List ℕ) → length (frames_of bytes).items ≤ length bytes
few_messages bytes =
    few_spelled (length bytes) bytes (frames_of bytes).items (frames_of bytes).fault (spells-reading IsFrame (NoFrame (length bytes)) (frame_at (length bytes)) (frame_reader (length bytes)) bytes)

-- ---- the longest beginning

shorter_front : (total : ℕ) (size other : ℕ) (bytes longer behind front rest : List ℕ) (xs ys : List (List ℕ)) (fault : Option FrameFault) → bytes ≡ longer ++ behind → bytes ≡ front ++ rest
    → Spells IsFrame (NoFrame size) longer xs None → Spells IsFrame (NoFrame other) front ys None → Spells IsFrame (NoFrame total) rest [] fault → length longer ≤ length front
shorter_front total size other bytes longer behind front rest [] ys fault p q h k end = rw h (omega arith)
shorter_front total size other bytes longer behind front rest (x ∷ xs) [] fault p q (a, left, parts, item, others) k end =
    let whole_is : bytes ≡ a ++ (left ++ behind) = p ∙ ap (λ (b : List ℕ). b ++ behind) parts ∙ append-twice a left behind in
    let one : frame_at total bytes ≡ Ok (x, left ++ behind) = ap (frame_at total) whole_is ∙ (frame_reader total).finds a (left ++ behind) x item in
    let is : bytes ≡ rest = q ∙ ap (λ (b : List ℕ). b ++ rest) k in
    by fault end is one
  where
    by : (o : Option FrameFault) → Spells IsFrame (NoFrame total) rest [] o → bytes ≡ rest → frame_at total bytes ≡ Ok (x, left ++ behind) → length longer ≤ length front
    by None none is one =
        let less : length (left ++ behind) < length bytes = (frame_reader total).takes.shorter bytes (x, left ++ behind) one in
        let empty : length bytes ≡ 0 = ap length (is ∙ none) in
        absurd (omega (arith, less, empty))
    by (Some f) refused is one =
        let other_answer : frame_at total bytes ≡ Err f = ap (frame_at total) is ∙ (frame_reader total).refuses rest f refused.1 in
        absurd (let no : Ok (x, left ++ behind) ≡ Err f = sym one ∙ other_answer in cc)
shorter_front total size other bytes longer behind front rest (x ∷ xs) (y ∷ ys) fault p q (a, left, parts, item, others) (b, kept, pieces, also, more) end =
    let one_is : bytes ≡ a ++ (left ++ behind) = p ∙ ap (λ (c : List ℕ). c ++ behind) parts ∙ append-twice a left behind in
    let two_is : bytes ≡ b ++ (kept ++ rest) = q ∙ ap (λ (c : List ℕ). c ++ rest) pieces ∙ append-twice b kept rest in
    let one : frame_at total bytes ≡ Ok (x, left ++ behind) = ap (frame_at total) one_is ∙ (frame_reader total).finds a (left ++ behind) x item in
    let two : frame_at total bytes ≡ Ok (y, kept ++ rest) = ap (frame_at total) two_is ∙ (frame_reader total).finds b (kept ++ rest) y also in
    let pair : (x, left ++ behind) ≡ (y, kept ++ rest) = same_Ok (frame_at total bytes) (x, left ++ behind) (y, kept ++ rest) one two in
    let same : left ++ behind ≡ kept ++ rest = ap (λ (w : List ℕ × List ℕ). w.1) pair in
    let later : length left ≤ length kept = shorter_front total size other (left ++ behind) left behind kept rest xs ys fault refl same others more end in
    let long_a : length bytes ≡ length a + length (left ++ behind) = ap length one_is ∙ length-append a (left ++ behind) in
    let long_b : length bytes ≡ length b + length (kept ++ rest) = ap length two_is ∙ length-append b (kept ++ rest) in
    let as_long : length (left ++ behind) ≡ length (kept ++ rest) = ap length same in
    let longer_is : length longer ≡ length a + length left = ap length parts ∙ length-append a left in
    let front_is : length front ≡ length b + length kept = ap length pieces ∙ length-append b kept in
    omega (arith, later, long_a, long_b, as_long, longer_is, front_is)

-- a beginning that is whole messages is no longer than the messages that are read
pub longest_front : (bytes longer behind : List ℕ) → bytes ≡ longer ++ behind → (frames_of longer).fault ≡ None → length longer ≤ length (frames_end bytes).front
longest_front bytes longer behind parts whole =
    let messages : Spells IsFrame (NoFrame (length longer)) longer (frames_of longer).items None =
    subst (Spells IsFrame (NoFrame (length longer)) longer (frames_of longer).items) whole (spells-reading IsFrame (NoFrame (length longer)) (frame_at (length longer)) (frame_reader (length longer)) longer) in
    shorter_front (length bytes) (length longer) 0 bytes longer behind (frames_end bytes).front (frames_end bytes).rest (frames_of longer).items (frames_of bytes).items (frames_of bytes).fault
    parts (frames_end bytes).parts messages ((frames_end bytes).whole 0) (frames_end bytes).end

-- the messages that are read are whole
pub front_whole : (bytes : List ℕ) → frames_of (frames_end bytes).front ≡ record { items = (frames_of bytes).items; fault = None }
front_whole bytes =
    let front = (frames_end bytes).front in
    only_reading IsFrame (NoFrame (length front)) (frame_at (length front)) (frame_reader (length front)) front (frames_of bytes).items None ((frames_end bytes).whole (length front))

-- where they end: at the end of the bytes, or at the fault's place
pub front_none : (bytes : List ℕ) → (frames_of bytes).fault ≡ None → (frames_end bytes).front ≡ bytes
front_none bytes e = by (frames_of bytes).fault (frames_end bytes).end e
  where
    by : (o : Option FrameFault) → Spells IsFrame (NoFrame (length bytes)) (frames_end bytes).rest [] o → o ≡ None → (frames_end bytes).front ≡ bytes
    by None h e = sym (append-nil (frames_end bytes).front) ∙ ap (λ (rest : List ℕ). (frames_end bytes).front ++ rest) (sym h) ∙ sym (frames_end bytes).parts
    by (Some f) h e = absurd cc

pub front_at : (bytes : List ℕ) (f : FrameFault) → (frames_of bytes).fault ≡ Some f → (f.place ≤ length bytes) × (take f.place bytes ≡ (frames_end bytes).front)
front_at bytes f e = by (subst (Spells IsFrame (NoFrame (length bytes)) (frames_end bytes).rest []) e (frames_end bytes).end)
  where
    by : Spells IsFrame (NoFrame (length bytes)) (frames_end bytes).rest [] (Some f) → (f.place ≤ length bytes) × (take f.place bytes ≡ (frames_end bytes).front)
    by h =
        let long : length bytes ≡ length (frames_end bytes).front + length (frames_end bytes).rest = ap length (frames_end bytes).parts ∙ length-append (frames_end bytes).front (frames_end bytes).rest in
        let place : f.place ≡ length bytes - length (frames_end bytes).rest = h.1.0 in
        let is : f.place ≡ length (frames_end bytes).front = omega (arith, long, place) in
        (omega (arith, long, is), ap (take f.place) (frames_end bytes).parts ∙ take-front (frames_end bytes).front (frames_end bytes).rest f.place is)

-- ---- read from where the whole messages end

-- a fault so many bytes further on
abbrev pub moved : ℕ → FrameFault → FrameFault
moved n fault = record { place = n + fault.place; cause = fault.cause }

moved_spells : (n total : ℕ) (bytes : List ℕ) (messages : List (List ℕ)) (fault : Option FrameFault) → length bytes ≤ total → Spells IsFrame (NoFrame total) bytes messages fault
    → Spells IsFrame (NoFrame (n + total)) bytes messages (option_map (moved n) fault)
moved_spells n total bytes [] None le h = h
moved_spells n total bytes [] (Some f) le (some, refused) = (some, ((let at : f.place ≡ total - length bytes = refused.0 in omega (arith, at, le)), refused.1))
moved_spells n total bytes (x ∷ xs) fault le (front, left, parts, item, others) =
    let long : length bytes ≡ length front + length left = ap length parts ∙ length-append front left in
    (front, left, parts, item, moved_spells n total left xs fault (omega (arith, le, long)) others)

-- behind whole messages the others are read as by themselves
pub read_behind : (whole rest : List ℕ) → (frames_of whole).fault ≡ None
    → frames_of (whole ++ rest) ≡ record { items = (frames_of whole).items ++ (frames_of rest).items; fault = option_map (moved (length whole)) (frames_of rest).fault }
read_behind whole rest none =
    let messages : Spells IsFrame (NoFrame (length whole)) whole (frames_of whole).items None =
    subst (Spells IsFrame (NoFrame (length whole)) whole (frames_of whole).items) none (spells-reading IsFrame (NoFrame (length whole)) (frame_at (length whole)) (frame_reader (length whole)) whole) in
    let long : length (whole ++ rest) ≡ length whole + length rest = length-append whole rest in
    let total = length whole + length rest in
    let others : reading_of (frame_at total) rest ≡ record { items = (frames_of rest).items; fault = option_map (moved (length whole)) (frames_of rest).fault } =
    only_reading IsFrame (NoFrame total) (frame_at total) (frame_reader total) rest (frames_of rest).items (option_map (moved (length whole)) (frames_of rest).fault)
    (moved_spells (length whole) (length rest) rest (frames_of rest).items (frames_of rest).fault (omega arith)
    (spells-reading IsFrame (NoFrame (length rest)) (frame_at (length rest)) (frame_reader (length rest)) rest)) in
    ap (λ (n : ℕ). reading_of (frame_at n) (whole ++ rest)) long ∙ behind_messages total (length whole) whole rest (frames_of whole).items messages
    ∙ ap (λ (r : Reading (List ℕ) FrameFault). record { items = (frames_of whole).items ++ r.items; fault = r.fault }) others
