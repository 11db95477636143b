-- Texts of JSON, part by part.
use Rattle.std.proofs.Common.{◌≡◌, ◌∙◌, ◌≢◌, ℕ, ◌+◌, ◌<◌, Bool, true, false, eqb, List, [], ◌∷◌, ◌++◌, drop, get_or, length, map, append_assoc, append-nil, refl, sym, ap, Option, Some, None}
use Rattle.std.specs.Prelude.{◌==◌, decimal, if◌then◌else◌}
use Rattle.std.proofs.Math.Dec.{eqb_refl}
use Rattle.std.proofs.lemmas.Bool.{eqb-true}
use Rattle.std.proofs.lemmas.List.{drop_more}
use Rattle.std.proofs.lemmas.List.Concat.{flat_map-append}
use Rattle.gtid_set.specs.declared.interval.Interval.{Interval}
use Rattle.gtid_set.specs.Printed.{interval_text, numbers_text, printed_behind, span_text, uuid_text}
use Rattle.hex.specs.Hex.{encode_lower, encode_with, lower_digits}
use Rattle.json.specs.Print.{escape, escape_byte}
use Rattle.shown_text.specs.Shown.{printable_byte}
use Rattle.serde_json.specs.Data.{Data}
use Rattle.serde_json.specs.View.{items_of}
use Rattle.serde_json.specs.Written.{comma_if, compact_text, items_text}
use Rattle.json_pieces.specs.Private.Intervals.{last_behind, uuid_behind}

pub escape-append : (a b : List ℕ) → escape (a ++ b) ≡ escape a ++ escape b
escape-append a b = flat_map-append escape_byte a b

-- ---- bytes

-- the first byte of what is left
pub byte-at : (bytes : List ℕ) (k d : ℕ) → k < length bytes → escape (drop k bytes) ≡ escape_byte (get_or bytes k d) ++ escape (drop (k + 1) bytes)
byte-at bytes k d within = ap escape (drop_more bytes k d within)

pub printable-at : (bytes : List ℕ) (k d : ℕ) → k < length bytes → escape (map printable_byte (drop k bytes)) ≡ escape_byte (printable_byte (get_or bytes k d)) ++ escape (map printable_byte (drop (k + 1) bytes))
printable-at bytes k d within = ap (λ l. escape (map printable_byte l)) (drop_more bytes k d within)

-- ---- hexadecimal

pair : (byte : ℕ) (rest : List ℕ) → encode_lower (byte ∷ rest) ≡ encode_lower (byte ∷ []) ++ encode_lower rest
unfolding encode_with
pair byte rest = refl

-- the digits of one byte before those of the others
pub hex-step : (byte : ℕ) (rest : List ℕ) → escape (encode_lower (byte ∷ rest)) ≡ escape (encode_lower (byte ∷ [])) ++ escape (encode_lower rest)
hex-step byte rest = ap escape (pair byte rest) ∙ escape-append (encode_lower (byte ∷ [])) (encode_lower rest)

pub hex-at : (bytes : List ℕ) (k d : ℕ) → k < length bytes → escape (encode_lower (drop k bytes)) ≡ escape (encode_lower (get_or bytes k d ∷ [])) ++ escape (encode_lower (drop (k + 1) bytes))
hex-at bytes k d within = ap (λ (l : List ℕ). escape (encode_lower l)) (drop_more bytes k d within) ∙ hex-step (get_or bytes k d) (drop (k + 1) bytes)

-- ---- lists

-- the first of what is left
pub item-at : {X : Type 0} (data_of : X → Data) (later : Bool) (xs : List X) (k : ℕ) (x : X) → k < length xs
    → items_text later (items_of (map data_of (drop k xs))) ≡ comma_if later ++ (compact_text (data_of (get_or xs k x)) ++ items_text true (items_of (map data_of (drop (k + 1) xs))))
item-at data_of later xs k x within = ap (λ l. items_text later (items_of (map data_of l))) (drop_more xs k x within)

-- the same of an item that is read there
pub item-of : {X : Type 0} (data_of : X → Data) (later : Bool) (xs : List X) (k : ℕ) (x : X) → k < length xs → x ≡ get_or xs k x
    → items_text later (items_of (map data_of (drop k xs))) ≡ comma_if later ++ (compact_text (data_of x) ++ items_text true (items_of (map data_of (drop (k + 1) xs))))
item-of data_of later xs k x within is =
    item-at data_of later xs k x within
    ∙ ap (λ y. comma_if later ++ (compact_text (data_of y) ++ items_text true (items_of (map data_of (drop (k + 1) xs))))) (sym is)

-- ---- intervals

last-parts : (first last : ℕ) → span_text first last ≡ decimal first ++ last_behind first last
last-parts first last = by (eqb first last) refl
  where
    by : (t : Bool) → eqb first last ≡ t → span_text first last ≡ decimal first ++ last_behind first last
    by true e = rw e (sym (append-nil (decimal first)))
    by false e = rw e refl

-- a last number that isn't the first
pub last-apart : (first last : ℕ) → (first ≡ last → ⊥) → escape (45 ∷ []) ++ escape (decimal last) ≡ escape (last_behind first last)
last-apart first last apart = sym (escape-append (45 ∷ []) (decimal last)) ∙ ap escape (by (eqb first last) refl)
  where
    by : (t : Bool) → eqb first last ≡ t → 45 ∷ decimal last ≡ last_behind first last
    by true e = absurd (apart (eqb-true first last e))
    by false e = rw e refl

-- the uuid of the interval before it
pub uuid-same : (before : Option ℕ) (u : ℕ) (i : Interval) → before ≡ Some u → u ≡ i.uuid → [] ≡ escape (uuid_behind before i)
uuid-same before u i is same = sym (ap (λ b. escape (uuid_behind b i)) (is ∙ ap (λ (v : ℕ). Some v) same) ∙ ap escape (by (eqb i.uuid i.uuid) refl))
  where
    by : (t : Bool) → eqb i.uuid i.uuid ≡ t → uuid_behind (Some i.uuid) i ≡ []
    by true e = rw e refl
    by false e = absurd (rw e at (eqb_refl i.uuid))

-- another one
pub uuid-other : (before : Option ℕ) (u : ℕ) (i : Interval) → before ≡ Some u → (u ≡ i.uuid → ⊥) → escape (44 ∷ []) ++ escape (uuid_text i.uuid) ≡ escape (uuid_behind before i)
uuid-other before u i is apart = sym (escape-append (44 ∷ []) (uuid_text i.uuid)) ∙ sym (ap (λ b. escape (uuid_behind b i)) is ∙ ap escape (by (eqb u i.uuid) refl))
  where
    by : (t : Bool) → eqb u i.uuid ≡ t → uuid_behind (Some u) i ≡ 44 ∷ uuid_text i.uuid
    by true e = absurd (apart (eqb-true u i.uuid e))
    by false e = rw e refl

pub interval-parts : (before : Option ℕ) (i : Interval) → interval_text before i ≡ uuid_behind before i ++ (58 ∷ (decimal i.first ++ last_behind i.first i.last))
interval-parts None i = ap (λ l. uuid_text i.uuid ++ 58 ∷ l) (last-parts i.first i.last)
interval-parts (Some before) i = by (eqb before i.uuid) refl
  where
    by : (t : Bool) → eqb before i.uuid ≡ t → interval_text (Some before) i ≡ uuid_behind (Some before) i ++ (58 ∷ (decimal i.first ++ last_behind i.first i.last))
    by true e = rw e (ap (λ (l : List ℕ). 58 ∷ l) (last-parts i.first i.last))
    by false e = rw e (ap (λ l. 44 ∷ uuid_text i.uuid ++ 58 ∷ l) (last-parts i.first i.last))

pub escaped-interval : (before : Option ℕ) (i : Interval) → escape (uuid_behind before i) ++ (escape (58 ∷ []) ++ (escape (decimal i.first) ++ escape (last_behind i.first i.last))) ≡ escape (interval_text before i)
escaped-interval before i =
    let u = uuid_behind before i in
    let d = decimal i.first in
    let l = last_behind i.first i.last in
    ap (λ x. escape u ++ (escape (58 ∷ []) ++ x)) (sym (escape-append d l))
    ∙ ap (λ x. escape u ++ x) (sym (escape-append (58 ∷ []) (d ++ l)))
    ∙ sym (escape-append u (58 ∷ (d ++ l)))
    ∙ ap escape (sym (interval-parts before i))

-- the first interval of what is left
pub interval-at : (before : Option ℕ) (intervals : List Interval) (k : ℕ) (d : Interval) → k < length intervals
    → escape (printed_behind before (drop k intervals)) ≡ escape (interval_text before (get_or intervals k d)) ++ escape (printed_behind (Some (get_or intervals k d).uuid) (drop (k + 1) intervals))
interval-at before intervals k d within =
    ap (λ l. escape (printed_behind before l)) (drop_more intervals k d within)
    ∙ escape-append (interval_text before (get_or intervals k d)) (printed_behind (Some (get_or intervals k d).uuid) (drop (k + 1) intervals))
