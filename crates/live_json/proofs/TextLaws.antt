-- Answers as text, part by part.
use Rattle.std.proofs.Common.{◌≡◌, ◌∙◌, ℕ, true, false, List, [], ◌∷◌, ◌++◌, Option, None, Some, append_assoc, refl, sym, ap}
use Rattle.std.specs.Prelude.{codes}
use Rattle.json.specs.Print.{escape_byte, quoted}
use Rattle.serde_json.specs.Data.{Data, Members, member, no_members, string}
use Rattle.serde_json.specs.Written.{compact_text, members_text}
use Rattle.live_json.specs.Answers.{RefusalValue, behind_number, count_data, key_data, member_if, ok_line, refusal_data, refused_line}
use Rattle.live_json.specs.Private.Parts.{before_text, behind_text, first_texts, last_texts}

-- ---- lines

-- an answer and the end of its line
pub ok-text : (answer : Data) → (codes "{\"ok\":" ++ compact_text answer) ++ codes "}\n" ≡ ok_line answer
unfolding escape_byte
ok-text answer = ap (λ (t : List ℕ). codes "{\"ok\":" ++ t) (sym (append_assoc (compact_text answer) (125 ∷ []) (10 ∷ [])))

-- a refusal and the end of its line
pub refused-text : (refusal : RefusalValue) → (codes "{\"refused\":" ++ compact_text (refusal_data refusal)) ++ codes "}\n" ≡ refused_line refusal
unfolding escape_byte
refused-text refusal = ap (λ (t : List ℕ). codes "{\"refused\":" ++ t) (sym (append_assoc (compact_text (refusal_data refusal)) (125 ∷ []) (10 ∷ [])))

-- ---- members that may not be there

-- there is a member
abbrev IsLed : Members → Type 0
IsLed others = members_text true others ≡ 44 ∷ members_text false others

led-if : {X : Type 0} (name : List ℕ) (data_of : X → Data) (found : Option X) (others : Members) → IsLed others → IsLed (member_if name data_of found others)
led-if name data_of None others led = led
led-if name data_of (Some x) others led = refl

first-if : {X : Type 0} (name : List ℕ) (data_of : X → Data) (found : Option X) (others : Members) → IsLed others
    → before_text name data_of found ++ members_text false others ≡ members_text false (member_if name data_of found others)
first-if name data_of None others led = refl
first-if name data_of (Some x) others led =
    let text = compact_text (data_of x) in
    append_assoc (quoted name) (58 ∷ (text ++ 44 ∷ [])) (members_text false others)
    ∙ ap (λ (t : List ℕ). quoted name ++ 58 ∷ t) (append_assoc text (44 ∷ []) (members_text false others) ∙ ap (λ (t : List ℕ). text ++ t) (sym led))

last-if : {X : Type 0} (name : List ℕ) (data_of : X → Data) (found : Option X) (others : Members) → behind_text name data_of found ++ members_text true others ≡ members_text true (member_if name data_of found others)
last-if name data_of None others = refl
last-if name data_of (Some x) others = ap (λ (t : List ℕ). 44 ∷ t) (append_assoc (quoted name) (58 ∷ compact_text (data_of x)) (members_text true others))

four-parts : (a b c d more : List ℕ) → (a ++ (b ++ (c ++ d))) ++ more ≡ a ++ (b ++ (c ++ (d ++ more)))
four-parts a b c d more = append_assoc a (b ++ (c ++ d)) more ∙ ap (λ (t : List ℕ). a ++ t) (append_assoc b (c ++ d) more ∙ ap (λ (t : List ℕ). b ++ t) (append_assoc c d more))

-- ---- a refusal

first-parts : (r : RefusalValue) (others : Members) → IsLed others
    → first_texts r ++ members_text false others
    ≡ members_text false (member_if (codes "cause") count_data r.cause (member_if (codes "file") string r.file (member_if (codes "group") count_data r.group (member_if (codes "key") key_data r.key others))))
first-parts r others led =
    let a = before_text (codes "cause") count_data r.cause in
    let b = before_text (codes "file") string r.file in
    let c = before_text (codes "group") count_data r.group in
    let d = before_text (codes "key") key_data r.key in
    let key = member_if (codes "key") key_data r.key others in
    let group = member_if (codes "group") count_data r.group key in
    let file = member_if (codes "file") string r.file group in
    let key_led = led-if (codes "key") key_data r.key others led in
    let group_led = led-if (codes "group") count_data r.group key key_led in
    let file_led = led-if (codes "file") string r.file group group_led in
    four-parts a b c d (members_text false others)
    ∙ ap (λ (t : List ℕ). a ++ (b ++ (c ++ t))) (first-if (codes "key") key_data r.key others led)
    ∙ ap (λ (t : List ℕ). a ++ (b ++ t)) (first-if (codes "group") count_data r.group key key_led)
    ∙ ap (λ (t : List ℕ). a ++ t) (first-if (codes "file") string r.file group group_led)
    ∙ first-if (codes "cause") count_data r.cause file file_led

last-parts : (r : RefusalValue) → last_texts r ++ members_text true (member (codes "words") (string r.words) no_members) ≡ members_text true (behind_number r)
last-parts r =
    let a = behind_text (codes "owner") count_data r.owner in
    let b = behind_text (codes "stream") count_data r.stream in
    let c = behind_text (codes "table") string r.table in
    let d = behind_text (codes "type") count_data r.column_type in
    let words = member (codes "words") (string r.words) no_members in
    let kind = member_if (codes "type") count_data r.column_type words in
    let table = member_if (codes "table") string r.table kind in
    let stream = member_if (codes "stream") count_data r.stream table in
    four-parts a b c d (members_text true words)
    ∙ ap (λ (t : List ℕ). a ++ (b ++ (c ++ t))) (last-if (codes "type") count_data r.column_type words)
    ∙ ap (λ (t : List ℕ). a ++ (b ++ t)) (last-if (codes "table") string r.table kind)
    ∙ ap (λ (t : List ℕ). a ++ t) (last-if (codes "stream") count_data r.stream table)
    ∙ last-if (codes "owner") count_data r.owner stream

-- its text as it is told
pub refusal-text : (r : RefusalValue)
    → codes "{" ++ (first_texts r ++ (codes "\"number\":" ++ (compact_text (count_data r.refused) ++ (last_texts r ++ (codes ",\"words\":" ++ (quoted r.words ++ codes "}")))))) ≡ compact_text (refusal_data r)
unfolding escape_byte
refusal-text r =
    let number = compact_text (count_data r.refused) in
    ap (λ (t : List ℕ). 123 ∷ t)
    (ap (λ (t : List ℕ). first_texts r ++ (codes "\"number\":" ++ (number ++ t))) (last-parts r)
    ∙ first-parts r (member (codes "number") (count_data r.refused) (behind_number r)) refl)
