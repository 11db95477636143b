-- The texts of lines of JSON, part by part.
use Rattle.std.proofs.Common.{◌≡◌, ◌∙◌, ℕ, Bool, false, true, List, [], ◌∷◌, ◌++◌, Option, None, Some, option_map, append_assoc, refl, sym, ap}
use Rattle.std.specs.Prelude.{codes, is_some}
use Rattle.json.specs.Print.{quoted}
use Rattle.serde_json.specs.Data.{object}
use Rattle.serde_json.specs.Written.{comma_if, compact_text}
use Rattle.refusal_json.specs.Details.{DetailValue, detail_value, details_members, told_before, told_data}
use Rattle.refusal_json.specs.Private.Parts.{member_if, member_part}
use Rattle.refusal_json.specs.declared.details.Detail.{Detail}

-- ---- details

member-behind : (later : Bool) (detail : DetailValue) (rest : List ℕ) → member_part later detail ++ rest ≡ comma_if later ++ (quoted detail.word ++ 58 ∷ (compact_text (told_data detail.told) ++ rest))
member-behind later detail rest =
    let told = compact_text (told_data detail.told) in
    append_assoc (comma_if later) (quoted detail.word ++ 58 ∷ told) rest ∙ ap (λ l. comma_if later ++ l) (append_assoc (quoted detail.word) (58 ∷ told) rest)

pub details-text : (first second : Option Detail)
    → 123 ∷ (member_if false (option_map detail_value first) ++ (member_if (is_some first) (option_map detail_value second) ++ 125 ∷ []))
    ≡ compact_text (object (details_members (told_before (option_map detail_value first) (told_before (option_map detail_value second) []))))
details-text None None = refl
details-text None (Some second) = ap (λ (l : List ℕ). 123 ∷ l) (member-behind false (detail_value second) (125 ∷ []))
details-text (Some first) None = ap (λ (l : List ℕ). 123 ∷ l) (member-behind false (detail_value first) (125 ∷ []))
details-text (Some first) (Some second) =
    ap (λ (l : List ℕ). 123 ∷ (member_part false (detail_value first) ++ l)) (member-behind true (detail_value second) (125 ∷ []))
    ∙ ap (λ (l : List ℕ). 123 ∷ l) (member-behind false (detail_value first) _)

-- ---- a refusal

-- the end of the line, behind its details
pub refusal-text : (details place refused meaning : List ℕ)
    → codes "{\"details\":" ++ (details ++ (codes ",\"place\":" ++ (place ++ (codes ",\"refused\":" ++ (refused ++ (codes ",\"text\":" ++ (meaning ++ codes "}\n")))))))
    ≡ (codes "{\"details\":" ++ (details ++ (codes ",\"place\":" ++ (place ++ (codes ",\"refused\":" ++ (refused ++ (codes ",\"text\":" ++ (meaning ++ 125 ∷ [])))))))) ++ 10 ∷ []
refusal-text details place refused meaning =
    let last = codes ",\"text\":" ++ (meaning ++ 125 ∷ []) in
    let number = codes ",\"refused\":" ++ (refused ++ last) in
    sym (ap (λ t. codes "{\"details\":" ++ t)
    (append_assoc details (codes ",\"place\":" ++ (place ++ number)) (10 ∷ [])
    ∙ ap (λ t. details ++ (codes ",\"place\":" ++ t))
    (append_assoc place number (10 ∷ [])
    ∙ ap (λ t. place ++ (codes ",\"refused\":" ++ t))
    (append_assoc refused last (10 ∷ [])
    ∙ ap (λ t. refused ++ (codes ",\"text\":" ++ t)) (append_assoc meaning (125 ∷ []) (10 ∷ []))))))

-- ---- a number

pub listed-text : (refused meaning : List ℕ) → codes "{\"refused\":" ++ (refused ++ (codes ",\"text\":" ++ (meaning ++ codes "}\n"))) ≡ (codes "{\"refused\":" ++ (refused ++ (codes ",\"text\":" ++ (meaning ++ 125 ∷ [])))) ++ 10 ∷ []
listed-text refused meaning =
    let last = codes ",\"text\":" ++ (meaning ++ 125 ∷ []) in
    sym (ap (λ t. codes "{\"refused\":" ++ t)
    (append_assoc refused last (10 ∷ []) ∙ ap (λ t. refused ++ (codes ",\"text\":" ++ t)) (append_assoc meaning (125 ∷ []) (10 ∷ []))))

-- the end of the line, behind the parts of its text
pub explained-text : (causes todo means refused meaning : List ℕ)
    → codes "{\"causes\":" ++ (causes ++ (codes ",\"do\":" ++ (todo ++ (codes ",\"means\":" ++ (means ++ (codes ",\"refused\":" ++ (refused ++ (codes ",\"text\":" ++ (meaning ++ codes "}\n")))))))))
    ≡ (codes "{\"causes\":" ++ (causes ++ (codes ",\"do\":" ++ (todo ++ (codes ",\"means\":" ++ (means ++ (codes ",\"refused\":" ++ (refused ++ (codes ",\"text\":" ++ (meaning ++ 125 ∷ [])))))))))) ++ 10 ∷ []
explained-text causes todo means refused meaning =
    let last = codes ",\"text\":" ++ (meaning ++ 125 ∷ []) in
    let number = codes ",\"refused\":" ++ (refused ++ last) in
    let said = codes ",\"means\":" ++ (means ++ number) in
    sym (ap (λ t. codes "{\"causes\":" ++ t)
    (append_assoc causes (codes ",\"do\":" ++ (todo ++ said)) (10 ∷ [])
    ∙ ap (λ t. causes ++ (codes ",\"do\":" ++ t))
    (append_assoc todo said (10 ∷ [])
    ∙ ap (λ t. todo ++ (codes ",\"means\":" ++ t))
    (append_assoc means number (10 ∷ [])
    ∙ ap (λ t. means ++ (codes ",\"refused\":" ++ t))
    (append_assoc refused last (10 ∷ [])
    ∙ ap (λ t. refused ++ (codes ",\"text\":" ++ t)) (append_assoc meaning (125 ∷ []) (10 ∷ [])))))))
