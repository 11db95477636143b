-- What `explain --json` prints (this profile).
use Rattle.std.specs.Prelude.{◌≡◌, ◌≢◌, ◌⊎◌, ℕ, zero, suc, List, [], ◌∷◌, ◌++◌, Option, None, Some, Bool, true, false, codes}
use Rattle.std.specs.Str.{trim}
use Rattle.refusal_words.specs.Texts.{explained, has_text}
use Rattle.serde_json.specs.Data.{Data, number, string, object, no_members, member, unsigned}
use Rattle.refusal_json.specs.Refusal.{json_line, meaning_of}
use Rattle.refusal_json.specs.declared.parts.Parts.{Parts}

-- ---- a number

-- the parts of a number's text: the line in front, what the number means, its usual causes, and what to do
pub record PartsValue : Type 0 where
  pub front : List ℕ
  pub means : List ℕ
  pub causes : List ℕ
  pub todo : List ℕ

abbrev pub parts_value : Parts → PartsValue
parts_value parts = record { front = parts.front.now; means = parts.means.now; causes = parts.causes.now; todo = parts.todo.now }

-- the words between what it means, its causes and what to do
abbrev pub causes_words : List ℕ
causes_words = codes "\nUsual causes: "

abbrev pub todo_words : List ℕ
todo_words = codes "\nWhat to do: "

-- a text is just these parts, with those words between them
abbrev pub HasParts : List ℕ → PartsValue → Type 0
HasParts text parts = text ≡ parts.front ++ (codes "\n\n" ++ (parts.means ++ (causes_words ++ (parts.causes ++ (todo_words ++ parts.todo)))))

-- the words stand nowhere in it
abbrev pub Lacks : List ℕ → List ℕ → Type 0
Lacks words text = (before behind : List ℕ) → text ≢ before ++ (words ++ behind)

-- one of the words between its parts is lacking, behind those before it
pub data LacksWords (text : List ℕ) : Type 0 where
  no_means : Lacks (codes "\n\n") text → LacksWords text
  no_causes : (front rest : List ℕ) → text ≡ front ++ (codes "\n\n" ++ rest) → Lacks causes_words rest → LacksWords text
  no_todo : (front means rest : List ℕ) → text ≡ front ++ (codes "\n\n" ++ (means ++ (causes_words ++ rest))) → Lacks todo_words rest → LacksWords text

-- a number and what it means in a line
abbrev pub listed_data : ℕ → Data
listed_data refused = object (member (codes "refused") (number (unsigned refused)) (member (codes "text") (string (meaning_of refused)) no_members))

-- the same with the parts of its text
abbrev pub explained_data : ℕ → PartsValue → Data
explained_data refused parts =
    object (
    member (codes "causes") (string parts.causes)
    (member (codes "do") (string (trim parts.todo))
    (member (codes "means") (string parts.means)
    (member (codes "refused") (number (unsigned refused))
    (member (codes "text") (string (meaning_of refused)) no_members))))
    )

-- the line of a number: the parts of its text, or where this has none the number and what it means in a line
pub data IsNumberLine (refused : ℕ) (line : List ℕ) : Type 0 where
  of_parts : (parts : PartsValue) → HasParts (explained (Some refused)) parts → line ≡ json_line (explained_data refused parts) → IsNumberLine refused line
  of_none : LacksWords (explained (Some refused)) → line ≡ json_line (listed_data refused) → IsNumberLine refused line

-- ---- all numbers

-- the line of a number that has a text
abbrev pub line_if : Bool → ℕ → List ℕ
line_if true refused = json_line (listed_data refused)
line_if false refused = []

-- those of all numbers below one, by rising numbers
abbrev pub lines_below : ℕ → List ℕ
lines_below zero = []
lines_below (suc n) = lines_below n ++ line_if (has_text n) n

-- what is printed: of all numbers, which are below 256, or of one
abbrev pub IsExplainedJson : Option ℕ → List ℕ → Type 0
IsExplainedJson None text = text ≡ lines_below 256
IsExplainedJson (Some refused) text = IsNumberLine refused text
