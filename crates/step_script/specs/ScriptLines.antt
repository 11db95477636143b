-- The lines of a script of steps on a board (this profile).
use Rattle.std.specs.Prelude.{ℕ, ◌+◌, ◌-◌, ◌*◌, ◌^◌, ◌==◌, ◌||◌, ◌&&◌, nat_lt, nat_le, Bool, List, [], ◌∷◌, length, take, drop, filter, Option, None, Some, Result, Ok, Err, codes, if◌then◌else◌}
use Rattle.std.specs.Option.{option_and_then, option_map}
use Rattle.std.specs.List.{slice_split}
use Rattle.std.specs.Str.{bytes_eq}
use Rattle.stream_core.specs.declared.step.Step.{Step}
use Rattle.stream_core.specs.declared.step.Step.TheVariants as step
use Rattle.step_script.specs.declared.script.ScriptStep.{ScriptStep}
use Rattle.step_script.specs.declared.script.ScriptStep.TheVariants.{Take, State, Dump}
use Rattle.step_script.specs.declared.line.Line.{Line}
use Rattle.step_script.specs.declared.line.Line.TheVariants as line

-- ---- words

-- words are parted by runs of blanks and tabs, also at both ends
abbrev pub is_word_gap : ℕ → Bool
is_word_gap b = b == 32 || b == 9

abbrev pub words_of_line : List ℕ → List (List ℕ)
words_of_line text = filter (λ word. nat_lt 0 (length word)) (slice_split is_word_gap text)

-- ---- numbers

-- the value of further decimal digits behind a number
abbrev pub number_continued : ℕ → List ℕ → Option ℕ
number_continued value [] = Some value
number_continued value (b ∷ digits) = if nat_le 48 b && nat_le b 57 then number_continued (value * 10 + (b - 48)) digits else None

abbrev pub small : ℕ → Option ℕ
small value = if nat_lt value (2 ^ 32) then Some value else None

-- a number is one or more digits, at most 2^32 - 1 in value
abbrev pub script_number_of : List ℕ → Option ℕ
script_number_of [] = None
script_number_of (b ∷ digits) = option_and_then small (number_continued 0 (b ∷ digits))

-- ---- steps

-- the step of a word that stands with its stream alone
abbrev pub bare_step : List ℕ → Option Step
bare_step word =
    if bytes_eq word (codes "advance") then Some step.Advance else
    if bytes_eq word (codes "close") then Some step.Close else
    if bytes_eq word (codes "restart") then Some step.Restart else
    None

-- the step of a word that stands with its stream and the number of a group or of rows
abbrev pub numbered_step : List ℕ → ℕ → Option Step
numbered_step word number =
    if bytes_eq word (codes "offer") then Some (step.Offer number) else
    if bytes_eq word (codes "open") then Some (step.OpenAt number) else
    if bytes_eq word (codes "copy") then Some (step.CopyRows number) else
    None

abbrev pub taken_on : ℕ → Option Step → Option ScriptStep
taken_on stream found = option_map (Take stream) found

-- what is said of a stream with no further number
abbrev pub said_of : List ℕ → ℕ → Option ScriptStep
said_of word stream = if bytes_eq word (codes "state") then Some (State stream) else taken_on stream (bare_step word)

-- what is said by one word
abbrev pub said_alone : List ℕ → Option ScriptStep
said_alone word = if bytes_eq word (codes "dump") then Some Dump else None

-- what these words say, if they say something: `dump`, `state S`, or a step on a stream
abbrev pub script_step_of : List (List ℕ) → Option ScriptStep
script_step_of (word ∷ []) = said_alone word
script_step_of (word ∷ stream ∷ []) = option_and_then (said_of word) (script_number_of stream)
script_step_of (word ∷ stream ∷ number ∷ []) = option_and_then (λ s. option_and_then (λ n. taken_on s (numbered_step word n)) (script_number_of number)) (script_number_of stream)
script_step_of _ = None

-- ---- lines

-- a CR at the end is dropped first
abbrev pub without_cr : List ℕ → List ℕ
without_cr text = if bytes_eq (drop (length text - 1) text) (13 ∷ []) then take (length text - 1) text else text

abbrev pub line_by : Option ScriptStep → Line
line_by (Some found) = line.Step found
line_by None = line.Bad

-- an empty line, and one that begins with `#`, is skipped
abbrev pub line_of : List ℕ → Line
line_of [] = line.Skipped
line_of (b ∷ text) = if b == 35 then line.Skipped else line_by (script_step_of (words_of_line (b ∷ text)))

-- ---- the whole

abbrev pub steps_then : ℕ → Line → Result (List ScriptStep) ℕ → Result (List ScriptStep) ℕ
steps_then number line.Skipped (Ok steps) = Ok steps
steps_then number line.Skipped (Err bad) = Err bad
steps_then number (line.Step found) (Ok steps) = Ok (found ∷ steps)
steps_then number (line.Step found) (Err bad) = Err bad
steps_then number line.Bad others = Err number

-- the steps of lines, the first of which has this number, or the number of the first bad line
abbrev pub steps_from : ℕ → List (List ℕ) → Result (List ScriptStep) ℕ
steps_from number [] = Ok []
steps_from number (text ∷ lines) = steps_then number (line_of (without_cr text)) (steps_from (number + 1) lines)

-- the lines of a script, parted by LF; a last line needs none
abbrev pub script_steps : List ℕ → Result (List ScriptStep) ℕ
script_steps script = steps_from 1 (slice_split (λ b. b == 10) script)
