-- The requests of a session, a line each: words parted by one tab (this profile).
use Rattle.std.specs.Prelude.{ℕ, ◌+◌, ◌-◌, ◌*◌, ◌^◌, ◌==◌, ◌&&◌, nat_lt, nat_le, Bool, List, [], ◌∷◌, Option, None, Some, codes, if◌then◌else◌}
use Rattle.std.specs.Option.{option_and_then, option_map}
use Rattle.std.specs.List.{slice_split}
use Rattle.std.specs.Str.{bytes_eq}
use Rattle.live_requests.specs.declared.request.Request.{Request}
use Rattle.live_requests.specs.declared.request.Request.TheVariants as request

-- ---- what is asked

-- the feeds grow, and each stream applies up to so many groups, or all; where the streams stand; what changed; that it
-- is taken as told; up to so many rows of a table, from a key on; the row at a key of a table; how many rows there are; a checkpoint; the end
pub data Asked : Type 0 where
  more : Option ℕ → Asked
  state : Asked
  changes : Asked
  told : Asked
  rows : List ℕ → ℕ → Option (List ℕ) → Asked
  row : List ℕ → List ℕ → Asked
  counts : Asked
  save : Asked
  last : Asked

-- a request, wherever its words lie
abbrev pub request_value : Request → Asked
request_value (request.More groups) = more groups
request_value request.State = state
request_value request.Changes = changes
request_value request.Told = told
request_value (request.Rows table most from) = rows table.now most (option_map (λ key. key.now) from)
request_value (request.Row table key) = row table.now key.now
request_value request.Counts = counts
request_value request.Save = save
request_value request.End = last

-- ---- words and numbers

abbrev pub is_tab : ℕ → Bool
is_tab byte = byte == 9

abbrev pub words_of : List ℕ → List (List ℕ)
words_of line = slice_split is_tab line

-- the value of further decimal digits behind a number
abbrev pub number_continued : ℕ → List ℕ → Option ℕ
number_continued value [] = Some value
number_continued value (byte ∷ digits) = if nat_le 48 byte && nat_le byte 57 then number_continued (value * 10 + (byte - 48)) digits else None

abbrev pub small : ℕ → Option ℕ
small value = if nat_lt value (2 ^ 32) then Some value else None

-- a number is one or more digits, at most 2^32 - 1 in value
abbrev pub number_of : List ℕ → Option ℕ
number_of [] = None
number_of (byte ∷ digits) = option_and_then small (number_continued 0 (byte ∷ digits))

-- a number of groups is 1 or more
abbrev pub above_zero : ℕ → Option ℕ
above_zero number = if nat_le 1 number then Some number else None

abbrev pub groups_of : List ℕ → Option ℕ
groups_of word = option_and_then above_zero (number_of word)

-- a number of rows is from 1 to 10,000
abbrev pub limited : ℕ → Option ℕ
limited number = if nat_le 1 number && nat_le number 10000 then Some number else None

abbrev pub limit_of : List ℕ → Option ℕ
limit_of word = option_and_then limited (number_of word)

-- ---- lines

abbrev pub asked_alone : List ℕ → Option Asked
asked_alone word =
    if bytes_eq word (codes "more") then Some (more None) else
    if bytes_eq word (codes "state") then Some state else
    if bytes_eq word (codes "changes") then Some changes else
    if bytes_eq word (codes "told") then Some told else
    if bytes_eq word (codes "counts") then Some counts else
    if bytes_eq word (codes "save") then Some save else
    if bytes_eq word (codes "end") then Some last else
    None

abbrev pub asked_with_one : List ℕ → List ℕ → Option Asked
asked_with_one word one =
    if bytes_eq word (codes "more") then option_map (λ groups. more (Some groups)) (groups_of one) else
    if bytes_eq word (codes "rows") then Some (rows one 100 None) else
    None

abbrev pub asked_with_two : List ℕ → List ℕ → List ℕ → Option Asked
asked_with_two word one two =
    if bytes_eq word (codes "rows") then option_map (λ most. rows one most None) (limit_of two) else
    if bytes_eq word (codes "row") then Some (row one two) else
    None

abbrev pub asked_with_three : List ℕ → List ℕ → List ℕ → List ℕ → Option Asked
asked_with_three word one two three = if bytes_eq word (codes "rows") then option_map (λ most. rows one most (Some three)) (limit_of two) else None

-- what these words ask for, if it is something
abbrev pub asked_by : List (List ℕ) → Option Asked
asked_by (word ∷ []) = asked_alone word
asked_by (word ∷ one ∷ []) = asked_with_one word one
asked_by (word ∷ one ∷ two ∷ []) = asked_with_two word one two
asked_by (word ∷ one ∷ two ∷ three ∷ []) = asked_with_three word one two three
asked_by _ = None

-- what a line asks for
abbrev pub request_in : List ℕ → Option Asked
request_in line = asked_by (words_of line)
