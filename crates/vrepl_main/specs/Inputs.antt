-- The inputs of a command, and the refusal of one that can't be read (this profile).
use Rattle.std.specs.Prelude.{◌≡◌, ◌<◌, ℕ, List, length, Some, codes, get_or, slice_get, Bool, true, false}
use Rattle.vrepl_main.specs.declared.input.InputName.{InputName}
use Rattle.vrepl_main.specs.declared.input.InputName.TheVariants.{File, Standard}
use Rattle.vrepl_main.specs.declared.refusal.CommandRefusal.{CommandRefusal}
use Rattle.vrepl_main.specs.declared.refusal.CommandRefusal.TheVariants.{Memory, CannotRead}

-- the name of an input in the line of a refusal
abbrev pub input_name : InputName → List ℕ
input_name (File name) = name.now
input_name Standard = codes "-"

-- it is standard input, and no file
abbrev pub is_standard : InputName → Bool
is_standard (File name) = false
is_standard Standard = true

-- as many texts as names, and each text is one that the input of the name at its place gives
pub record AreGiven (Gives : InputName → List ℕ → Type 0) (names : List InputName) (texts : List (List ℕ)) : Type 0 where
  pub count : length texts ≡ length names
  pub each : (i : ℕ) (name : InputName) (text : List ℕ) → slice_get names i ≡ Some name → slice_get texts i ≡ Some text → Gives name text

-- the refusal is that the input of this name can't be read, or that memory ran out
abbrev pub IsUnread : List ℕ → CommandRefusal → Type 0
IsUnread name Memory = Unit {0}
IsUnread name (CannotRead file) = file.now ≡ name
IsUnread name refusal = ⊥

-- the same of one of some inputs
abbrev pub IsUnreadAmong : List InputName → CommandRefusal → Type 0
IsUnreadAmong names Memory = Unit {0}
IsUnreadAmong names (CannotRead file) = (i : ℕ) × (i < length names) × (file.now ≡ input_name (get_or names i Standard))
IsUnreadAmong names refusal = ⊥
