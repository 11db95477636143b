-- How a command ends, and what one that prints a text, or refuses, leaves on its writers (this profile).
use Rattle.std.specs.Prelude.{◌≡◌, ◌⊎◌, ℕ, List, Result, Ok, Err, codes}
use Rattle.printing.specs.Printing.{Written, IsWritten, BreaksOff}
use Rattle.vrepl_main.specs.Printing.{PrintsOrBreaks}
use Rattle.vrepl_main.specs.Reasons.{Reason, RefusesInputs}
use Rattle.vrepl_main.specs.Refusals.{refusal_line}
use Rattle.vrepl_main.specs.declared.refusal.CommandRefusal.{CommandRefusal}
use Rattle.vrepl_main.specs.declared.refusal.CommandRefusal.TheVariants.{CannotWrite}

-- ---- a status

-- how a command ends by its status, which is one of these: 0 behind what it prints, 3 behind the same where it found what it
-- looks for, 1 behind a refusal
pub record Ends (status : ℕ) (Prints Finds Refuses : Type 0) : Type 0 where
  pub is_one : (status ≡ 0) ⊎ (status ≡ 1) ⊎ (status ≡ 3)
  pub printed : status ≡ 0 → Prints
  pub found : status ≡ 3 → Finds
  pub refused : status ≡ 1 → Refuses

-- ---- a text

-- there is a text, and it was printed whole
abbrev pub PrintsWhole : Result (List ℕ) Reason → Written → Written → Type 0
PrintsWhole (Ok text) old new = IsWritten old new text
PrintsWhole (Err reason) old new = ⊥

-- the text is the one that is given
abbrev pub IsGivenText : List ℕ → List ℕ → Type 0
IsGivenText given text = text ≡ given

-- ---- refusals

-- standard output, `-`, can't be written
abbrev pub IsUnwritten : CommandRefusal → Type 0
IsUnwritten (CannotWrite file) = file.now ≡ codes "-"
IsUnwritten refusal = ⊥

-- the inputs give something, and a beginning of such a text of it was printed, and then a write failed
abbrev pub BreaksOffIn : {X : Type 0} → (X → List ℕ → Type 0) → Result X Reason → Written → Written → Type 0
BreaksOffIn IsText (Ok given) old new = (text : List ℕ) × IsText given text × BreaksOff old new text
BreaksOffIn IsText (Err reason) old new = ⊥

-- a refusal is that standard output can't be written, and then a write of it failed; any other leaves it as it was and
-- says just why there is nothing to be had of the inputs, unless memory ran out
abbrev pub RefusesCommand : {X : Type 0} → (X → List ℕ → Type 0) → CommandRefusal → Result X Reason → Written → Written → Type 0
RefusesCommand IsText (CannotWrite file) reading old new = (file.now ≡ codes "-") × BreaksOffIn IsText reading old new
RefusesCommand IsText refusal reading old new = RefusesInputs refusal reading × (new ≡ old)

-- such a refusal's line was printed whole on standard error, unless a write of it failed
abbrev pub PrintsRefusal : {X : Type 0} → (X → List ℕ → Type 0) → Result X Reason → Written → Written → Written → Written → Type 0
PrintsRefusal IsText reading old new err_old err_new = (refusal : CommandRefusal) × RefusesCommand IsText refusal reading old new × PrintsOrBreaks err_old err_new (refusal_line refusal)

-- ---- a command that prints a text

-- what trying to print the text leaves on standard output: the whole text, or what a refusal leaves there
abbrev pub PrintsText : {X : Type 0} → Result X CommandRefusal → Result (List ℕ) Reason → Written → Written → Type 0
PrintsText (Ok x) reading old new = PrintsWhole reading old new
PrintsText (Err refusal) reading old new = RefusesCommand IsGivenText refusal reading old new

-- how such a command ends; it looks for nothing
abbrev pub TextEnds : Result (List ℕ) Reason → ℕ → Written → Written → Written → Written → Type 0
TextEnds reading status old new err_old err_new = Ends status (PrintsWhole reading old new) ⊥ (PrintsRefusal IsGivenText reading old new err_old err_new)
