-- Texts one behind another.
use Rattle.std.proofs.Common.{◌≡◌, ◌∙◌, ℕ, List, ◌++◌, Result, Ok, Err, ap, append_assoc, codes, refl}
use Rattle.std.specs.Prelude.{OnOk}
use Rattle.checkpoint_places.specs.Stands.{CheckpointStandValue}
use Rattle.shown_text.specs.Shown.{shown}
use Rattle.status_said.specs.Lines.{checkpoint_line, version_text, streams_text}

pub behind_two : {X E : Type 0} (result : Result X E) (old between new a b : List ℕ) → between ≡ old ++ a → OnOk result (new ≡ between ++ b) → OnOk result (new ≡ old ++ (a ++ b))
behind_two (Err fault) old between new a b one two = tt
behind_two (Ok x) old between new a b one two = two ∙ ap (λ (l : List ℕ). l ++ b) one ∙ append_assoc old a b

pub behind_three : {X E : Type 0} (result : Result X E) (old one two new a b c : List ℕ) → one ≡ old ++ a → two ≡ one ++ b → OnOk result (new ≡ two ++ c) → OnOk result (new ≡ old ++ (a ++ (b ++ c)))
behind_three result old one two new a b c first second third = behind_two result old one new a (b ++ c) first (behind_two result one two new b c second third)

-- the line of a checkpoint by its parts
pub line_is : (name : List ℕ) (stand : CheckpointStandValue) → (codes "checkpoint " ++ shown name) ++ (version_text stand ++ streams_text stand) ≡ checkpoint_line name stand
unfolding checkpoint_line
line_is name stand = refl
