-- The lines of refusals (this profile).
use Rattle.std.specs.Prelude.{ℕ, List, [], ◌∷◌, ◌++◌, codes, decimal}
use Rattle.feed_text.specs.declared.fault.TextFault.{TextFault}
use Rattle.vrepl_main.specs.Refusals.{refusal_line}
use Rattle.vrepl_feed.specs.declared.refusal.Unfed.{Unfed}
use Rattle.vrepl_feed.specs.declared.refusal.Unfed.TheVariants as refusal

-- that of a text that is no feed's: its line, and the byte of it
abbrev pub text_line : TextFault → List ℕ
text_line fault = (codes "refused 133 line " ++ decimal fault.line) ++ (codes " column " ++ decimal fault.column) ++ 10 ∷ []

abbrev pub unfed_line : Unfed → List ℕ
unfed_line (refusal.Given given) = refusal_line given
unfed_line (refusal.Text fault) = text_line fault
