-- How `status` ends, by what is said.
use Rattle.std.proofs.Common.{◌≡◌, ℕ, List, Result, Ok}
use Rattle.printing.specs.Printing.{Written}
use Rattle.status_said.specs.Printed.{PrintsText, EndsSo}
use Rattle.status_said.specs.declared.printed.StatusEnd.{StatusEnd}
use Rattle.status_said.specs.declared.printed.StatusEnd.TheVariants.{Printed, Broken, Memory, Unwritten}

pub ends_text : (said : Result (List ℕ) ℕ) (text : List ℕ) (end : StatusEnd) (old new : Written) → said ≡ Ok text → PrintsText text end old new → EndsSo said end old new
ends_text said text Printed old new is prints = (text, is, prints)
ends_text said text (Broken file) old new is prints = absurd prints
ends_text said text Memory old new is prints = absurd prints
ends_text said text Unwritten old new is prints = (text, is, prints)
