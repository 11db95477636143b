-- How `tiles` ends, by what was said.
use Rattle.std.proofs.Common.{◌≡◌, ℕ, List, map, true, false}
use Rattle.printing.specs.Printing.{Written}
use Rattle.tiles_said.specs.Printed.{PrintsSaid, EndsSo}
use Rattle.tiles_said.specs.Said.{SaidValue, IsSaid}
use Rattle.tiles_said.specs.Sources.{file_in}
use Rattle.tiles_said.specs.declared.printed.TilesEnd.{TilesEnd}
use Rattle.tiles_said.specs.declared.printed.TilesEnd.TheVariants.{Fine, Warned, Refused, Unwritten}

pub ends_said : (names texts : List (List ℕ)) (said : SaidValue) (end : TilesEnd) (old new : Written) → IsSaid names (map file_in texts) said → PrintsSaid said end old new → EndsSo names texts end old new
ends_said names texts said Fine old new is prints = (said, is, prints)
ends_said names texts said Warned old new is prints = (said, is, prints)
ends_said names texts said (Refused fault) old new is prints = absurd prints
ends_said names texts said Unwritten old new is prints = (said, is, prints)

pub quiet_end : (said : SaidValue) (end : TilesEnd) (old new : Written) → PrintsSaid said end old new → end ≡ Fine → said.told ≡ false
quiet_end said Fine old new prints is = prints.0
quiet_end said Warned old new prints is = cc
quiet_end said (Refused fault) old new prints is = absurd prints
quiet_end said Unwritten old new prints is = cc
