use Rattle.std.proofs.Common.{◌≡◌, ◌∙◌, Option, Some, codes, refl, sym}
use Rattle.vindex.specs.Bounds.{Bounds, whole}
use Rattle.vindex.specs.RangeText.{key_range_of_text}
use Rattle.tiles_said.proofs.shares.whole_range.Goals as goal

whole_text : key_range_of_text (codes "0") ≡ Some whole
unfolding key_range_of_text
whole_text = refl

same : (one other : Bounds) (read : Option Bounds) → read ≡ Some one → read ≡ Some other → one ≡ other
same one other read is_one is_other = cc

pub returns-in-Ok : goal.returns-in-Ok
returns-in-Ok c = same c.in-Ok.range whole (key_range_of_text (codes "0")) c.in-Ok.ensures.read whole_text
