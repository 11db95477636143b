use Rattle.std.proofs.Common.{◌∙◌, ap}
use Rattle.std.specs.List.{filter_map}
use Rattle.vrepl_words.specs.Untils.{until_of}
use Rattle.vrepl_words.proofs.untils.untils_given.Goals as goal

pub returns : goal.returns
returns c = (rw c.deref.ensures.value at c.in_ok-untils.ensures) ∙ ap (filter_map until_of) c.in_ok-texts.ensures
