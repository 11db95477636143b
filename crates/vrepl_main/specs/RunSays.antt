-- What `run` writes, by what the workflow and the feeds say where they can be read, without a fault (this profile).
use Rattle.std.specs.Prelude.{◌≡◌, ℕ, List, map, Some}
use Rattle.printing.specs.Printing.{Written, IsWritten}
use Rattle.vrepl_choices.specs.UntilValue.{until_value}
use Rattle.run_says.specs.RunIsRight.{RunIsRight}
use Rattle.vrepl_main.specs.HexText.{feed_bytes}
use Rattle.vrepl_main.specs.InputList.{bytes_of}
use Rattle.vrepl_main.specs.declared.named_inputs.RunInputs.{RunInputs}

-- the feeds' bytes, decoded where they are given as hexadecimal text, say a text, and just this was written
abbrev pub WritesSaid : RunInputs → Written → Written → Type 0
WritesSaid inputs old new =
    (feeds : List (List ℕ)) × (map (feed_bytes inputs.feed_form) (bytes_of inputs.feeds.items) ≡ map Some feeds)
    × (text : List ℕ) × RunIsRight inputs.workflow.items feeds (map until_value inputs.until.now) text × IsWritten old new text
