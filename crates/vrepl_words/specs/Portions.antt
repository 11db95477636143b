-- In what portions a stream is run (this profile).
use Rattle.std.specs.Prelude.{if◌then◌else◌, List, Option, ℕ, codes, is_some, option_and_then, option_map}
use Rattle.clap.specs.Words.{Row, Text}
use Rattle.vrepl_words.specs.Arguments.{portion_given}
use Rattle.vrepl_words.specs.declared.numbers.TheConstants.{AHEAD, CHUNKS, ROWS}
use Rattle.vrepl_words.specs.declared.portions.Portions.{Portions}

-- in what portions a stream is run
pub record PortionsValue : Type 0 where
  pub rows : ℕ
  pub ahead : ℕ
  pub chunks : ℕ

-- what was read of them
abbrev pub portions_value : Portions → PortionsValue
portions_value portions = record { rows = portions.rows; ahead = portions.ahead; chunks = portions.chunks }

-- the portions that are given; 1000 rows, 100 groups ahead and 4 chunks for those that aren't
abbrev pub portions_given : List Row → Option PortionsValue
portions_given given =
    option_and_then (λ rows. option_and_then (λ ahead. option_map (λ chunks. record { rows = rows; ahead = ahead; chunks = chunks })
    (portion_given 4 (codes "chunks") given)) (portion_given 100 (codes "ahead") given)) (portion_given 1000 (codes "rows") given)

-- what is told of the first portion that is none
abbrev pub bad_portion : List Row → Text
bad_portion given =
    if is_some (portion_given 1000 (codes "rows") given) then (if is_some (portion_given 100 (codes "ahead") given) then CHUNKS.now else AHEAD.now) else ROWS.now
