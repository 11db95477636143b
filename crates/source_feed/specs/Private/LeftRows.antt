-- What a touch leaves at its key, as it is kept.
use Rattle.std.specs.Prelude.{true, false, Option, None, Some}
use Rattle.source_feed.specs.Touches.{PutValue}
use Rattle.source_feed.specs.declared.touch.Left.{Left}
use Rattle.source_feed.specs.declared.touch.Left.TheVariants.{Nothing, Passing, Failing}

-- the row that is put, and whether it passes
abbrev pub left_value : Left → Option PutValue
left_value Nothing = None
left_value (Passing row) = Some (record { row = row; passes = true })
left_value (Failing row) = Some (record { row = row; passes = false })
