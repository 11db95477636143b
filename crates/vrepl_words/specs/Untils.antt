-- Up to which positions feeds are read, as `--until` gives them (this profile).
use Rattle.std.specs.Prelude.{ℕ, ◌==◌, nat_lt, is_some, if◌then◌else◌, Bool, List, length, Option, None, Some, option_map}
use Rattle.std.specs.List.{after_first, before_first, filter_map, list_all, position_or_len}
use Rattle.clap.specs.Words.{Row, Text}
use Rattle.vrepl_choices.specs.UntilValue.{UntilValue}
use Rattle.vrepl_words.specs.Arguments.{stream_number_of, texts_given}

-- an `=` parts a stream from its position
abbrev pub is_equals : ℕ → Bool
is_equals b = b == 61

-- a position of a stream's feed
abbrev pub of_stream : Text → ℕ → UntilValue
of_stream position s = record { stream = Some s; position = position }

-- a position of each feed
abbrev pub of_each : Text → UntilValue
of_each position = record { stream = None; position = position }

-- S=POSITION is of the stream S, which is a number of 0 to 63, and a text without an `=` of each
abbrev pub until_of : Text → Option UntilValue
until_of text =
    if nat_lt (position_or_len is_equals text) (length text)
    then option_map (of_stream (after_first is_equals text)) (stream_number_of (before_first is_equals text))
    else Some (of_each text)

-- whether each text that was given is such a one
abbrev pub gives_untils : Text → List Row → Bool
gives_untils name rows = list_all (λ text. is_some (until_of text)) (texts_given name rows)

-- those that were given
abbrev pub untils_given : Text → List Row → List UntilValue
untils_given name rows = filter_map until_of (texts_given name rows)
