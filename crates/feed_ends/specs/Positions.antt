-- Which position is given for which feed (this profile).
use Rattle.std.specs.Prelude.{ℕ, ◌==◌, nat_lt, Bool, true, if◌then◌else◌, List, [], ◌∷◌, Option, Some, None, Result, Ok, Err}
use Rattle.std.specs.List.{list_all}
use Rattle.std.specs.Option.{option_map_or, option_or}
use Rattle.list_laws.specs.Outcome.{each}
use Rattle.gtid_set.specs.declared.fault.GtidFault.{GtidFault}
use Rattle.gtid_set.specs.declared.interval.Interval.{Interval}
use Rattle.gtid_set.specs.Text.{position_of_text}
use Rattle.source_feed.specs.GroupValue.{Position}
use Rattle.vrepl_choices.specs.UntilValue.{UntilValue}
use Rattle.feed_ends.specs.Faults.{EndReason, bad_position}
use Rattle.feed_ends.specs.declared.end.End.{End}

-- what is given for a stream, or for each, is for this one
abbrev pub is_of : ℕ → Option ℕ → Bool
is_of s stream = option_map_or (λ t. t == s) stream true

-- ---- texts

-- the text for a stream: the last that is given for it or for each
abbrev pub text_for : ℕ → List UntilValue → Option (List ℕ)
text_for s [] = None
text_for s (until ∷ later) = option_or (text_for s later) (if is_of s until.stream then Some until.position else None)

-- what is given is for a stream that is there
abbrev pub names_one_of : ℕ → UntilValue → Bool
names_one_of count until = option_map_or (λ t. nat_lt t count) until.stream true

abbrev pub name_some_of : ℕ → List UntilValue → Bool
name_some_of count untils = list_all (names_one_of count) untils

-- ---- positions

abbrev pub end_of : Option ℕ → Result (List Interval) GtidFault → Result End EndReason
end_of stream (Ok position) = Ok (record { stream = stream; position = position })
end_of stream (Err fault) = Err (bad_position fault)

-- a text as its position
abbrev pub read_end : UntilValue → Result End EndReason
read_end until = end_of until.stream (position_of_text until.position)

-- all texts, up to the first that is none of a position
abbrev pub read_ends : List UntilValue → Result (List End) EndReason
read_ends untils = each read_end untils

-- the position for a stream: the last that is given for it or for each
abbrev pub position_for : ℕ → List End → Option Position
position_for s [] = None
position_for s (end ∷ later) = option_or (position_for s later) (if is_of s end.stream then Some end.position else None)
