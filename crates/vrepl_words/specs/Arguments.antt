-- The arguments of a subcommand, as `clap` reads them, and what was given to one.
use Rattle.std.specs.Prelude.{ℕ, ◌^◌, ◌&&◌, nat_le, nat_lt, ◌==◌, is_some, if◌then◌else◌, Bool, true, false, List, [], Option, None, Some, codes, unwrap_or, option_and_then, option_map}
use Rattle.std.specs.Option.{option_map_or}
use Rattle.std.specs.List.{filter_map, list_all, slice_split}
use Rattle.std.specs.Str.{bytes_eq}
use Rattle.clap.specs.Lexer.{usize_max}
use Rattle.clap.specs.Words.{Row, Rule, Text, all_of, first_of, one_of, new_rule}
use Rattle.vindex.specs.NumberText.{decimal_below}
use Rattle.refusal_words.specs.Texts.{has_text}
use Rattle.clap.specs.declared.builder.action.ArgAction.TheVariants.{Append, SetTrue}

-- `--name`
abbrev pub flag_rule : Text → Rule
flag_rule name = record (new_rule name) { long = Some name; action = Some SetTrue }

-- `--name TEXT`, which may be left out
abbrev pub option_rule : Text → Rule
option_rule name = record (new_rule name) { long = Some name; value_names = 1 }

-- `--name TEXT`, which may be there several times
abbrev pub further_rule : Text → Rule
further_rule name = record (option_rule name) { action = Some Append }

-- `--name TEXT`, which has to be there
abbrev pub needed_rule : Text → Rule
needed_rule name = record (option_rule name) { required = true }

-- `TEXT` in its place, which has to be there
abbrev pub operand_rule : Text → Rule
operand_rule name = record (new_rule name) { required = true; value_names = 1 }

-- `TEXT..` in its place, once or more often
abbrev pub operands_rule : Text → Rule
operands_rule name = record (operand_rule name) { range = Some (record { start_inclusive = 1; end_inclusive = usize_max }) }

-- `TEXT` in its place, which may be left out
abbrev pub optional_rule : Text → Rule
optional_rule name = record (new_rule name) { value_names = 1 }

-- a flag was given
abbrev pub is_given : Text → List Row → Bool
is_given name rows = option_map_or (bytes_eq (codes "true")) (one_of name rows) false

-- the text that was given, or the empty one
abbrev pub text_given : Text → List Row → Text
text_given name rows = unwrap_or (first_of name rows) []

-- the texts that were given
abbrev pub texts_given : Text → List Row → List Text
texts_given name rows = unwrap_or (all_of name rows) []

-- a portion is a number of 1 to 1,000,000, in digits
abbrev pub within_range : ℕ → Option ℕ
within_range number = if nat_le 1 number && nat_le number 1000000 then Some number else None

abbrev pub portion_of : Text → Option ℕ
portion_of text = option_and_then within_range (decimal_below (2 ^ 64) text)

-- the portion that was given, or the usual one; none where what was given is no portion
abbrev pub portion_given : ℕ → Text → List Row → Option ℕ
portion_given usual name rows = option_map_or portion_of (first_of name rows) (Some usual)

-- a stream is a number of 0 to 63, in digits
abbrev pub within_streams : ℕ → Option ℕ
within_streams number = if nat_lt number 64 then Some number else None

abbrev pub stream_number_of : Text → Option ℕ
stream_number_of text = option_and_then within_streams (decimal_below (2 ^ 64) text)

-- the stream that was given, or the first one; none where what was given is no stream
abbrev pub stream_given : Text → List Row → Option ℕ
stream_given name rows = option_map_or stream_number_of (first_of name rows) (Some 0)

-- commas part streams
abbrev pub is_comma : ℕ → Bool
is_comma b = b == 44

abbrev pub are_streams : Text → Bool
are_streams text = list_all (λ part. is_some (stream_number_of part)) (slice_split is_comma text)

abbrev pub streams_of : Text → List ℕ
streams_of text = filter_map stream_number_of (slice_split is_comma text)

-- whether what was given are streams, if something was
abbrev pub gives_streams : Text → List Row → Bool
gives_streams name rows = option_map_or are_streams (first_of name rows) true

-- the streams that were given, if some were
abbrev pub streams_given : Text → List Row → Option (List ℕ)
streams_given name rows = option_map streams_of (first_of name rows)

-- a number of 1 to 1,000,000 that was given, if one was; none where what was given is none
abbrev pub count_given : Text → List Row → Option (Option ℕ)
count_given name rows = option_map_or (λ text. option_map Some (portion_of text)) (first_of name rows) (Some None)

-- a number of a refusal is one of which something is said, in digits
abbrev pub within_texts : ℕ → Option ℕ
within_texts number = if has_text number then Some number else None

abbrev pub explained_number : Text → Option ℕ
explained_number text = option_and_then within_texts (decimal_below (2 ^ 64) text)

-- the number of a refusal that was given, if one was; none where what was given is none
abbrev pub refusal_given : Text → List Row → Option (Option ℕ)
refusal_given name rows = option_map_or (λ text. option_map Some (explained_number text)) (first_of name rows) (Some None)
