-- What the words of the command line ask for. `clap` reads words by its own rules; here are the program's
-- command and what words mean under it (this profile).
pub mod Check
pub mod Compact
pub mod Explain
pub mod Feed
pub mod Follow
pub mod Join
pub mod Live
pub mod Resume
pub mod Run
pub mod Save
pub mod Show
pub mod Status
pub mod Step
pub mod Tiles
pub mod Transcribe
pub mod Vdiff
use Rattle.std.specs.Prelude.{◌∷◌, [], List, Option, codes, false, find, map, option_and_then, true}
use Rattle.std.specs.Str.{bytes_eq}
use Rattle.clap.specs.Kinds.{Kinds, or_else}
use Rattle.clap.specs.Simple.{new_shape}
use Rattle.clap.specs.Words.{App, Row, Text, fault_of, subcommand_of}
use Rattle.vrepl_words.specs.Subcommand.{Subcommand, asking, range_fault, shape_of_subcommand}
use Rattle.vrepl_words.specs.commands.Check.{CheckValue, check_subcommand, check_value}
use Rattle.vrepl_words.specs.commands.Compact.{CompactValue, compact_subcommand, compact_value}
use Rattle.vrepl_words.specs.commands.Explain.{ExplainValue, explain_subcommand, explain_value}
use Rattle.vrepl_words.specs.commands.Feed.{FeedValue, feed_subcommand, feed_value}
use Rattle.vrepl_words.specs.commands.Follow.{FollowValue, follow_subcommand, follow_value}
use Rattle.vrepl_words.specs.commands.Join.{JoinValue, join_subcommand, join_value}
use Rattle.vrepl_words.specs.commands.Live.{LiveValue, live_subcommand, live_value}
use Rattle.vrepl_words.specs.commands.Resume.{ResumeValue, resume_subcommand, resume_value}
use Rattle.vrepl_words.specs.commands.Run.{RunValue, run_subcommand, run_value}
use Rattle.vrepl_words.specs.commands.Save.{SaveValue, save_subcommand, save_value}
use Rattle.vrepl_words.specs.commands.Show.{ShowValue, show_subcommand, show_value}
use Rattle.vrepl_words.specs.commands.Status.{StatusValue, status_subcommand, status_value}
use Rattle.vrepl_words.specs.commands.Step.{StepValue, step_subcommand, step_value}
use Rattle.vrepl_words.specs.commands.Tiles.{TilesValue, tiles_subcommand, tiles_value}
use Rattle.vrepl_words.specs.commands.Transcribe.{TranscribeValue, transcribe_subcommand, transcribe_value}
use Rattle.vrepl_words.specs.commands.Vdiff.{VdiffValue, vdiff_subcommand, vdiff_value}
use Rattle.vrepl_words.specs.declared.commands.Words.{Words}
use Rattle.vrepl_words.specs.declared.commands.Words.TheVariants as words

-- what words ask for
pub data WordsValue : Type 0 where
  asks_show : ShowValue → WordsValue
  asks_step : StepValue → WordsValue
  asks_run : RunValue → WordsValue
  asks_save : SaveValue → WordsValue
  asks_resume : ResumeValue → WordsValue
  asks_join : JoinValue → WordsValue
  asks_follow : FollowValue → WordsValue
  asks_live : LiveValue → WordsValue
  asks_vdiff : VdiffValue → WordsValue
  asks_check : CheckValue → WordsValue
  asks_tiles : TilesValue → WordsValue
  asks_status : StatusValue → WordsValue
  asks_compact : CompactValue → WordsValue
  asks_transcribe : TranscribeValue → WordsValue
  asks_feed : FeedValue → WordsValue
  asks_explain : ExplainValue → WordsValue

-- what was read of the words, without its references
abbrev pub value_of_words : Words → WordsValue
value_of_words (words.Show show) = asks_show (show_value show)
value_of_words (words.Step step) = asks_step (step_value step)
value_of_words (words.Run run) = asks_run (run_value run)
value_of_words (words.Save save) = asks_save (save_value save)
value_of_words (words.Resume resume) = asks_resume (resume_value resume)
value_of_words (words.Join join) = asks_join (join_value join)
value_of_words (words.Follow follow) = asks_follow (follow_value follow)
value_of_words (words.Live live) = asks_live (live_value live)
value_of_words (words.Vdiff vdiff) = asks_vdiff (vdiff_value vdiff)
value_of_words (words.Check check) = asks_check (check_value check)
value_of_words (words.Tiles tiles) = asks_tiles (tiles_value tiles)
value_of_words (words.Status status) = asks_status (status_value status)
value_of_words (words.Compact compact) = asks_compact (compact_value compact)
value_of_words (words.Transcribe transcribe) = asks_transcribe (transcribe_value transcribe)
value_of_words (words.Feed feed) = asks_feed (feed_value feed)
value_of_words (words.Explain explain) = asks_explain (explain_value explain)

-- the subcommands, in the order of the help
abbrev pub subcommands : List (Subcommand WordsValue)
subcommands =
    asking asks_show show_subcommand
    ∷ asking asks_step step_subcommand
    ∷ asking asks_run run_subcommand
    ∷ asking asks_vdiff vdiff_subcommand
    ∷ asking asks_save save_subcommand
    ∷ asking asks_resume resume_subcommand
    ∷ asking asks_join join_subcommand
    ∷ asking asks_follow follow_subcommand
    ∷ asking asks_live live_subcommand
    ∷ asking asks_check check_subcommand
    ∷ asking asks_tiles tiles_subcommand
    ∷ asking asks_status status_subcommand
    ∷ asking asks_compact compact_subcommand
    ∷ asking asks_transcribe transcribe_subcommand
    ∷ asking asks_feed feed_subcommand
    ∷ asking asks_explain explain_subcommand
    ∷ []

-- the program's command: the words behind its name are a subcommand's, or `help` and the name of one, or ask for
-- the program's version
unfoldable pub program_app : App
program_app = record {
  top = record (new_shape (codes "vrepl")) {
    is_leaf = false;
    no_binary_name = true;
    has_version = true;
    subcommand_required = true;
  };
  subs = map shape_of_subcommand subcommands;
}

-- what is asked for by the name of a subcommand and what is given to its arguments, if something is
unfoldable pub asked_by : Option (Text × List Row) → Option WordsValue
asked_by met = option_and_then (λ m. option_and_then (λ sub. sub.meaning m.1) (find (λ sub. bytes_eq m.0 sub.name) subcommands)) met

-- no words are `show --hex -`: hexadecimal text on standard input
abbrev pub words_or_default : List Text → List Text
words_or_default [] = codes "show" ∷ codes "--hex" ∷ codes "-" ∷ []
words_or_default (word ∷ words) = word ∷ words

-- what the words ask for, where they are taken
abbrev pub words_of : List Text → Option WordsValue
words_of words = asked_by (subcommand_of program_app (words_or_default words))

-- the faults that `clap` finds in the words, one of which the error has, or else that of a number; none where they
-- are taken
abbrev pub faults_of : List Text → Kinds
faults_of words = or_else (fault_of program_app (words_or_default words)) (range_fault (words_of words))
