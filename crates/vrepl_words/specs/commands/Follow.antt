-- The words of `follow` (this profile).
use Rattle.std.specs.Prelude.{◌∷◌, if◌then◌else◌, [], Bool, List, None, Option, ℕ, codes, is_some, option_map}
use Rattle.clap.specs.Words.{Row, Text, first_of}
use Rattle.vrepl_words.specs.Arguments.{flag_rule, further_rule, gives_streams, is_given, needed_rule, operand_rule, operands_rule, option_rule, streams_given, text_given}
use Rattle.vrepl_words.specs.Portions.{PortionsValue, bad_portion, portions_given}
use Rattle.vrepl_words.specs.Subcommand.{Subcommand}
use Rattle.vrepl_words.specs.commands.Run.{RunValue, bad_run, run_given, run_numbers, run_value}
use Rattle.vrepl_words.specs.declared.commands.follow.Follow.{Follow}
use Rattle.vrepl_words.specs.declared.commands.follow.TheConstants.{ONLY}

-- `follow`: what `run` is given, whether the rows are printed too, the streams that are run alone, if some are named, the
-- checkpoint to go on from, if there is one, and the file of the new one
pub record FollowValue : Type 0 where
  pub run : RunValue
  pub dump : Bool
  pub only : Option (List ℕ)
  pub checkpoint : Option Text
  pub save_to : Text

-- what was read of them, without its references
abbrev pub follow_value : Follow → FollowValue
follow_value follow = record {
  run = run_value follow.run;
  dump = follow.dump;
  only = option_map (λ streams. streams.items) follow.only;
  checkpoint = option_map (λ name. name.now) follow.checkpoint;
  save_to = follow.save_to.now;
}

-- what is given to the arguments of `follow`
abbrev pub follow_given : List Row → PortionsValue → FollowValue
follow_given given portions = record {
  run = run_given given portions;
  dump = is_given (codes "dump") given;
  only = streams_given (codes "only") given;
  checkpoint = first_of (codes "checkpoint") given;
  save_to = text_given (codes "save-to") given;
}

-- the portions, as `run` takes them, where the streams that are run alone are streams too
abbrev pub follow_numbers : List Row → Option PortionsValue
follow_numbers given = if gives_streams (codes "only") given then run_numbers given else None

-- `follow [--hex] [--alone] [--progress] [--quiet] [--dump] [--rows N] [--ahead N] [--chunks N] [--until TEXT].. [--only S,..] [--checkpoint TEXT] --save-to TEXT WORKFLOW FEED..`
abbrev pub follow_subcommand : Subcommand FollowValue
follow_subcommand = record {
  name = codes "follow";
  rules = flag_rule (codes "hex") ∷ flag_rule (codes "alone") ∷ flag_rule (codes "progress") ∷ flag_rule (codes "quiet") ∷ flag_rule (codes "dump") ∷ option_rule (codes "rows") ∷ option_rule (codes "ahead") ∷ option_rule (codes "chunks") ∷ further_rule (codes "until") ∷ option_rule (codes "only") ∷ option_rule (codes "checkpoint") ∷ needed_rule (codes "save-to")
      ∷ operand_rule (codes "workflow") ∷ operands_rule (codes "feed") ∷ [];
  meaning = λ given. option_map (follow_given given) (follow_numbers given);
}

-- what is told of the first number of `follow` that is none
abbrev pub bad_follow : List Row → Text
bad_follow given = if gives_streams (codes "only") given then bad_run given else (if is_some (portions_given given) then ONLY.now else bad_portion given)
