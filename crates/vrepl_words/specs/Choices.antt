-- What the flags of a subcommand choose (this profile).
use Rattle.std.specs.Prelude.{if◌then◌else◌, List, codes}
use Rattle.clap.specs.Words.{Row}
use Rattle.vrepl_choices.specs.declared.feed_form.FeedForm.{FeedForm}
use Rattle.vrepl_choices.specs.declared.feed_form.FeedForm.TheVariants.{Bytes, Hex}
use Rattle.vrepl_choices.specs.declared.report_form.ReportForm.{ReportForm}
use Rattle.vrepl_choices.specs.declared.report_form.ReportForm.TheVariants.{Lines, Json}
use Rattle.vrepl_choices.specs.declared.threading.Threading.{Threading}
use Rattle.vrepl_choices.specs.declared.threading.Threading.TheVariants.{Alone, Parallel}
use Rattle.vrepl_words.specs.Arguments.{is_given}
use Rattle.vrepl_words.specs.declared.choices.Telling.{Telling}
use Rattle.vrepl_words.specs.declared.choices.Telling.TheVariants.{OnTerminal, Always, Never}

-- with `--hex` feeds are hexadecimal text
abbrev pub feed_form_given : List Row → FeedForm
feed_form_given given = if is_given (codes "hex") given then Hex else Bytes

-- with `--alone` streams run one after another
abbrev pub threading_given : List Row → Threading
threading_given given = if is_given (codes "alone") given then Alone else Parallel

-- with `--json` a report is one object of JSON
abbrev pub report_form_given : List Row → ReportForm
report_form_given given = if is_given (codes "json") given then Json else Lines

-- with `--quiet` a command never tells how far it is, else with `--progress` always
abbrev pub telling_given : List Row → Telling
telling_given given = if is_given (codes "quiet") given then Never else (if is_given (codes "progress") given then Always else OnTerminal)
