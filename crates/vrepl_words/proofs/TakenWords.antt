-- Words that the program's command takes, and their faults.
use Rattle.std.proofs.Common.{◌≡◌, ap, ap₂, refl, sym, inl, inr, true, false, List, [], ◌∷◌, Some, map, length, ◌==◌, codes}
use Rattle.clap.specs.Words.{App, Text, fault_of, is_simple, is_simple_and_free, subcommand_of}
use Rattle.clap.specs.Kinds.{HasKind, Kinds, or_else}
use Rattle.clap.specs.declared.error.Error.{Error}
use Rattle.clap.proofs.SimpleLemmas.{is_nil}
use Rattle.clap.proofs.OnLiterals.{clap_on_literals}
use Rattle.vrepl_choices.specs.declared.feed_form.FeedForm.TheVariants.{Hex}
use Rattle.vrepl_choices.specs.declared.report_form.ReportForm.TheVariants.{Lines}
use Rattle.vrepl_words.specs.commands.{asked_by, asks_show, faults_of, program_app, words_or_default, words_of}

pub simple : is_simple program_app ≡ true
unfolding program_app
simple = refl

pub simple_and_free : is_simple_and_free program_app ≡ true
unfolding program_app
simple_and_free = refl

-- ---- no words

pub no_words_asked : words_of [] ≡ Some (asks_show (record { feed_form = Hex; report_form = Lines; keyspace = []; shard = []; feed = codes "-" }))
unfolding clap_on_literals program_app asked_by
no_words_asked = refl

pub no_words_taken : faults_of [] ≡ []
unfolding clap_on_literals program_app asked_by
no_words_taken = refl

-- ---- faults

-- an error that has a kind of the first has one of both
pub first_has : (kinds next : Kinds) (fault : Error) → HasKind kinds fault → HasKind (or_else kinds next) fault
first_has [] next fault (inl memory) = inl memory
first_has [] next fault (inr among) = absurd among
first_has (kind ∷ kinds) next fault has = has

-- ---- the words as `clap` is given them

pub spelled_is : {X : Type 0} (text : X → Text) (words : List X) → (words ≡ [] → ⊥) → words_or_default (map text words) ≡ map text words
spelled_is text [] some = absurd (some refl)
spelled_is text (word ∷ words) some = refl

pub some_word : {X : Type 0} (words : List X) → false ≡ (length words == 0) → words ≡ [] → ⊥
some_word [] is none = cc
some_word (word ∷ words) is none = cc

pub no_word : {X : Type 0} (words : List X) → true ≡ (length words == 0) → words ≡ []
no_word words is = is_nil words (sym is)

pub faults_are : (app : App) (words : List Text) → app ≡ program_app → words_or_default words ≡ words → fault_of app words ≡ fault_of program_app (words_or_default words)
faults_are app words is same = ap₂ fault_of is (sym same)

pub words_are : (app : App) (words : List Text) → app ≡ program_app → words_or_default words ≡ words → asked_by (subcommand_of app words) ≡ words_of words
words_are app words is same = ap asked_by (ap₂ subcommand_of is (sym same))
