use Rattle.std.proofs.Common.{ℕ, List, rules, tests}
use Rattle.std.specs.Prelude.{is_some}
use Rattle.std.proofs.lemmas.Iterator.Search.{all_from_yields_List}
use Rattle.std.proofs.lemmas.Iterator.Splits.{YieldsList-from_slice_split}
use Rattle.vrepl_words.specs.Arguments.{is_comma, stream_number_of}
use Rattle.vrepl_words.proofs.streams.are_streams.Goals as goal

pub returns : goal.returns
returns c =
    all_from_yields_List (λ (part : List ℕ). is_some (stream_number_of part)) _ _ c.all.result c.all.ensures.ran
    (YieldsList-from_slice_split _ is_comma c.args.text.now (cc) (cc) (cc) (λ x r q k. search (rules, tests)))
    (λ x b q k. search (rules, tests))
