use Rattle.std.proofs.Common.{◌≡◌, ◌∙◌, sym, ℕ, map, rules, tests}
use Rattle.std.proofs.lemmas.List.{map-id}
use Rattle.std.proofs.lemmas.Result.{IfOk-weaker}
use Rattle.std.proofs.lemmas.Iterator.Consumers.{map_from_collect, YieldsList-from_filter_map}
use Rattle.std.proofs.lemmas.Iterator.Splits.{YieldsList-from_slice_split}
use Rattle.vrepl_words.specs.Arguments.{is_comma, stream_number_of, streams_of}
use Rattle.vrepl_words.proofs.streams.streams_of.Goals as goal

pub returns : goal.returns
returns c =
    IfOk-weaker c.collect.result (λ made. map (λ (s : ℕ). s) made.items ≡ streams_of c.args.text.now) _ (λ made same. sym (map-id made.items) ∙ same)
    (map_from_collect _ c.collect.ensures.ran
    (YieldsList-from_filter_map _ stream_number_of
    (YieldsList-from_slice_split _ is_comma c.args.text.now (cc) (cc) (cc) (λ x r q k. search (rules, tests)))
    c.filter_map.ensures.closure (λ x r q k. search (rules, tests))))
