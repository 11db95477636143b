-- A checkpoint as it is written, one stream after another.
use Rattle.std.proofs.Common.{◌≡◌, ℕ, ◌+◌, ◌<◌, ◌≤◌, List, [], ◌∷◌, ◌++◌, length, map, drop, append-nil, refl, sym, ap, ◌∙◌}
use Rattle.std.proofs.lemmas.List.{drop_all}
use Rattle.list_laws.proofs.Walks.{turn}
use Rattle.vevent.specs.WrittenPart.{written_stream_part}
use Rattle.board_laws.specs.Meaning.{State, TargetRows}
use Rattle.checkpoint_laws.specs.declared.version.Version.TheVariants.{Two}
use Rattle.checkpoint_laws.specs.Saved.{saved_stream, saved_from}
use Rattle.checkpoint_laws.specs.Written.{stream_part, stream_parts, framed, written_parts}
use Rattle.apply_core.specs.Private.Saving.{parts_from}

-- ---- the parts of streams

pub parts_turn : (rows : TargetRows) (streams : List State) (s : ℕ) (out new whole : List ℕ) (state : State) → s < length streams → drop s streams ≡ state ∷ drop (s + 1) streams
    → new ≡ out ++ framed (written_stream_part (stream_part Two state.plan (saved_stream s state rows)))
    → out ++ written_parts (parts_from s (drop s streams) rows) ≡ whole → new ++ written_parts (parts_from (s + 1) (drop (s + 1) streams) rows) ≡ whole
parts_turn rows streams s out new whole state less at made is =
    let one : List ℕ = framed (written_stream_part (stream_part Two state.plan (saved_stream s state rows))) in
    let more : List ℕ = written_parts (parts_from (s + 1) (drop (s + 1) streams) rows) in
    ap (λ (xs : List ℕ). xs ++ more) made
    ∙ turn out more whole one (written_parts (parts_from s (drop s streams) rows)) is (ap (λ (xs : List State). written_parts (parts_from s xs rows)) at)

pub parts_end : (rows : TargetRows) (streams : List State) (s : ℕ) (out whole : List ℕ) → length streams ≤ s → out ++ written_parts (parts_from s (drop s streams) rows) ≡ whole → out ≡ whole
parts_end rows streams s out whole most is =
    sym (append-nil out) ∙ ap (λ (xs : List State). out ++ written_parts (parts_from s xs rows)) (sym (drop_all s streams most)) ∙ is

-- the parts of a board's streams, by its plans
pub parts_of_board : (s : ℕ) (streams : List State) (rows : TargetRows) → stream_parts Two (map (λ (state : State). state.plan) streams) (saved_from s streams rows) ≡ parts_from s streams rows
parts_of_board s [] rows = refl
parts_of_board s (state ∷ later) rows = λ i. stream_part Two state.plan (saved_stream s state rows) ∷ parts_of_board (s + 1) later rows i
