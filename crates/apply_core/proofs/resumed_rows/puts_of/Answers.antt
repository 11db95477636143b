use Rattle.std.proofs.Common.{◌∙◌, ◌++◌, ◌∷◌, [], Some, sym, ap₂}
use Rattle.std.proofs.lemmas.List.{map-append}
use Rattle.source_feed.specs.History.{RowValue}
use Rattle.apply_core.specs.Private.Changes.{put_row}
use Rattle.apply_core.proofs.resumed_rows.puts_of.Goals as goal

pub loop-key-preserved : goal.loop-key-preserved
loop-key-preserved c =
    c.in_ok-push.ensures.items ∙ ap₂ (λ puts (row : RowValue). puts ++ (c.in-Some.key, Some row) ∷ []) c.loop-key.invariant c.in_ok-from_bytes.ensures ∙ sym (map-append put_row c.loop-key.yielded ((c.in-Some.key, c.in-Some.row) ∷ []))
