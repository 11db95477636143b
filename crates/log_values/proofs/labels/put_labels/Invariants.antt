use Rattle.std.proofs.Common.{◌≡◌, ◌++◌, ℕ, List, [], length, drop, map}
use Rattle.log_values.specs.Comma.{comma_bytes}
use Rattle.log_values.specs.Labels.{labels_text}
use Rattle.log_values.proofs.labels.put_labels.Given as goal

-- what is written so far, behind what was there, and the labels to come are all of them
abbrev pub invariant-loop-label : goal.invariant-loop-label
invariant-loop-label l =
    (length l.fn.out.items ≡ l.begin) × ((written : List ℕ) × (l.out.items ≡ l.fn.out.items ++ written)
    × (labels_text (comma_bytes l.comma) written (map (λ b. b.now) (drop l.label-index l.labels)) l.left ≡ labels_text (comma_bytes l.comma) [] (map (λ b. b.now) l.labels) l.fn.n))
