use Rattle.std.proofs.Common.{◌∷◌, drop, false, map}
use Rattle.serde_json.specs.View.{items_of}
use Rattle.serde_json.specs.Written.{items_text}
use Rattle.json_pieces.specs.Telling.{IsToldUpTo, at}
use Rattle.live_json.specs.Answers.{table_counts_data}
use Rattle.live_json.specs.Private.Parts.{counts_value}
use Rattle.live_json.proofs.counts.put_tables.Given as goal

-- what is told and what is left are the whole
abbrev pub invariant-loop-table : goal.invariant-loop-table
invariant-loop-table g l =
    IsToldUpTo (at (g.O.Out.written l.fn.out) l.fn.line) (at (g.O.Out.written l.out) l.line) (91 ∷ items_text false (items_of (map table_counts_data (map counts_value l.tables))))
    (items_text l.later (items_of (map table_counts_data (map counts_value (drop l.table-index l.tables)))))
