use Rattle.std.proofs.Common.{ℕ, List}
use Rattle.std.specs.Str.{bytes_eq}
use Rattle.std.proofs.lemmas.Map.Text.{hash_map_updates_str}
use Rattle.indexmap.specs.IndexMap.{get_by}
use Rattle.show_json.specs.Private.Kept.{told_in}
use Rattle.show_json.proofs.ColumnLaws.{told-kept, told-still}
use Rattle.show_json.proofs.columns.FeedColumns.put.Goals as goal

pub returns-in-None : goal.returns-in-None
returns-in-None c = λ name. told-still c.args.table.now name c.args.columns.fields (told_in c.args.self.now) (rw c.in-None.is at c.in_ok-judged.ensures)

pub returns-in_ok-insert-in-Some : goal.returns-in_ok-insert-in-Some
returns-in_ok-insert-in-Some c = λ name.
    told-kept c.args.table.now name c.args.columns.fields _ (λ (n : List ℕ). get_by (λ key. bytes_eq n key.now) c.args.self.now.tables) _ (rw c.in-Some.is at c.in_ok-judged.ensures)
    (hash_map_updates_str c.args.table.now c.args.self.now.tables c.insert.new.self _ c.in_ok-insert-in-Some.ensures.updates name)
