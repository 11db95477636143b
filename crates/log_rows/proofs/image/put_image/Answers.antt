use Rattle.std.proofs.Common.{◌≡◌, ◌<◌, ◌≤◌, ℕ, List, length, map, take, drop, sym, ap, ◌∙◌, arith}
use Rattle.log_tables.specs.Column.{ColumnValue, column_value}
use Rattle.log_rows.specs.Image.{bits_size, cells_at, image_at}
use Rattle.log_rows.proofs.RowLaws.{size_seen, image-cut, image-whole}
use Rattle.log_rows.proofs.image.put_image.Goals as goal

pub returns-then-bytes-size : goal.returns-then-bytes-size
returns-then-bytes-size c =
    let size = size_seen column_value c.args.columns.now c.bits_size-size.result c.bits_size-size.ensures in
    let less : length c.args.bytes.now < bits_size (length (map column_value c.args.columns.now)) = omega (arith, size) in
    image-cut (map column_value c.args.columns.now) c.args.bytes.now less

pub returns : goal.returns
returns c =
    let columns : List ColumnValue = map column_value c.args.columns.now in
    let bytes = c.args.bytes.now in
    let size = size_seen column_value c.args.columns.now c.bits_size-size.result c.bits_size-size.ensures in
    let le : bits_size (length columns) ≤ length bytes = omega (arith, size) in
    let front : c.split_at.result.0.now ≡ take (bits_size (length columns)) bytes = c.split_at.ensures.front ∙ ap (λ (k : ℕ). take k bytes) size in
    let back : c.split_at.result.1.now ≡ drop (bits_size (length columns)) bytes = c.split_at.ensures.back ∙ ap (λ (k : ℕ). drop k bytes) size in
    let whole : image_at columns bytes ≡ cells_at c.split_at.result.0.now 0 columns c.split_at.result.1.now = image-whole columns bytes le
    ∙ ap (λ (xs : List ℕ). cells_at xs 0 columns (drop (bits_size (length columns)) bytes)) (sym front) ∙ ap (λ (xs : List ℕ). cells_at c.split_at.result.0.now 0 columns xs) (sym back) in
    rw whole c.put_cells.ensures
