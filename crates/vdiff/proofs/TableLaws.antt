-- Reports of tables by rising key, table after table.
use Rattle.std.proofs.Common.{◌≡◌, ℕ, zero, suc, ◌+◌, ◌<◌, List, [], ◌∷◌, ◌++◌, length, take, drop, refl, sym, ap, ◌∙◌, arith, append_assoc, get_or}
use Rattle.std.specs.Prelude.{position}
use Rattle.std.specs.Option.{unwrap_or}
use Rattle.list_laws.proofs.Walks.{at_item}
use Rattle.filter_rule.specs.PlanTable.{TableValue}
use Rattle.pk_copy.specs.KeyOrder.{key_cmp}
use Rattle.pk_copy.specs.KeyValue.{KeyValue}
use Rattle.target_tables.specs.Rising.{IsRising, AreAbove}
use Rattle.dump.specs.Dump.{rows_of_table}
use Rattle.vdiff.specs.Report.{report_of}
use Rattle.dump.specs.Private.Tables.{AreFrom}
use Rattle.dump.specs.DumpRowsValue.{DumpRowsValue}
use Rattle.vdiff.specs.Reports.{NamedReport, reports_from}
use Rattle.dump.proofs.TableLaws.{other, front_rows, rising_left, rows_left, from_none}

-- and so do those in front
above_front : (n : ℕ) (key : KeyValue) (rows : DumpRowsValue) → AreAbove key_cmp key rows → AreAbove key_cmp key (take n rows)
above_front zero key rows above = tt
above_front (suc n) key [] above = tt
above_front (suc n) key (row ∷ rows) above = (above.0, above_front n key rows above.1)

pub rising_front : (n : ℕ) (rows : DumpRowsValue) → IsRising key_cmp rows → IsRising key_cmp (take n rows)
rising_front zero rows rising = tt
rising_front (suc n) [] rising = tt
rising_front (suc n) (row ∷ rows) rising = (above_front n row.0 rows rising.0, rising_front n rows rising.1)

reports_left : (s t n m : ℕ) (tables : List TableValue) (source target : DumpRowsValue) → t < s → rows_of_table t source ≡ take n source → rows_of_table t target ≡ take m target
    → reports_from s tables source target ≡ reports_from s tables (drop n source) (drop m target)
reports_left s t n m [] source target lt front front' = refl
reports_left s t n m (table ∷ tables) source target lt front front' =
    rw (rows_left s t n source lt front, rows_left s t m target lt front', reports_left (s + 1) t n m tables source target (omega (arith, lt)) front front') refl

-- the counts of a table, and of those behind it
pub first_report : (t n m : ℕ) (table : TableValue) (tables : List TableValue) (source target : DumpRowsValue) → rows_of_table t source ≡ take n source → rows_of_table t target ≡ take m target
    → reports_from t (table ∷ tables) source target ≡ record { name = table.name; report = report_of (take n source) (take m target) } ∷ reports_from (t + 1) tables (drop n source) (drop m target)
first_report t n m table tables source target front front' =
    rw (front, front', reports_left (t + 1) t n m tables source target (omega arith) front front') refl

-- ---- the loop over tables

-- the reports so far and those of the rows that are left are the whole
pub record AreReportsTo (tables : List TableValue) (source target : DumpRowsValue) (t : ℕ) (left right : DumpRowsValue) (done : List NamedReport) : Type 0 where
  pub whole : reports_from 0 tables source target ≡ done ++ reports_from t (drop t tables) left right
  pub left_rises : IsRising key_cmp left
  pub right_rises : IsRising key_cmp right
  pub left_from : AreFrom t left
  pub right_from : AreFrom t right

pub reports_start : (tables : List TableValue) (source target : DumpRowsValue) (done : List NamedReport) → done ≡ [] → IsRising key_cmp source → IsRising key_cmp target → AreReportsTo tables source target 0 source target done
reports_start tables source target done none rising rises = rw none (record { whole = refl; left_rises = rising; right_rises = rises; left_from = from_none source; right_from = from_none target })

pub reports_more : (tables : List TableValue) (source target : DumpRowsValue) (t : ℕ) (table : TableValue) (left right : DumpRowsValue) (done : List NamedReport) (n m : ℕ) → t < length tables → table ≡ get_or tables t table
    → n ≡ unwrap_or (position (other t) left) (length left) → m ≡ unwrap_or (position (other t) right) (length right) → AreReportsTo tables source target t left right done
    → AreReportsTo tables source target (t + 1) (drop n left) (drop m right) (done ++ record { name = table.name; report = report_of (take n left) (take m right) } ∷ [])
reports_more tables source target t table left right done n m lt is first second so_far =
    let front = front_rows t left n first so_far.left_rises so_far.left_from in
    let front' = front_rows t right m second so_far.right_rises so_far.right_from in
    record {
      whole = so_far.whole
          ∙ ap (λ (l : List NamedReport). done ++ l) (ap (λ (l : List TableValue). reports_from t l left right) (at_item tables t table lt is) ∙ first_report t n m table (drop (t + 1) tables) left right front.0 front'.0)
          ∙ sym (append_assoc done (record { name = table.name; report = report_of (take n left) (take m right) } ∷ []) (reports_from (t + 1) (drop (t + 1) tables) (drop n left) (drop m right)));
      left_rises = rising_left n left so_far.left_rises;
      right_rises = rising_left m right so_far.right_rises;
      left_from = front.1;
      right_from = front'.1;
    }
