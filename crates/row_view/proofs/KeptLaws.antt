-- What is true of a message that is a row.
use Rattle.std.proofs.Common.{◌≡◌, ℕ, ◌^◌, ◌≤◌, List, length, Option, Result, Ok, Err, refl}
use Rattle.std.specs.Prelude.{IsOk}
use Rattle.row_view.specs.declared.fault.RowFault.{RowFault}
use Rattle.row_view.specs.RowFields.{row_lengths, row_values}
use Rattle.row_view.specs.Row.{IsRow, size_of_all, columns_in, row_of_message}
use Rattle.row_view.specs.Private.Kept.{IsGood}
use Rattle.row_view.proofs.RowLaws.{row, row_of_message-row, none_from_IsWhole}

good_is_row : (bytes : List ℕ) → IsGood bytes → IsRow bytes (columns_in bytes)
good_is_row bytes good = (row bytes (columns_in bytes)).0 good

pub good_short : (bytes : List ℕ) → IsGood bytes → length bytes ≤ 2 ^ 24
good_short bytes good = (good_is_row bytes good).size

pub good_few : (bytes : List ℕ) → IsGood bytes → length (row_lengths bytes) ≤ 256
good_few bytes good = (good_is_row bytes good).few

pub good_within : (bytes : List ℕ) → IsGood bytes → size_of_all (row_lengths bytes) ≤ length (row_values bytes)
good_within bytes good = (good_is_row bytes good).within

-- what is read as some columns is good
good_from_ok : (bytes : List ℕ) (read : Result (List (Option (List ℕ))) RowFault) → row_of_message bytes ≡ read → IsOk read → IsGood bytes
good_from_ok bytes (Ok columns) e ok =
    let is = (row bytes columns).0 e in
    row_of_message-row bytes is.size (none_from_IsWhole bytes is.whole) is.few is.within
good_from_ok bytes (Err fault) e ok = cc

pub good-from_IsOk : (bytes : List ℕ) → IsOk (row_of_message bytes) → IsGood bytes
good-from_IsOk bytes ok = good_from_ok bytes (row_of_message bytes) refl ok
