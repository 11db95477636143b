-- A patch that makes a target's rows the source's.
use Rattle.std.specs.Prelude.{◌≡◌, Some}
use Rattle.pk_copy.specs.KeyOrder.{key_cmp}
use Rattle.target_tables.specs.Rising.{IsRising}
use Rattle.dump.specs.DumpRowsValue.{DumpRowsValue}
use Rattle.vdiff_patch.specs.Patch.{Patch, patched}

-- each of its changes can be made where the earlier ones were, and behind them all stand the source's rows; its keys rise
pub record IsRepair (source target : DumpRowsValue) (patch : Patch) : Type 0 where
  pub repairs : patched target patch ≡ Some source
  pub rising : IsRising key_cmp patch
