-- What is told of a dump's fault.
use Rattle.std.specs.Prelude.{◌≡◌, ◌⊎◌, ℕ, List, Option, None, option_map, string_bytes}
use Rattle.std.specs.declared.alloc.Global.{Global}
use Rattle.std.specs.Prelude.{String}
use Rattle.dump.specs.declared.reading.DumpFault.{DumpFault}
use Rattle.vrepl_choices.specs.declared.report_form.ReportForm.{ReportForm}
use Rattle.vrepl_main.specs.RefusalOf.{refusal_of_dump}
use Rattle.vrepl_main.specs.declared.refusal.CommandRefusal.TheVariants.{Memory}
use Rattle.vrepl_vdiff.specs.Told.{place_of}
use Rattle.vrepl_vdiff.specs.declared.told.Told.{Told}

-- the place of a fault, if one is told
abbrev pub place_value : Option (String Global) → Option (List ℕ)
place_value place = option_map (λ place. string_bytes place) place

-- it is the fault's refusal, with the place that names the dump; or else memory ran out
abbrev pub IsToldOf : ReportForm → List ℕ → DumpFault → Told → Type 0
IsToldOf form name fault told =
    ((told.refusal ≡ refusal_of_dump fault) × (place_value told.place ≡ place_of form told.refusal name)) ⊎ ((told.refusal ≡ Memory) × (place_value told.place ≡ None))
