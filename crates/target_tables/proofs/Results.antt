-- What a result says, by its variant.
use Rattle.std.proofs.Common.{Result, Ok, Err}
use Rattle.std.specs.Result.{IfOk}

pub if_ok_each : {A E : Type 0} (P Q : A → Type 0) → ((a : A) → P a → Q a) → (r : Result A E) → IfOk r P → IfOk r Q
if_ok_each P Q f (Ok a) h = f a h
if_ok_each P Q f (Err e) h = tt
