-- Replies that aren't want of memory.
use Rattle.std.proofs.Common.{◌++◌, ℕ, List, [], ◌∷◌, Option, Some, None, Result, Ok, Err, IfOk, OnOk}
use Rattle.std.specs.List.{AllByRecursion}
use Rattle.board_laws.specs.Meaning.{State}
use Rattle.vrepl_main.specs.ScriptRun.{ScriptReply, standing_reply, IsTold}

pub stands_told : (stream : ℕ) (o : Option State) → IsTold (standing_reply stream o)
stands_told stream None = tt
stands_told stream (Some state) = tt

-- what holds behind an answer, and what holds of it
pub both_on_ok : {A E P : Type 0} {Q R : A → Type 0} (r : Result A E) → (P → (x : A) → Q x → R x) → OnOk r P → IfOk r Q → IfOk r R
both_on_ok (Ok x) f behind of = f behind x of
both_on_ok (Err e) f behind of = tt

pub all_told : (replies : List ScriptReply) (reply : ScriptReply) → AllByRecursion IsTold replies → IsTold reply → AllByRecursion IsTold (replies ++ reply ∷ [])
all_told [] reply all one = (one, tt)
all_told (first ∷ replies) reply all one = (all.0, all_told replies reply all.1 one)
