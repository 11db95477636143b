use Rattle.std.proofs.Common.{List, ℕ, sym, subst}
use Rattle.std.specs.Str.{IsUtf8}
use Rattle.gtid_set.proofs.HexText.{uuid-utf8, ok-text}
use Rattle.gtid_set.proofs.printed.UuidTextDisplay.fmt.Goals as goal

pub unwrap-requires : goal.unwrap-requires
unwrap-requires g c = ok-text _ _ c.from_utf8.result c.from_utf8.ensures.cases (subst (λ (t : List ℕ). IsUtf8 t) (sym c.uuid_text.ensures) (uuid-utf8 c.args.self.now.0))
