use Rattle.std.proofs.Common.{◌≡◌, ◌∙◌, sym}
use Rattle.std.specs.Str.{IsValidUpTo, valid_up_to}
use Rattle.std.proofs.lemmas.Str.{IsUtf8-from_ascii, is_utf8-from_IsUtf8}
use Rattle.vevent.proofs.Utf8Tests.{is_ok-is_utf8}
use Rattle.vevent.proofs.text.is_text.Goals as goal

pub returns-then-is_ascii : goal.returns-then-is_ascii
returns-then-is_ascii c = sym (is_utf8-from_IsUtf8 c.args.bytes.now (IsUtf8-from_ascii c.args.bytes.now c.if-is_ascii.ensures.cases))

pub returns : goal.returns
returns c = c.is_ok.ensures.value ∙ is_ok-is_utf8 c.from_utf8.result c.args.bytes.now (λ s. s.now ≡ c.args.bytes.now) (λ e. IsValidUpTo c.args.bytes.now (valid_up_to e)) c.from_utf8.ensures.cases
