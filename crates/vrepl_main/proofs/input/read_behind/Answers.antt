use Rattle.std.proofs.Common.{◌≡◌, ◌++◌, take, true, arith, refl, ap, ◌∙◌, length-append, rules}
use Rattle.std.specs.Prelude.{is_ok, not}
use Rattle.std.proofs.KnownBytes.{Consumes-nil, Consumes-trans, Consumes-kept}
use Rattle.vrepl_main.proofs.InputLaws.{whole, limit}
use Rattle.vrepl_main.proofs.input.read_behind.Goals as goal
use Rattle.vrepl_main.proofs.input.read_behind.Goals.{in-Ok+else-is_err, in-Err+else-ne}

pub loop-read-init : goal.loop-read-init
loop-read-init g c = rw c.requires (Consumes-nil (g.R.Read.remaining c.args.input.now), omega arith)

pub returns-in-Ok-eq0-clause-whole : goal.returns-in-Ok-eq0-clause-whole
returns-in-Ok-eq0-clause-whole g c = whole _ _ _ _ c.read.new.buf c.in-Ok-eq0.field-0 c.in-Ok-eq0.field-0-test c.loop-read.invariant.0 c.in-Ok-eq0.ensures.bytes.0 (c.in-Ok-eq0.ensures.bytes.1 c.in-Ok-eq0.field-0-test (omega (arith, c.read.auto.buf)))

pub returns-in-Ok-eq0-clause-limit : goal.returns-in-Ok-eq0-clause-limit
returns-in-Ok-eq0-clause-limit g c = limit _ c.loop-read.bytes.items c.loop-read._read c.args.reads (returns-in-Ok-eq0-clause-whole g c) c.loop-read.invariant.1 c.loop-read-test.true

pub loop-read-preserved : goal.loop-read-preserved
loop-read-preserved g c = elim c.match-read.branch [
  | in-Ok+else-is_err w ↦
      let bytes = c.loop-read.bytes.items in
      let piece = take w.in-Ok.count c.read.new.buf in
      let ok : is_ok w.extend_from_slice.result ≡ true = w.is_err.ensures.negation ∙ ap not w.if-is_err.false in
      let items : w.extend_from_slice.new.self.items ≡ bytes ++ piece = w.extend_from_slice.ensures.items ∙ rw ok refl in
      rw (w.bytes-is, items) (
        Consumes-trans _ _ _ _ _ c.loop-read.invariant.0 w.in-Ok.ensures.bytes.0,
        rw length-append (omega (arith, c.loop-read.invariant.1, w.in-Ok.ensures.bound.0, w.in-Ok.ensures.bound.1, c.read.auto.buf)),
      )
  | in-Err+else-ne w ↦ rw w.bytes-is (Consumes-kept _ _ _ _ c.loop-read.invariant.0 w.in-Err.ensures.bytes, omega (arith, c.loop-read.invariant.1))
]

pub returns-clause-whole : goal.returns-clause-whole
returns-clause-whole g c = search rules

pub returns-clause-end : goal.returns-clause-end
returns-clause-end g c = search rules

pub returns-clause-limit : goal.returns-clause-limit
returns-clause-limit g c = search rules
