use Rattle.std.proofs.Common.{sym, arith, ◌+◌, ◌-◌, length, drop}
use Rattle.std.proofs.lemmas.List.{length-drop, take_all}
use Rattle.gtid_set.proofs.FirstCut.{cut-first, cut-none}
use Rattle.gtid_set.proofs.text.cut.Goals as goal

pub returns-in-Some : goal.returns-in-Some
returns-in-Some c =
    let text = c.args.text.now in
    let place = c.in-Some.place in
    let first = c.in-Some.ensures in
    rw (take_all (length text - (place + 1)) (drop (place + 1) text) (omega (arith, length-drop (place + 1) text)))
    (sym (cut-first c.args.separator text place first.0.high (λ j below. first.0.before j (omega arith) below) first.1))

pub returns-in-None : goal.returns-in-None
returns-in-None c = sym (cut-none c.args.separator c.args.text.now (λ k lt. c.in-None.ensures k (omega arith) lt))
