use Rattle.std.proofs.Common.{map, refl}
use Rattle.std.specs.Arc.{arc_value}
use Rattle.vrepl_main.proofs.ResumeLaws.{prints_all, prints_first}
use Rattle.vrepl_main.proofs.resuming.print_resumed.Goals as goal

pub returns-in-Err : goal.returns-in-Err
returns-in-Err g c =
    (record { first = rw c.deref.ensures.value at c.in-Ok.ensures; refused = rw c.deref-2.ensures.value at c.in-Err.ensures.refused }, refl)

pub returns-in-Ok-print_taken : goal.returns-in-Ok-print_taken
returns-in-Ok-print_taken g c =
    let given = c.args.scripted in
    prints_all (map arc_value given.opened.plans.items) given.opened.feeds.items given.steps.items c.args.checkpoint.now (arc_value c.in-Ok.plan) c.in-Ok-resume.fed _ _ (rw c.deref.ensures.value at c.in-Ok.ensures)
    c.in-Ok-resume.ensures.resumed c.in-Ok-resume.ensures.feeds (rw (c.deref-3.ensures, c.deref-4.ensures.value) at c.in-Ok-print_taken.ensures)

pub returns : goal.returns
returns g c =
    let given = c.args.scripted in (
      refl,
      prints_first (map arc_value given.opened.plans.items) given.opened.feeds.items given.steps.items c.args.checkpoint.now (arc_value c.in-Ok.plan) c.in-Ok-resume.fed _ _ (rw c.deref.ensures.value at c.in-Ok.ensures)
          c.in-Ok-resume.ensures.resumed c.in-Ok-resume.ensures.feeds (rw (c.deref-3.ensures, c.deref-4.ensures.value) at c.in-Err-print_taken.ensures),
    )
