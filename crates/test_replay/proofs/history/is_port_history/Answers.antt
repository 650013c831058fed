use Rattle.std.proofs.Common.{◌∙◌, List, [], None, reverse, take, refl, sym, subst, arith}
use Rattle.std.proofs.lemmas.Grind.{common_steps}
use Rattle.std.proofs.lemmas.Bool.{false≢true}
use Rattle.md_static.specs.Tables.{site_table}
use Rattle.test_replay.specs.declared.history.Row.{Row}
use Rattle.test_replay.specs.Past.{IsPast}
use Rattle.test_replay.proofs.Handing.{next-follows}
use Rattle.test_replay.proofs.PastSteps.{sound-table}
use Rattle.test_replay.proofs.history.is_port_history.Goals as goal

pub loop-event-init : goal.loop-event-init
loop-event-init c =
    let P : List Row → Type 0 = λ rows. IsPast rows None [] in
    record {
      history = sound-table c.args.statics.now c.args.main c.requires.sound c.requires.main_there;
      so_far = subst P (sym c.new.ensures.items) (record { each = refl; right = λ a x is. absurd (cc); now_is = refl });
    }

pub returns-then-not-may_follow : goal.returns-then-not-may_follow
returns-then-not-may_follow c =
    let t = site_table c.args.statics.now c.args.main in
    let n = c.loop-event.event-index in
    let h = reverse (take n c.args.events.now) in (
      λ yes. absurd (false≢true yes),
      λ history.
          let may = next-follows t c.args.events.now n c.event-item.result c.loop-event-test.true c.event-item.is history in
          absurd (false≢true (sym c.if-not-may_follow.true ∙ (c.may_follow.ensures h c.loop-event.invariant.history c.loop-event.invariant.so_far).1 may)),
    )

pub loop-event-preserved : goal.loop-event-preserved
loop-event-preserved c = grind (arith, common_steps)

pub returns : goal.returns
returns c = grind (arith, common_steps)
