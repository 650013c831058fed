use Rattle.std.proofs.Common.{List, reverse, ◌∙◌, subst, arith}
use Rattle.std.proofs.lemmas.Grind.{common_steps}
use Rattle.md_static.specs.Tables.{site_table}
use Rattle.md_trace.specs.declared.event.Event.{Event}
use Rattle.md_record.specs.Kept.{Stands}
use Rattle.test_replay.proofs.Handing.{all-events}
use Rattle.test_replay.proofs.profile.profile_of_events.Goals as goal

pub returns : goal.returns
returns c =
    let t = site_table c.args.statics c.args.main in
    let events = c.args.events.now in
    let history = c.in_ok-is_port_history.ensures.0 c.if-not-branch.false in
    let S : List Event → Type 0 = λ es. Stands c.replay.new.sink t (reverse es) in
    let stands = subst S (all-events events) (c.in_ok-replay.ensures.whole t c.in_ok-recorder.ensures.stands history) in
    let exact = c.into_profile.ensures.exact t (reverse events) stands in (
      history,
      record { tables = exact.tables ∙ c.replay.ensures.alike ∙ c.in_ok-recorder.ensures.statics; contexts_are = exact.contexts_are; links_are = exact.links_are; finished_is = exact.finished_is },
      c.into_profile.ensures.valid t (reverse events) stands,
    )

pub returns-then-not-branch : goal.returns-then-not-branch
returns-then-not-branch c = grind (arith, common_steps)
