use Rattle.std.proofs.Common.{◌≡◌, ◌∙◌, ◌<◌, sym, ap, subst, [], length, arith}
use Rattle.std.proofs.lemmas.Grind.{common_steps}
use Rattle.md_hlds.specs.declared.program.Program.{Program}
use Rattle.md_hlds.specs.Hlds.{hlds_of}
use Rattle.law_events.specs.History.{history}
use Rattle.law_events.specs.Table as events
use Rattle.md_hlds.specs.Run.{run}
use Rattle.md_ports.specs.Ports.{statics_of}
use Rattle.md_record.specs.Kept.{Stands}
use Rattle.md_static.specs.Sound.{IsSound}
use Rattle.md_static.specs.Tables.{Static, site_table}
use Rattle.md_trace.specs.PortHistory.{SiteTable}
use Rattle.md_profiled.proofs.MainLemmas.{main_there, recorder_begins, profile_of_run}
use Rattle.md_profiled.proofs.profiled.profile_run.Goals as goal

pub new-requires-clause-sound : goal.new-requires-clause-sound
new-requires-clause-sound c =
    let s = hlds_of c.args.checked.now in
    let text = c.program.ensures.of_text in
    let main = c.accepted_texts_have_mains.ensures.called text.text s text.spells c.program.ensures.moded in
    subst IsSound (sym (c.in_ok-tables.ensures ∙ ap (λ (p : Program). statics_of (hlds_of p)) c.moded.ensures))
    (c.tables_of_a_text_are_sound.ensures text.text s main.0 text.spells (omega (arith, text.short)) main.1)

pub new-requires-clause-main_there : goal.new-requires-clause-main_there
new-requires-clause-main_there c =
    subst (λ (t : Static). c.main.result < length t.procs) (sym (c.in_ok-tables.ensures ∙ ap (λ (p : Program). statics_of (hlds_of p)) c.moded.ensures))
    (main_there (hlds_of c.args.checked.now) c.main.result c.main.ensures)

pub interpret-requires : goal.interpret-requires
interpret-requires c =
    let text = c.program.ensures.of_text in
    record {
      begins = subst (λ (t : SiteTable). Stands c.in_ok-recorder.recorder t [])
          (recorder_begins (hlds_of c.args.checked.now) c.in_ok-tables.tables c.main.result (c.in_ok-tables.ensures ∙ ap (λ (p : Program). statics_of (hlds_of p)) c.moded.ensures)
          c.main.ensures (c.accepted_texts_have_mains.ensures.called text.text (hlds_of c.args.checked.now) text.spells c.program.ensures.moded) c.tables_give_the_site_table.ensures)
          c.in_ok-recorder.ensures.stands;
    }

pub returns : goal.returns
returns c = record {
  bounds = let text = c.program.ensures.of_text in c.accepted_texts_are_within_bounds.ensures text.text (hlds_of c.args.checked.now) c.args.budget text.spells c.program.ensures.moded c.ranges.budget.fits;
  is_run = c.in_ok-ran.ensures.run;
  is_profile = profile_of_run (hlds_of c.args.checked.now) c.args.budget c.interpret.new.sink.rows.statics c.finishes.result c.in_ok-ran.ran c.into_profile-profile.result
      (c.in_ok-ran.ensures.alike ∙ (c.in_ok-recorder.ensures.statics ∙ (c.in_ok-tables.ensures ∙ ap (λ (p : Program). statics_of (hlds_of p)) c.moded.ensures)))
      c.finishes.ensures c.in_ok-ran.ensures.run
      (c.into_profile-profile.ensures.exact (events.site_table (hlds_of c.args.checked.now)) (history (run (hlds_of c.args.checked.now) c.args.budget)) c.in_ok-ran.ensures.whole);
  valid = c.into_profile-profile.ensures.valid (events.site_table (hlds_of c.args.checked.now)) (history (run (hlds_of c.args.checked.now) c.args.budget)) c.in_ok-ran.ensures.whole;
}

pub returns-in_err-recorder : goal.returns-in_err-recorder
returns-in_err-recorder c = grind (arith, common_steps)

pub returns-in_err-tables : goal.returns-in_err-tables
returns-in_err-tables c = grind (arith, common_steps)
