use Rattle.std.proofs.Common.{◌≡◌, ap, ◌∙◌, sym, subst, ℕ, IfOk, [], None}
use Rattle.md_hlds.specs.Hlds.{hlds_of, procedure_of}
use Rattle.md_hlds.specs.Trace.{Items, Frame}
use Rattle.md_hlds.specs.Run.{main_frame}
use Rattle.md_plain.specs.Told.{Run, start, turn, in_job, traces}
use Rattle.md_plain.specs.Runs.{run_of, option_run, items_told, told_of}
use Rattle.md_plain.proofs.RunLemmas.{no_budget, run_told}
use Rattle.md_plain.proofs.runner.run_main.Goals as goal

pub returns-in-None : goal.returns-in-None
returns-in-None c =
    no_budget (hlds_of c.args.program.now) c.args.budget (c.args.number, procedure_of c.args.main.now) c.requires
    (sym (ap option_run c.in-None.is) ∙ (c.in_ok-made.ensures ∙ (ap (λ (r : Run). turn r 0 None c.in_ok-weight.weight) c.in_ok-nothing.ensures ∙ ap (λ (w : ℕ). turn (start c.args.budget) 0 None w) c.in_ok-weight.ensures)))

pub returns-in_ok-all-in-Some : goal.returns-in_ok-all-in-Some
returns-in_ok-all-in-Some c =
    let s = hlds_of c.args.program.now in
    let b : ℕ = c.args.budget in
    subst (λ (xs : Items). IfOk c.listed.result (λ items. items_told items.now ≡ xs))
    (c.in_ok-all-in-Some.ensures
    ∙ run_told s b (c.args.number, procedure_of c.args.main.now) (run_of c.in-Some.turned) (told_of c.in_ok-told-in-Some.told) c.requires
    (sym (ap option_run c.in-Some.is) ∙ (c.in_ok-made.ensures ∙ (ap (λ (r : Run). turn r 0 None c.in_ok-weight.weight) c.in_ok-nothing.ensures ∙ ap (λ (w : ℕ). turn (start b) 0 None w) c.in_ok-weight.ensures)))
    (c.in_ok-told-in-Some.ensures
    ∙ (ap (λ (f : Frame). traces s b (in_job f []) (run_of c.in_ok-begun-in-Some.begun)) c.in_ok-frame-in-Some.ensures
    ∙ ap (λ (r : Run). traces s b (in_job (main_frame s (c.args.number, procedure_of c.args.main.now)) []) r) c.in_ok-begun-in-Some.ensures)))
    c.listed.ensures
