-- The modes hold where main's body begins, and each step that unfolds no goal keeps them.
use Rattle.std.proofs.Common.{◌≡◌, subst, arith, ℕ, true, false, List, [], ◌∷◌, ◌++◌, Some, None, slice_get}
use Rattle.md_hlds.specs.HldsGoal.{Numbered}
use Rattle.md_hlds.specs.Hlds.{Procedure, Hlds, procedure_called}
use Rattle.md_hlds.specs.Value.{Env}
use Rattle.md_hlds.specs.Trace.{Frame}
use Rattle.md_hlds.specs.Run.{main_name}
use Rattle.law_steps.specs.State.{Wait, Others, Again, Over, Condition, Negation, Single, Returning, Goes, Fails, state}
use Rattle.law_steps.specs.Steps.{answered, returned, retried, thrown_on, unwound}
use Rattle.law_steps.specs.Makes.{beginning}
use Rattle.md_reader.specs.Grammar.{Spells}
use Rattle.md_modes.specs.Goals.{variables, goal}
use Rattle.md_modes.specs.Modes.{entry, end, scope_of, is_main, mode_fault}
use Rattle.md_modes.proofs.Counts.{times-append}
use Rattle.law_safety.specs.Known.{body}
use Rattle.law_safety.proofs.Verdicts.{ok_then}
use Rattle.law_safety.proofs.Functors.{called_at}
use Rattle.law_safety.proofs.Safe.{Proper}
use Rattle.law_safety.proofs.Whole.{accepted, proper, main_fits}
use Rattle.law_safety.proofs.OneMain.{one_main}
use Rattle.law_fits.specs.States.{FitsAnswer, FitsFrame, FitWaits, FitsState, FitsStep}

-- ---- the beginning

main_begins : (s : Hlds) → Proper s → (m : ℕ × Procedure) → slice_get s.procedures m.0 ≡ Some m.1 → is_main m.1 ≡ true → FitsState s (beginning s m)
main_begins s proper m at is =
    let p = m.1 in
    let ok = ok_then (goal (scope_of s p) p.body (entry p)) (λ b. end p b) tt (proper.accepted m.0 p at) in (
      (
        record {
          procedure = m;
          at = at;
          strict = false;
          known = entry p;
          before = body;
          tidy = proper.tidy m.0 p at;
          after = ok.0;
          accepted = ok.1;
          rest = p.head;
          room = λ x. let e = times-append x p.head (variables p.body) in omega (arith, e);
          come = λ x there. there;
          fits = main_fits s (variables p.body ++ p.head) p is (proper.heads m.0 p at);
          chosen = tt;
        },
        λ d reach fits. tt,
      ),
      tt,
    )

pub fits_begins : (text : List ℕ) (s : Hlds) → Spells text s → mode_fault s ≡ None → (m : ℕ × Procedure) → procedure_called s main_name ≡ Some m → FitsState s (beginning s m)
fits_begins text s spells h m called = main_begins s (proper text s spells h) m (called_at s main_name m called) (one_main s m spells.once (accepted s h).main called)

-- ---- quiet steps

answer_fits : (s : Hlds) (e : Env) (ws : List Wait) (k : ℕ) → FitsAnswer s ws e → FitWaits s ws → FitsStep s (answered e ws k)
answer_fits s e [] k h waits = tt
answer_fits s e (Others f js ps ∷ ws) k h waits = answer_fits s e ws k h waits.1
answer_fits s e (Again a ∷ ws) k h waits = answer_fits s e ws k h waits
answer_fits s e (Over a ∷ ws) k h waits = answer_fits s e ws k h waits
answer_fits s e (Condition f js t el ∷ ws) k h waits = (h, waits.1)
answer_fits s e (Negation f js ∷ ws) k h waits = waits.1
answer_fits s e (Single f js ∷ ws) k h waits = (h, waits)
answer_fits s e (Returning a pairs f js ∷ ws) k h waits = (h.1, waits)

return_fits : (s : Hlds) (f : Frame) (js : List Frame) (ws : List Wait) (k : ℕ) → FitsFrame s f [] js ws → FitWaits s ws → FitsStep s (returned f js ws k)
return_fits s f [] ws k h waits = answer_fits s f.env ws k h waits
return_fits s f (c ∷ js) ws k h waits = (h.1, waits)

pub fits_returns : (s : Hlds) (f : Frame) (js : List Frame) (ws : List Wait) (k : ℕ) → f.goals ≡ [] → FitsState s (state (Goes f js) ws k) → FitsStep s (returned f js ws k)
fits_returns s f js ws k is h = return_fits s f js ws k (subst (λ (gs : List Numbered). FitsFrame s f gs js ws) is h.0) h.1

pub fits_retries : (s : Hlds) (ws : List Wait) (k : ℕ) → FitsState s (state Fails ws k) → FitsStep s (retried ws k)
fits_retries s [] k h = tt
fits_retries s (Others f js [] ∷ ws) k h = h.1
fits_retries s (Others f js (p ∷ ps) ∷ ws) k h = (h.0.0, (h.0.1, h.1))
fits_retries s (Again a ∷ ws) k h = h
fits_retries s (Over a ∷ ws) k h = h
fits_retries s (Condition f js t el ∷ ws) k h = (h.0, h.1)
fits_retries s (Negation f js ∷ ws) k h = (h.0, h.1)
fits_retries s (Single f js ∷ ws) k h = h
fits_retries s (Returning a pairs f js ∷ ws) k h = h

throw_fits : (s : Hlds) (ws : List Wait) (k : ℕ) → FitsStep s (thrown_on ws k)
throw_fits s [] k = tt
throw_fits s (Others f js ps ∷ ws) k = tt
throw_fits s (Again a ∷ ws) k = tt
throw_fits s (Over a ∷ ws) k = tt
throw_fits s (Condition f js t el ∷ ws) k = tt
throw_fits s (Negation f js ∷ ws) k = tt
throw_fits s (Single f js ∷ ws) k = tt
throw_fits s (Returning a pairs f js ∷ ws) k = tt

pub fits_unwinds : (s : Hlds) (js : List Frame) (ws : List Wait) (k : ℕ) → FitsStep s (unwound js ws k)
fits_unwinds s [] ws k = throw_fits s ws k
fits_unwinds s (j ∷ js) ws k = tt
