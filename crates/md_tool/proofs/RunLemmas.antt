-- What the machine asks of an accepted text, and the end that the code tells.
use Rattle.std.proofs.Common.{◌≡◌, ◌∙◌, refl, ap, subst, ℕ, ◌<◌, ◌^◌, List, [], Bool, true, false, Option, None, Some}
use Rattle.std.specs.Prelude.{is_some, unwrap_or}
use Rattle.md_hlds.specs.Hlds.{Hlds}
use Rattle.md_hlds.specs.Run.{run, is_finished, error}
use Rattle.law_events.specs.Laws.{IsWithinBounds}
use Rattle.law_spelled.specs.Laws.{AcceptedTextsAreWithinBounds}
use Rattle.md_machine.specs.Ran.{IsRunOf}
use Rattle.md_machine.specs.Ran as machine
use Rattle.md_machine.specs.declared.ran.End.{End}
use Rattle.md_machine.specs.declared.ran.Ran.{Ran}
use Rattle.md_tool.specs.Accepted.{Accepts}
use Rattle.md_tool.specs.Ends.{end_by, end_of, end_told, ran_end}

-- ---- the end of a run

ends_alike : (finished : Bool) (thrown : Option (List ℕ)) → end_told (machine.end_by finished (is_some thrown)) (unwrap_or thrown []) ≡ end_by finished thrown
ends_alike true thrown = refl
ends_alike false (Some bytes) = refl
ends_alike false None = refl

-- the end that the code tells is that of the run
pub end_is : (program : Hlds) (steps : ℕ) (ran : Ran) → IsRunOf program steps ran → ran_end ran ≡ end_of (run program steps)
end_is program steps ran h =
    ap (λ (e : End). end_told e ran.error.items) h.end
    ∙ (ap (end_told (machine.end_of (run program steps))) h.error ∙ ends_alike (is_finished (run program steps)) (error (run program steps)))
