use Rattle.std.proofs.Common.{arith, ◌≡◌, ◌∙◌, ◌<◌, ◌^◌, ap, sym, subst, List, ℕ, Option, length}
use Rattle.md_hlds.specs.declared.program.Program.{Program}
use Rattle.md_hlds.specs.Hlds.{hlds_of}
use Rattle.md_feedback.specs.declared.pairs.Pair.{Pair}
use Rattle.md_feedback.specs.Candidates.{AreCandidates}
use Rattle.md_feedback.specs.Search.{program_pairs}
use Rattle.md_feedback.proofs.Whole.{are_candidates, are_valid, feedback_valid, length-procedures}
use Rattle.md_feedback.proofs.candidates.feedback.Goals as goal

pub returns-clause-pairs : goal.returns-clause-pairs
returns-clause-pairs c v viewed =
    let s = hlds_of c.args.checked.now in
    let found : c.in_ok-pairs.pairs ≡ program_pairs s c.in_ok-heavy.heavy.items
    = c.in_ok-pairs.ensures ∙ (ap (λ (p : Program). program_pairs (hlds_of p) c.deref.result.now) c.moded.ensures ∙ ap (λ (hs : List (Option ℕ)). program_pairs s hs) c.deref.ensures.value) in
    subst (λ (ps : List Pair). AreCandidates s v c.args.least ps) (sym found)
    (are_candidates s c.in_ok-heavy.heavy.items v c.args.least c.args.loaded.now.profile.statics c.requires.sites (c.in_ok-heavy.ensures.heavy v viewed))

pub returns-clause-valid : goal.returns-clause-valid
returns-clause-valid c name =
    let s = hlds_of c.args.checked.now in
    let found : c.in_ok-pairs.pairs ≡ program_pairs s c.in_ok-heavy.heavy.items
    = c.in_ok-pairs.ensures ∙ (ap (λ (p : Program). program_pairs (hlds_of p) c.deref.result.now) c.moded.ensures ∙ ap (λ (hs : List (Option ℕ)). program_pairs s hs) c.deref.ensures.value) in
    let procs : length s.procedures < 2 ^ 32 = omega (arith, c.args.checked.now.numbered, length-procedures c.args.checked.now.preds.items) in
    feedback_valid _ s c.in_ok-heavy.heavy.items c.requires.least found
    (are_valid s c.in_ok-heavy.heavy.items c.args.loaded.now.profile.statics c.requires.sites procs c.in_ok-heavy.ensures.few c.in_ok-heavy.ensures.small) name
