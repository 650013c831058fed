use Rattle.std.proofs.Common.{◌≡◌, ℕ, List, [], ◌∷◌, Option, take, sym, ap, ◌∙◌}
use Rattle.md_trace.specs.Activation.{activations}
use Rattle.md_trace.specs.Context.{placed_of}
use Rattle.md_clique.specs.Entries.{entries}
use Rattle.md_clique.specs.OneEntry.{links_of, ends_of}
use Rattle.md_clique.proofs.Coming.{called, well}
use Rattle.md_clique.proofs.EnteredOnce.{one_entry}
use Rattle.md_cost.proofs.RunRows.{ends_are, cliques_of}
use Rattle.md_cost.proofs.laws.no_clique_of_a_run_is_entered_twice.Goals as goal

pub returns : goal.returns
returns c t s h finished f k a b is of refused =
    let cliques = cliques_of s t.main h finished f of refused.cliques refused.cliques_are in
    let one = one_entry t.main (placed_of t.main h) (well t.main (activations h) (called t h is)) refused.cliques cliques k refused.twice.there in
    let two : take 2 (entries refused.cliques (ends_of (links_of t.main h)) k) ≡ a ∷ b ∷ [] = ap (λ (es : List (Option ℕ × ℕ)). take 2 (entries refused.cliques es k)) (sym (ends_are s t.main h finished f of)) ∙ refused.twice.two in
    let e : one.0 ∷ [] ≡ a ∷ b ∷ [] = rw one.1 at two in
    cc
