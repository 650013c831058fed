use Rattle.std.proofs.Common.{◌<◌, ℕ, List, get_or, sym, ap, ◌∙◌, arith}
use Rattle.std.proofs.lemmas.List.{get_or_read}
use Rattle.md_clique.specs.Cliques.{clique_count}
use Rattle.md_cost.proofs.ValidSteps.{valid_sound}
use Rattle.md_cost.proofs.ViewSteps.{view_entries}
use Rattle.md_cost.proofs.loaded.Loaded.entering.Goals as goal

pub returns-clause-view : goal.returns-clause-view
returns-clause-view c =
    let there : c.args.clique < clique_count c.self.inside.tree.cliques = rw (← c.self.view_is) at c.requires in
    let each = c.self.invariant.tree.entries_are.each in
    let read = get_or_read c.self.inside.tree.entries.items c.args.clique c.index.result.now (omega arith) c.index.ensures 0 in
    λ v is. c.new.ensures ∙ read ∙ ap (λ (es : List ℕ). get_or es c.args.clique 0) (sym (view_entries c.self.inside.profile (valid_sound c.self.inside.profile c.self.invariant.valid).links c.self.inside.tree.cliques c.self.inside.tree.entries.items c.self.invariant.tree v (rw (← c.self.view_is) at is)))
