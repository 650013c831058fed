use Rattle.std.proofs.Common.{◌≡◌, ℕ, get_or, Option, sym, ap, ◌∙◌, arith}
use Rattle.std.specs.Prelude.{unwrap_or}
use Rattle.md_people.proofs.StationSteps.{entry_within, start_told}
use Rattle.md_people.proofs.station.entered_from.Goals as goal

pub bounds-links-number : goal.bounds-links-number
bounds-links-number c =
    let within = entry_within c.args.loaded.now.cliques c.args.loaded.now.entries c.args.loaded.now.profile.links c.args.clique c.profile.ensures.loaded.tree.entries_are c.requires.there in
    let place : c.number.result ≡ get_or c.args.loaded.now.entries c.args.clique 0 = c.number.ensures ∙ c.entering-link.ensures.link in
    rw (c.links.ensures, c.profile.ensures.profile) (omega arith)

pub returns-in-Some : goal.returns-in-Some
returns-in-Some c =
    let links = c.args.loaded.now.profile.links in
    let within = entry_within c.args.loaded.now.cliques c.args.loaded.now.entries links c.args.clique c.profile.ensures.loaded.tree.entries_are c.requires.there in
    let place : c.number.result ≡ get_or c.args.loaded.now.entries c.args.clique 0 = c.number.ensures ∙ c.entering-link.ensures.link in
    sym (start_told links c.args.loaded.now.entries c.args.clique c.number.result c.index-links-number.result (omega arith) (rw (c.links.ensures, c.profile.ensures.profile) at c.index-links-number.is) place
    ∙ ap (λ (o : Option ℕ). unwrap_or o 0) c.in-Some.is)

pub returns-in-None : goal.returns-in-None
returns-in-None c =
    let links = c.args.loaded.now.profile.links in
    let within = entry_within c.args.loaded.now.cliques c.args.loaded.now.entries links c.args.clique c.profile.ensures.loaded.tree.entries_are c.requires.there in
    let place : c.number.result ≡ get_or c.args.loaded.now.entries c.args.clique 0 = c.number.ensures ∙ c.entering-link.ensures.link in
    c.new.ensures
    ∙ sym (start_told links c.args.loaded.now.entries c.args.clique c.number.result c.index-links-number.result (omega arith) (rw (c.links.ensures, c.profile.ensures.profile) at c.index-links-number.is) place
    ∙ ap (λ (o : Option ℕ). unwrap_or o 0) c.in-None.is)
