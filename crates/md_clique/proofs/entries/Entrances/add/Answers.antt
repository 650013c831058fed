use Rattle.std.proofs.Common.{◌≡◌, ◌<◌, [], true, get_or, sym, ap, ◌∙◌, arith}
use Rattle.std.proofs.lemmas.List.{get_or_read}
use Rattle.md_clique.specs.Cliques.{clique_count}
use Rattle.md_clique.specs.Entries.{is_outside}
use Rattle.md_clique.specs.Found.{first_of}
use Rattle.md_clique.proofs.Naming.{lt_clique_count}
use Rattle.md_clique.proofs.EntryPlaces.{found_inside, found_first, found_higher, found_lower, is_none, old}
use Rattle.md_clique.proofs.entries.Entrances.add.Goals as goal
use Rattle.md_clique.proofs.entries.Entrances.add.Goals.{After-index-first}

pub index-first-requires : goal.index-first-requires
index-first-requires c =
    let o = c.args.self.now.first.ok.0 in
    let size = c.requires.each in
    let below = lt_clique_count c.args.cliques.now c.args.end c.requires.end in
    let is = c.of-clique.ensures in
    omega arith

pub index_mut-requires : goal.index_mut-requires
index_mut-requires c =
    let o = c.args.self.now.first.ok.0 in
    let size = c.requires.each in
    let below = lt_clique_count c.args.cliques.now c.args.end c.requires.end in
    let is = c.of-clique.ensures in
    omega arith

its_there : (c : After-index-first) → get_or c.args.cliques.now c.args.end 0 < clique_count c.args.cliques.now
its_there c = lt_clique_count c.args.cliques.now c.args.end c.requires.end

from_outside : (c : After-index-first) → is_outside c.args.cliques.now (get_or c.args.cliques.now c.args.end 0) c.args.start ≡ true
from_outside c = rw c.of-clique.ensures at (sym c.starts_outside.ensures ∙ c.if-starts_outside.true)

first_is : (c : After-index-first) → c.index-first.result.now ≡ get_or c.args.self.now.first.items (get_or c.args.cliques.now c.args.end 0) 0
first_is c =
    let size = c.requires.each in
    let there = its_there c in
    rw c.of-clique.ensures at (get_or_read c.args.self.now.first.items c.of-clique.result c.index-first.result.now (let is = c.of-clique.ensures in omega arith) c.index-first.ensures 0)

pub returns-then-first-clause-found : goal.returns-then-first-clause-found
returns-then-first-clause-found c = λ links is at.
    let a = (goal.at.returns-then-first-clause-found c).After-index-first in
    let none = is_none c.args.cliques.now links c.args.place c.args.self.now.first.items c.args.self.now.twice is c.args.start c.args.end at (from_outside a) (its_there a) c.requires.place (sym (first_is a) ∙ c.if-first.true) in
    rw c.of-clique.ensures (found_first c.args.cliques.now links c.args.place c.args.self.now.first.items c.args.self.now.twice is c.args.start c.args.end at (from_outside a) (its_there a) none)

pub returns-then-is_lower-clause-found : goal.returns-then-is_lower-clause-found
returns-then-is_lower-clause-found c = λ links is at.
    let a = (goal.at.returns-then-is_lower-clause-found c).After-index-first in
    let some : old c.args.cliques.now links c.args.place c.args.self.now.first.items c.args.self.now.twice is c.args.start c.args.end at (get_or c.args.cliques.now c.args.end 0) ≡ [] → ⊥ = (λ none. c.if-first.false (first_is a ∙ is.firsts (get_or c.args.cliques.now c.args.end 0) (its_there a) ∙ ap first_of none)) in
    rw (first_is a, c.of-clique.ensures) (found_lower c.args.cliques.now links c.args.place c.args.self.now.first.items c.args.self.now.twice is c.args.start c.args.end at (from_outside a) (its_there a) some
    (rw c.of-clique.ensures at (sym c.is_lower.ensures ∙ c.if-is_lower.true)))

pub returns-else-is_lower-clause-found : goal.returns-else-is_lower-clause-found
returns-else-is_lower-clause-found c = λ links is at.
    let a = (goal.at.returns-else-is_lower-clause-found c).After-index-first in
    let some : old c.args.cliques.now links c.args.place c.args.self.now.first.items c.args.self.now.twice is c.args.start c.args.end at (get_or c.args.cliques.now c.args.end 0) ≡ [] → ⊥ = (λ none. c.if-first.false (first_is a ∙ is.firsts (get_or c.args.cliques.now c.args.end 0) (its_there a) ∙ ap first_of none)) in
    found_higher c.args.cliques.now links c.args.place c.args.self.now.first.items c.args.self.now.twice is c.args.start c.args.end at (from_outside a) (its_there a) some
    (rw c.of-clique.ensures at (sym c.is_lower.ensures ∙ c.if-is_lower.false))

pub returns-else-starts_outside-clause-found : goal.returns-else-starts_outside-clause-found
returns-else-starts_outside-clause-found c = λ links is at.
    found_inside c.args.cliques.now links c.args.place c.args.self.now.first.items c.args.self.now.twice is c.args.start c.args.end at
    (rw c.of-clique.ensures at (sym c.starts_outside.ensures ∙ c.if-starts_outside.false))
