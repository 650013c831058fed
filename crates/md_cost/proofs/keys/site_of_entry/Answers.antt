use Rattle.std.proofs.Common.{◌≡◌, ℕ, length, get_or, Some, refl, sym, ap, ◌∙◌, arith}
use Rattle.std.specs.List.{slice_get}
use Rattle.std.proofs.lemmas.List.{get_or_read}
use Rattle.std.proofs.lemmas.Option.{slice_get_read, slice_get_within}
use Rattle.md_dynamic.specs.declared.link.LinkRow.{LinkRow}
use Rattle.md_clique.proofs.Naming.{lt_clique_count}
use Rattle.md_cost.specs.Paths.{ends}
use Rattle.md_cost.proofs.EntrySteps.{entry_there}
use Rattle.md_cost.proofs.TreeSteps.{length-ends}
use Rattle.md_cost.proofs.keys.site_of_entry.Goals as goal

pub index-entry-requires : goal.index-entry-requires
index-entry-requires c =
    let size = c.requires.tree.cliques_are.each in
    let there = c.requires.there in
    let below = lt_clique_count c.args.tree.now.cliques c.args.node (omega arith) in
    let is = c.of.ensures in
    let each = c.requires.tree.entries_are.each in
    let ok = c.args.tree.now.entries.ok.0 in
    omega arith

pub bounds-links-entry : goal.bounds-links-entry
bounds-links-entry c =
    let size = c.requires.tree.cliques_are.each in
    let there = c.requires.there in
    let below = lt_clique_count c.args.tree.now.cliques c.args.node (omega arith) in
    let is = c.of.ensures in
    let each = c.requires.tree.entries_are.each in
    let entry = get_or_read c.args.tree.now.entries.items c.of.result c.index-entry.result.now (omega arith) c.index-entry.ensures 0 in
    let link = entry_there c.args.tree.now.cliques (ends c.args.profile.now.links) c.args.tree.now.entries.items c.requires.tree.entries_are c.of.result (omega arith) in
    let within = slice_get_within (ends c.args.profile.now.links) (get_or c.args.tree.now.entries.items c.of.result 0) link.link link.there in
    let long = length-ends c.args.profile.now.links in
    rw c.links-links.ensures (omega arith)

pub bounds-links-entry-2 : goal.bounds-links-entry-2
bounds-links-entry-2 c =
    let size = c.requires.tree.cliques_are.each in
    let there = c.requires.there in
    let below = lt_clique_count c.args.tree.now.cliques c.args.node (omega arith) in
    let is = c.of.ensures in
    let each = c.requires.tree.entries_are.each in
    let entry = get_or_read c.args.tree.now.entries.items c.of.result c.index-entry.result.now (omega arith) c.index-entry.ensures 0 in
    let link = entry_there c.args.tree.now.cliques (ends c.args.profile.now.links) c.args.tree.now.entries.items c.requires.tree.entries_are c.of.result (omega arith) in
    let within = slice_get_within (ends c.args.profile.now.links) (get_or c.args.tree.now.entries.items c.of.result 0) link.link link.there in
    let long = length-ends c.args.profile.now.links in
    rw c.links-links.ensures (omega arith)

pub returns : goal.returns
returns c =
    let size = c.requires.tree.cliques_are.each in
    let there = c.requires.there in
    let below = lt_clique_count c.args.tree.now.cliques c.args.node (omega arith) in
    let is = c.of.ensures in
    let each = c.requires.tree.entries_are.each in
    let entry = get_or_read c.args.tree.now.entries.items c.of.result c.index-entry.result.now (omega arith) c.index-entry.ensures 0 in
    let link = entry_there c.args.tree.now.cliques (ends c.args.profile.now.links) c.args.tree.now.entries.items c.requires.tree.entries_are c.of.result (omega arith) in
    let within = slice_get_within (ends c.args.profile.now.links) (get_or c.args.tree.now.entries.items c.of.result 0) link.link link.there in
    let long = length-ends c.args.profile.now.links in
    let row_is = rw c.links-links.ensures at c.index-links-entry.is in
    let row : slice_get c.args.profile.now.links c.index-entry.result.now ≡ Some c.index-links-entry.result = slice_get_read c.args.profile.now.links (length c.args.profile.now.links) c.index-entry.result.now c.index-links-entry.result refl (omega arith) row_is in
    let place : c.index-entry.result.now ≡ get_or c.args.tree.now.entries.items (get_or c.args.tree.now.cliques c.args.node 0) 0 = entry ∙ ap (λ (k : ℕ). get_or c.args.tree.now.entries.items k 0) is in
    rw (← place, row) (c.number_of.ensures ∙ ap (λ (r : LinkRow). r.site) (sym c.index-links-entry.is))
