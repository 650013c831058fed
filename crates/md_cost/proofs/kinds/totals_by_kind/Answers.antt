use Rattle.std.proofs.Common.{◌≡◌, ◌<◌, All, length, arith}
use Rattle.std.proofs.lemmas.Grind.{common_steps}
use Rattle.md_cost.specs.FileView.{module_at, procedure_at, site_above}
use Rattle.md_cost.specs.Walking.{marked}
use Rattle.md_cost.proofs.KeySteps.{grouped_more}
use Rattle.md_cost.proofs.KeyTotals.{totals_by, totals_room}
use Rattle.md_cost.proofs.OutermostSteps.{site_there}
use Rattle.md_cost.proofs.TreeSteps.{callees_there}
use Rattle.md_cost.proofs.ValidSteps.{module_below, procedure_there, valid_sound}
use Rattle.md_cost.proofs.kinds.totals_by_kind.Goals as goal

pub add-requires-clause-procedures : goal.add-requires-clause-procedures
add-requires-clause-procedures c =
    let ends : All (λ r. r.callee < length c.args.tree.now.cliques) c.args.profile.now.links = (rw c.requires.tree.cliques_are.each (callees_there (length c.args.profile.now.nodes) c.args.profile.now.links (valid_sound c.args.profile.now c.requires.valid).links)) in
    rw (c.marks.ensures.procedures, c.keys_of.ensures.procedures)
    (totals_room c.args.tree.now.cliques c.args.tree.now.entries.items c.args.profile.now.links ends c.requires.rise (valid_sound c.args.profile.now c.requires.valid).links.few_links c.requires.small (procedure_at c.args.profile.now) c.args.outermost.now.procedures.items c.requires.outermost.procedures
    (length c.args.profile.now.statics.procs) (procedure_there c.args.profile.now c.requires.valid) c.args.totals.now c.requires.totals c.loop-place.place c.loop-place.sums.procedures.items c.loop-place.invariant.procedures c.loop-place-test.true)

pub returns-clause-procedures : goal.returns-clause-procedures
returns-clause-procedures c =
    let ends : All (λ r. r.callee < length c.args.tree.now.cliques) c.args.profile.now.links = (rw c.requires.tree.cliques_are.each (callees_there (length c.args.profile.now.nodes) c.args.profile.now.links (valid_sound c.args.profile.now c.requires.valid).links)) in
    let end = c.loop-place.auto.place-end in
    let done : c.loop-place.place ≡ length c.args.totals.now = omega arith in
    totals_by c.args.tree.now.cliques c.args.tree.now.entries.items c.args.profile.now.links ends c.requires.rise (procedure_at c.args.profile.now) c.args.outermost.now.procedures.items c.requires.outermost.procedures
    c.args.totals.now c.requires.totals (length c.args.profile.now.statics.procs) c.loop-place.sums.procedures.items (rw done at c.loop-place.invariant.procedures)

pub add-requires-clause-modules : goal.add-requires-clause-modules
add-requires-clause-modules c =
    let ends : All (λ r. r.callee < length c.args.tree.now.cliques) c.args.profile.now.links = (rw c.requires.tree.cliques_are.each (callees_there (length c.args.profile.now.nodes) c.args.profile.now.links (valid_sound c.args.profile.now c.requires.valid).links)) in
    rw (c.marks.ensures.modules, c.keys_of.ensures.modules)
    (totals_room c.args.tree.now.cliques c.args.tree.now.entries.items c.args.profile.now.links ends c.requires.rise (valid_sound c.args.profile.now c.requires.valid).links.few_links c.requires.small (module_at c.args.profile.now) c.args.outermost.now.modules.items c.requires.outermost.modules
    (length c.args.profile.now.statics.modules) (module_below c.args.profile.now c.requires.valid) c.args.totals.now c.requires.totals c.loop-place.place c.loop-place.sums.modules.items c.loop-place.invariant.modules c.loop-place-test.true)

pub returns-clause-modules : goal.returns-clause-modules
returns-clause-modules c =
    let ends : All (λ r. r.callee < length c.args.tree.now.cliques) c.args.profile.now.links = (rw c.requires.tree.cliques_are.each (callees_there (length c.args.profile.now.nodes) c.args.profile.now.links (valid_sound c.args.profile.now c.requires.valid).links)) in
    let end = c.loop-place.auto.place-end in
    let done : c.loop-place.place ≡ length c.args.totals.now = omega arith in
    totals_by c.args.tree.now.cliques c.args.tree.now.entries.items c.args.profile.now.links ends c.requires.rise (module_at c.args.profile.now) c.args.outermost.now.modules.items c.requires.outermost.modules
    c.args.totals.now c.requires.totals (length c.args.profile.now.statics.modules) c.loop-place.sums.modules.items (rw done at c.loop-place.invariant.modules)

pub add-requires-clause-sites : goal.add-requires-clause-sites
add-requires-clause-sites c =
    let ends : All (λ r. r.callee < length c.args.tree.now.cliques) c.args.profile.now.links = (rw c.requires.tree.cliques_are.each (callees_there (length c.args.profile.now.nodes) c.args.profile.now.links (valid_sound c.args.profile.now c.requires.valid).links)) in
    rw (c.marks.ensures.sites, c.keys_of.ensures.sites)
    (totals_room c.args.tree.now.cliques c.args.tree.now.entries.items c.args.profile.now.links ends c.requires.rise (valid_sound c.args.profile.now c.requires.valid).links.few_links c.requires.small (site_above c.args.profile.now c.args.tree.now.cliques c.args.tree.now.entries.items) c.args.outermost.now.sites.items c.requires.outermost.sites
    (length c.args.profile.now.statics.sites) (site_there c.args.profile.now c.requires.valid c.args.tree.now.cliques c.args.tree.now.entries.items) c.args.totals.now c.requires.totals c.loop-place.place c.loop-place.sums.sites.items c.loop-place.invariant.sites c.loop-place-test.true)

pub returns-clause-sites : goal.returns-clause-sites
returns-clause-sites c =
    let ends : All (λ r. r.callee < length c.args.tree.now.cliques) c.args.profile.now.links = (rw c.requires.tree.cliques_are.each (callees_there (length c.args.profile.now.nodes) c.args.profile.now.links (valid_sound c.args.profile.now c.requires.valid).links)) in
    let end = c.loop-place.auto.place-end in
    let done : c.loop-place.place ≡ length c.args.totals.now = omega arith in
    totals_by c.args.tree.now.cliques c.args.tree.now.entries.items c.args.profile.now.links ends c.requires.rise (site_above c.args.profile.now c.args.tree.now.cliques c.args.tree.now.entries.items) c.args.outermost.now.sites.items c.requires.outermost.sites
    c.args.totals.now c.requires.totals (length c.args.profile.now.statics.sites) c.loop-place.sums.sites.items (rw done at c.loop-place.invariant.sites)

pub loop-place-preserved : goal.loop-place-preserved
loop-place-preserved c =
    record {
      procedures = grouped_more (marked (procedure_at c.args.profile.now) c.args.outermost.now.procedures.items) c.args.totals.now (length c.args.profile.now.statics.procs) c.loop-place.place c.loop-place.sums.procedures.items c.loop-place.invariant.procedures c.add.new.self.procedures.items
          (rw (c.marks.ensures.procedures, c.keys_of.ensures.procedures) at c.add.ensures.procedures);
      modules = grouped_more (marked (module_at c.args.profile.now) c.args.outermost.now.modules.items) c.args.totals.now (length c.args.profile.now.statics.modules) c.loop-place.place c.loop-place.sums.modules.items c.loop-place.invariant.modules c.add.new.self.modules.items
          (rw (c.marks.ensures.modules, c.keys_of.ensures.modules) at c.add.ensures.modules);
      sites = grouped_more (marked (site_above c.args.profile.now c.args.tree.now.cliques c.args.tree.now.entries.items) c.args.outermost.now.sites.items) c.args.totals.now (length c.args.profile.now.statics.sites) c.loop-place.place c.loop-place.sums.sites.items c.loop-place.invariant.sites c.add.new.self.sites.items
          (rw (c.marks.ensures.sites, c.keys_of.ensures.sites) at c.add.ensures.sites);
    }

pub loop-place-init : goal.loop-place-init
loop-place-init c = grind (arith, common_steps)

pub loop-place-smaller : goal.loop-place-smaller
loop-place-smaller c = grind (arith, common_steps)

pub marks-requires-clause-modules : goal.marks-requires-clause-modules
marks-requires-clause-modules c = grind (arith, common_steps)

pub marks-requires-clause-procedures : goal.marks-requires-clause-procedures
marks-requires-clause-procedures c = grind (arith, common_steps)

pub marks-requires-clause-sites : goal.marks-requires-clause-sites
marks-requires-clause-sites c = grind (arith, common_steps)

pub returns-in_err-sums-clause-modules : goal.returns-in_err-sums-clause-modules
returns-in_err-sums-clause-modules c = grind (arith, common_steps)

pub returns-in_err-sums-clause-procedures : goal.returns-in_err-sums-clause-procedures
returns-in_err-sums-clause-procedures c = grind (arith, common_steps)

pub returns-in_err-sums-clause-sites : goal.returns-in_err-sums-clause-sites
returns-in_err-sums-clause-sites c = grind (arith, common_steps)

pub keys_of-requires-clause-there : goal.keys_of-requires-clause-there
keys_of-requires-clause-there c = grind (arith, common_steps)

pub keys_of-requires-clause-tree : goal.keys_of-requires-clause-tree
keys_of-requires-clause-tree c = grind (arith, common_steps)

pub keys_of-requires-clause-valid : goal.keys_of-requires-clause-valid
keys_of-requires-clause-valid c = grind (arith, common_steps)
