use Rattle.std.proofs.Common.{◌≡◌, length, map, get_or, None, refl, sym, ap, ◌∙◌, arith}
use Rattle.std.proofs.lemmas.Grind.{common_steps}
use Rattle.md_cost.specs.FileView.{module_at, procedure_at, site_above}
use Rattle.md_cost.specs.Paths.{start_of}
use Rattle.md_cost.specs.Walking.{AreThreaded, above, at_bound}
use Rattle.md_cost.proofs.OutermostSteps.{begun_with, finished_with, site_there}
use Rattle.md_cost.proofs.ThreadSteps.{bound_at}
use Rattle.md_cost.proofs.ValidSteps.{module_below, procedure_there}
use Rattle.md_cost.proofs.outermost.find_outermost.Goals as goal

pub loop-walk-init : goal.loop-walk-init
loop-walk-init c =
    let size : length c.nodes-size.result.now ≡ length c.args.tree.now.cliques = ap length c.nodes-size.ensures ∙ sym c.requires.tree.cliques_are.each in
    let threaded : AreThreaded (length c.args.tree.now.cliques) (above c.args.tree.now.cliques (start_of c.args.profile.now.links c.args.tree.now.entries.items)) (map at_bound c.in_ok-first.field-0.first.items) (map at_bound c.in_ok-first.field-0.next.items) = rw (c.links.ensures, size) at c.in_ok-first.ensures.threads in
    record {
      procedures = begun_with c.args.profile.now c.requires.valid c.args.tree.now.cliques c.args.tree.now.entries.items c.requires.rise (procedure_at c.args.profile.now) (length c.args.profile.now.statics.procs) (procedure_there c.args.profile.now c.requires.valid)
          (map at_bound c.in_ok-first.field-0.first.items) (map at_bound c.in_ok-first.field-0.next.items) threaded (length c.nodes-size.result.now) size c.in_ok-none.field-0 (rw (c.procs.ensures, c.statics-statics.ensures) at c.in_ok-none.ensures.active) c.in_ok-none.ensures.outermost;
      modules = begun_with c.args.profile.now c.requires.valid c.args.tree.now.cliques c.args.tree.now.entries.items c.requires.rise (module_at c.args.profile.now) (length c.args.profile.now.statics.modules) (module_below c.args.profile.now c.requires.valid)
          (map at_bound c.in_ok-first.field-0.first.items) (map at_bound c.in_ok-first.field-0.next.items) threaded (length c.nodes-size.result.now) size c.in_ok-none-2.field-0 (rw (c.modules.ensures, c.statics-statics.ensures) at c.in_ok-none-2.ensures.active) c.in_ok-none-2.ensures.outermost;
      sites = begun_with c.args.profile.now c.requires.valid c.args.tree.now.cliques c.args.tree.now.entries.items c.requires.rise (site_above c.args.profile.now c.args.tree.now.cliques c.args.tree.now.entries.items) (length c.args.profile.now.statics.sites) (site_there c.args.profile.now c.requires.valid c.args.tree.now.cliques c.args.tree.now.entries.items)
          (map at_bound c.in_ok-first.field-0.first.items) (map at_bound c.in_ok-first.field-0.next.items) threaded (length c.nodes-size.result.now) size c.in_ok-none-3.field-0 (rw (c.sites.ensures, c.statics-statics.ensures) at c.in_ok-none-3.ensures.active) c.in_ok-none-3.ensures.outermost;
    }

pub returns : goal.returns
returns c =
    let size : length c.nodes-size.result.now ≡ length c.args.tree.now.cliques = ap length c.nodes-size.ensures ∙ sym c.requires.tree.cliques_are.each in
    let threaded : AreThreaded (length c.args.tree.now.cliques) (above c.args.tree.now.cliques (start_of c.args.profile.now.links c.args.tree.now.entries.items)) (map at_bound c.in_ok-first.field-0.first.items) (map at_bound c.in_ok-first.field-0.next.items) = rw (c.links.ensures, size) at c.in_ok-first.ensures.threads in
    let over = c.loop-walk-test.ensures.0 refl in
    let none : get_or (map at_bound c.loop-walk.walk.first.items) c.loop-walk.walk.at None ≡ None = bound_at c.loop-walk.walk.first.items c.loop-walk.walk.at ∙ ap at_bound over.1 in
    record {
      procedures = finished_with c.args.profile.now c.requires.valid c.args.tree.now.cliques c.args.tree.now.entries.items c.requires.rise (map at_bound c.in_ok-first.field-0.next.items) threaded.nexts (procedure_at c.args.profile.now) (length c.args.profile.now.statics.procs) (procedure_there c.args.profile.now c.requires.valid)
          (map at_bound c.loop-walk.walk.first.items) c.loop-walk.walk.procedures c.loop-walk.walk.at c.loop-walk.invariant.procedures (over.0 ∙ size) none;
      modules = finished_with c.args.profile.now c.requires.valid c.args.tree.now.cliques c.args.tree.now.entries.items c.requires.rise (map at_bound c.in_ok-first.field-0.next.items) threaded.nexts (module_at c.args.profile.now) (length c.args.profile.now.statics.modules) (module_below c.args.profile.now c.requires.valid)
          (map at_bound c.loop-walk.walk.first.items) c.loop-walk.walk.modules c.loop-walk.walk.at c.loop-walk.invariant.modules (over.0 ∙ size) none;
      sites = finished_with c.args.profile.now c.requires.valid c.args.tree.now.cliques c.args.tree.now.entries.items c.requires.rise (map at_bound c.in_ok-first.field-0.next.items) threaded.nexts (site_above c.args.profile.now c.args.tree.now.cliques c.args.tree.now.entries.items) (length c.args.profile.now.statics.sites) (site_there c.args.profile.now c.requires.valid c.args.tree.now.cliques c.args.tree.now.entries.items)
          (map at_bound c.loop-walk.walk.first.items) c.loop-walk.walk.sites c.loop-walk.walk.at c.loop-walk.invariant.sites (over.0 ∙ size) none;
    }

pub descend-requires-clause-nodes : goal.descend-requires-clause-nodes
descend-requires-clause-nodes c = ap length c.nodes-size.ensures ∙ sym c.requires.tree.cliques_are.each

pub descend-requires-clause-entries : goal.descend-requires-clause-entries
descend-requires-clause-entries c = c.requires.tree.entries_are.each

pub descend-requires-clause-rise : goal.descend-requires-clause-rise
descend-requires-clause-rise c = rw c.links.ensures c.requires.rise

pub step-requires-clause-valid : goal.step-requires-clause-valid
step-requires-clause-valid c = c.requires.valid

pub step-requires-clause-tree : goal.step-requires-clause-tree
step-requires-clause-tree c = c.requires.tree

pub step-requires-clause-rise : goal.step-requires-clause-rise
step-requires-clause-rise c = c.requires.rise

pub loop-walk-preserved : goal.loop-walk-preserved
loop-walk-preserved c = grind (arith, common_steps)
