use Rattle.std.proofs.Common.{List, replicate, sym, ℕ, ap, subst, arith, ◌≡◌, ◌+◌, ◌<◌, ◌++◌, ◌∷◌, [], All, IfSome, length, take, refl, ◌∙◌}
use Rattle.std.proofs.lemmas.List.{take_more, take_all}
use Rattle.md_dynamic.specs.declared.link.LinkRow.{LinkRow}
use Rattle.md_dynamic.specs.Profile.{ProfileRows}
use Rattle.md_dynamic.specs.Valid.{IsValid}
use Rattle.md_cost.specs.Climbing.{AreSmall}
use Rattle.md_static.specs.Tables.{Static}
use Rattle.md_cost.specs.SumOf.{zero_sums}
use Rattle.md_cost.specs.declared.sums.Sums.{Sums}
use Rattle.md_cost.specs.FileView.{module_at, procedure_at}
use Rattle.md_cost.proofs.KeySteps.{ByLinks, by_links_none, by_links_all, by_links_room, by_links_more, small_more, length-take-le-n}
use Rattle.md_cost.proofs.TreeSteps.{callees_there}
use Rattle.md_cost.proofs.ValidSteps.{all_sites_there, module_below, procedure_there, valid_sound}
use Rattle.md_cost.proofs.WalkSteps.{key_below}
use Rattle.md_cost.proofs.kinds.own_by_kind.Goals as goal

few : (f : ProfileRows) → IsValid f → (i : ℕ) → i < length f.links → i + 1 < 4294967296
few f valid i lt = let all = (valid_sound f valid).links.few_links in omega arith

pub keys_of_link-requires-clause-there : goal.keys_of_link-requires-clause-there
keys_of_link-requires-clause-there c =
    let lt : c.loop-link.link-index < length c.args.profile.now.links = rw c.links-link-items.ensures at c.loop-link-test.true in
    let is = rw c.links-link-items.ensures at c.link-item.is in
    let ends : All (λ r. r.callee < length c.args.profile.now.nodes) c.args.profile.now.links = callees_there (length c.args.profile.now.nodes) c.args.profile.now.links (valid_sound c.args.profile.now c.requires).links in
    let callee = ends c.loop-link.link-index c.link-item.result lt in
    rw (← is) at callee

pub add-requires-clause-procedures : goal.add-requires-clause-procedures
add-requires-clause-procedures c =
    let lt : c.loop-link.link-index < length c.args.profile.now.links = rw c.links-link-items.ensures at c.loop-link-test.true in
    let is = rw c.links-link-items.ensures at c.link-item.is in
    let next : take (c.loop-link.link-index + 1) c.args.profile.now.links ≡ take c.loop-link.link-index c.args.profile.now.links ++ c.link-item.result ∷ [] = take_more c.args.profile.now.links c.loop-link.link-index c.link-item.result lt ∙ (rw (← is) refl) in
    rw c.keys_of_link.ensures.procedures (by_links_room (λ r. procedure_at c.args.profile.now r.callee) c.args.profile.now.links (length c.args.profile.now.statics.procs) c.loop-link.link-index c.loop-link.own.procedures.items c.loop-link.invariant.procedures c.link-item.result next c.from_counts.result c.from_counts.ensures.value (few c.args.profile.now c.requires c.loop-link.link-index lt) c.loop-link.invariant.small c.from_counts.ensures.small (length-take-le-n c.loop-link.link-index c.args.profile.now.links) (procedure_at c.args.profile.now c.link-item.result.callee) refl
    (key_below (length c.args.profile.now.statics.procs) (procedure_at c.args.profile.now c.link-item.result.callee) (procedure_there c.args.profile.now c.requires c.link-item.result.callee)))

pub add-requires-clause-modules : goal.add-requires-clause-modules
add-requires-clause-modules c =
    let lt : c.loop-link.link-index < length c.args.profile.now.links = rw c.links-link-items.ensures at c.loop-link-test.true in
    let is = rw c.links-link-items.ensures at c.link-item.is in
    let next : take (c.loop-link.link-index + 1) c.args.profile.now.links ≡ take c.loop-link.link-index c.args.profile.now.links ++ c.link-item.result ∷ [] = take_more c.args.profile.now.links c.loop-link.link-index c.link-item.result lt ∙ (rw (← is) refl) in
    rw c.keys_of_link.ensures.modules (by_links_room (λ r. module_at c.args.profile.now r.callee) c.args.profile.now.links (length c.args.profile.now.statics.modules) c.loop-link.link-index c.loop-link.own.modules.items c.loop-link.invariant.modules c.link-item.result next c.from_counts.result c.from_counts.ensures.value (few c.args.profile.now c.requires c.loop-link.link-index lt) c.loop-link.invariant.small c.from_counts.ensures.small (length-take-le-n c.loop-link.link-index c.args.profile.now.links) (module_at c.args.profile.now c.link-item.result.callee) refl
    (key_below (length c.args.profile.now.statics.modules) (module_at c.args.profile.now c.link-item.result.callee) (module_below c.args.profile.now c.requires c.link-item.result.callee)))

pub add-requires-clause-sites : goal.add-requires-clause-sites
add-requires-clause-sites c =
    let lt : c.loop-link.link-index < length c.args.profile.now.links = rw c.links-link-items.ensures at c.loop-link-test.true in
    let is = rw c.links-link-items.ensures at c.link-item.is in
    let next : take (c.loop-link.link-index + 1) c.args.profile.now.links ≡ take c.loop-link.link-index c.args.profile.now.links ++ c.link-item.result ∷ [] = take_more c.args.profile.now.links c.loop-link.link-index c.link-item.result lt ∙ (rw (← is) refl) in
    let there = all_sites_there c.args.profile.now c.requires c.loop-link.link-index c.link-item.result lt in
    let below : IfSome c.link-item.result.site (λ s. s < length c.args.profile.now.statics.sites) = rw (← is) at there in
    rw c.keys_of_link.ensures.sites (by_links_room (λ r. r.site) c.args.profile.now.links (length c.args.profile.now.statics.sites) c.loop-link.link-index c.loop-link.own.sites.items c.loop-link.invariant.sites c.link-item.result next c.from_counts.result c.from_counts.ensures.value (few c.args.profile.now c.requires c.loop-link.link-index lt) c.loop-link.invariant.small c.from_counts.ensures.small (length-take-le-n c.loop-link.link-index c.args.profile.now.links) c.link-item.result.site refl below)

pub loop-link-preserved : goal.loop-link-preserved
loop-link-preserved c =
    let lt : c.loop-link.link-index < length c.args.profile.now.links = rw c.links-link-items.ensures at c.loop-link-test.true in
    let is = rw c.links-link-items.ensures at c.link-item.is in
    let next : take (c.loop-link.link-index + 1) c.args.profile.now.links ≡ take c.loop-link.link-index c.args.profile.now.links ++ c.link-item.result ∷ [] = take_more c.args.profile.now.links c.loop-link.link-index c.link-item.result lt ∙ (rw (← is) refl) in
    record {
      small = small_more c.args.profile.now.links c.loop-link.link-index c.link-item.result next c.from_counts.result c.from_counts.ensures.value c.from_counts.ensures.small c.loop-link.invariant.small;
      procedures = by_links_more (λ r. procedure_at c.args.profile.now r.callee) c.args.profile.now.links (length c.args.profile.now.statics.procs) c.loop-link.link-index c.loop-link.own.procedures.items c.loop-link.invariant.procedures c.link-item.result next c.from_counts.result c.from_counts.ensures.value c.add.new.self.procedures.items (rw c.keys_of_link.ensures.procedures at c.add.ensures.procedures);
      modules = by_links_more (λ r. module_at c.args.profile.now r.callee) c.args.profile.now.links (length c.args.profile.now.statics.modules) c.loop-link.link-index c.loop-link.own.modules.items c.loop-link.invariant.modules c.link-item.result next c.from_counts.result c.from_counts.ensures.value c.add.new.self.modules.items (rw c.keys_of_link.ensures.modules at c.add.ensures.modules);
      sites = by_links_more (λ r. r.site) c.args.profile.now.links (length c.args.profile.now.statics.sites) c.loop-link.link-index c.loop-link.own.sites.items c.loop-link.invariant.sites c.link-item.result next c.from_counts.result c.from_counts.ensures.value c.add.new.self.sites.items (rw c.keys_of_link.ensures.sites at c.add.ensures.sites);
    }

pub returns-clause-small : goal.returns-clause-small
returns-clause-small c =
    let rows = c.args.profile.now.links in
    let items : length c.links-link-items.result.now ≡ length rows = ap length c.links-link-items.ensures in
    let done : c.loop-link.link-index ≡ length rows = omega (arith, items) in
    let all : take (length rows) rows ≡ rows = take_all (length rows) rows (omega arith) in
    subst (λ (xs : List LinkRow). AreSmall xs) (ap (λ (i : ℕ). take i rows) done ∙ all) c.loop-link.invariant.small

pub returns-clause-procedures : goal.returns-clause-procedures
returns-clause-procedures c =
    let rows = c.args.profile.now.links in
    let count = length c.args.profile.now.statics.procs in
    let items : length c.links-link-items.result.now ≡ length rows = ap length c.links-link-items.ensures in
    let done : c.loop-link.link-index ≡ length rows = omega (arith, items) in
    by_links_all (λ r. procedure_at c.args.profile.now r.callee) rows count c.loop-link.own.procedures.items (subst (λ (i : ℕ). ByLinks (λ r. procedure_at c.args.profile.now r.callee) rows count i c.loop-link.own.procedures.items) done c.loop-link.invariant.procedures)

pub returns-clause-modules : goal.returns-clause-modules
returns-clause-modules c =
    let rows = c.args.profile.now.links in
    let count = length c.args.profile.now.statics.modules in
    let items : length c.links-link-items.result.now ≡ length rows = ap length c.links-link-items.ensures in
    let done : c.loop-link.link-index ≡ length rows = omega (arith, items) in
    by_links_all (λ r. module_at c.args.profile.now r.callee) rows count c.loop-link.own.modules.items (subst (λ (i : ℕ). ByLinks (λ r. module_at c.args.profile.now r.callee) rows count i c.loop-link.own.modules.items) done c.loop-link.invariant.modules)

pub returns-clause-sites : goal.returns-clause-sites
returns-clause-sites c =
    let rows = c.args.profile.now.links in
    let count = length c.args.profile.now.statics.sites in
    let items : length c.links-link-items.result.now ≡ length rows = ap length c.links-link-items.ensures in
    let done : c.loop-link.link-index ≡ length rows = omega (arith, items) in
    by_links_all (λ r. r.site) rows count c.loop-link.own.sites.items (subst (λ (i : ℕ). ByLinks (λ r. r.site) rows count i c.loop-link.own.sites.items) done c.loop-link.invariant.sites)

pub loop-link-init : goal.loop-link-init
loop-link-init c =
    let rows = c.args.profile.now.links in
    let statics = c.args.profile.now.statics in
    record {
      small = λ m. omega arith;
      procedures = subst (λ (sums : List Sums). ByLinks (λ r. procedure_at c.args.profile.now r.callee) rows (length statics.procs) 0 sums) (sym (c.in_ok-own.ensures.procedures ∙ ap (λ (s : Static). replicate (length s.procs) zero_sums) c.statics.ensures)) (by_links_none (λ r. procedure_at c.args.profile.now r.callee) rows (length statics.procs));
      modules = subst (λ (sums : List Sums). ByLinks (λ r. module_at c.args.profile.now r.callee) rows (length statics.modules) 0 sums) (sym (c.in_ok-own.ensures.modules ∙ ap (λ (s : Static). replicate (length s.modules) zero_sums) c.statics.ensures)) (by_links_none (λ r. module_at c.args.profile.now r.callee) rows (length statics.modules));
      sites = subst (λ (sums : List Sums). ByLinks (λ r. r.site) rows (length statics.sites) 0 sums) (sym (c.in_ok-own.ensures.sites ∙ ap (λ (s : Static). replicate (length s.sites) zero_sums) c.statics.ensures)) (by_links_none (λ r. r.site) rows (length statics.sites));
    }
