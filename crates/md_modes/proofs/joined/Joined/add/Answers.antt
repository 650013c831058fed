use Rattle.std.proofs.Common.{◌≡◌, ◌∙◌, refl, sym, ap, subst, arith, true, ◌<◌, ◌||◌, length}
use Rattle.md_inst.specs.Instantiation.{InstMap}
use Rattle.md_inst.specs.Kinds.{inst_map_of}
use Rattle.md_modes.specs.Joins.{occurs, end_of}
use Rattle.md_modes.specs.Shares.{commons, gained}
use Rattle.md_modes.proofs.ArmLemmas.{joins_added, joins_common, touched}
use Rattle.md_modes.proofs.Views.{length-seen}
use Rattle.md_modes.proofs.joined.Joined.add.Goals as goal

pub returns : goal.returns
returns c s r qs arm h =
    let end = c.args.end in
    let view = end.view in
    let p = occurs view.outside in
    let b = inst_map_of view.before.now in
    let q = end_of end in
    let j = c.args.self.now in
    let places = view.outside.local.now.places.items in
    let m = inst_map_of end.insts.now in
    let size : length b ≡ length places = ap length arm.before ∙ length-seen places s in
    let first : inst_map_of c.deref.result.now ≡ inst_map_of j.first.items = ap inst_map_of c.deref.ensures.value in
    joins_added p b r q qs j _ c.loses-loses.result c.gains-gains.result h refl
    (joins_common p end s r qs j _ _ arm h
    (c.in_ok-self.ensures.common ∙ ap (commons (inst_map_of j.common.items) q) c.deref-5.ensures.value) c.settle.ensures.size (c.settle.ensures.settled arm.rising))
    (c.in_ok-self.ensures.kept ∙ rw (c.deref-4.ensures.value, c.deref-5.ensures.value) refl)
    (c.either-self.ensures ∙ ap (λ x. j.differ || x) c.either.ensures)
    (c.loses-loses.ensures ∙ rw (c.deref-2.ensures.value, c.deref-3.ensures.value) refl)
    (λ e. let w = c.gains-gains.ensures.sound e in (w.0, omega (arith, w.1, size), subst (λ (k : InstMap). gained p b k q w.0 ≡ true) first w.2))
    (λ x lt e.
    let inside : x < length places = omega (arith, lt, size) in
    c.gains-gains.ensures.complete arm.rising x inside (touched p view end.own.now s m (inst_map_of j.first.items) x arm inside e)
    (subst (λ (k : InstMap). gained p b k q x ≡ true) (sym first) e))
