use Rattle.std.proofs.Common.{◌∙◌, sym, ap, arith, length, slice_index}
use Rattle.md_inst.specs.Instantiation.{known_at}
use Rattle.md_inst.specs.Kinds.{inst_map_of}
use Rattle.md_modes.specs.Views.{seen}
use Rattle.md_modes.proofs.InstantiationLemmas.{known_at-outside}
use Rattle.md_modes.proofs.Views.{length-seen, known_at-seen}
use Rattle.md_modes.proofs.end.End.inst.Goals as goal

pub returns-then-number-places : goal.returns-then-number-places
returns-then-number-places c =
    let m = inst_map_of c.args.self.insts.now in
    let xs = c.args.self.view.outside.local.now.places.items in
    let le = ap (λ ys. length ys) c.as_slice-places.ensures.value in
    c.inst_at.ensures ∙ (ap (λ ys. known_at m (slice_index ys c.args.number)) c.as_slice-places.ensures.value
    ∙ sym (known_at-seen xs m c.args.number (omega (arith, le, c.if-number-places.true))))

pub returns-else-number-places : goal.returns-else-number-places
returns-else-number-places c =
    let m = inst_map_of c.args.self.insts.now in
    let xs = c.args.self.view.outside.local.now.places.items in
    let le = ap (λ ys. length ys) c.as_slice-places.ensures.value in
    sym (known_at-outside (seen xs m) c.args.number (omega (arith, length-seen xs m, le, c.if-number-places.false)))
