use Rattle.std.proofs.Common.{◌≡◌, ◌∙◌, sym, ap, refl, false, true}
use Rattle.md_inst.specs.Kinds.{inst_map_of}
use Rattle.md_modes.specs.Branches.{all_have, clash, some_differ}
use Rattle.md_modes.proofs.ArmLemmas.{clash_told}
use Rattle.md_modes.proofs.joined.Joined.end.Goals as goal

pub returns-then-clashes : goal.returns-then-clashes
returns-then-clashes c p r qs h =
    let s = inst_map_of c.args.before.now in
    let alike : some_differ p s r qs ≡ false = sym h.differ ∙ c.if-self.false in
    let parts : clash s (all_have r qs) r qs ≡ true =
    clash_told p s c.args.self r qs (inst_map_of c.deref.result.now) c.deref-2.result.now h (ap inst_map_of c.deref.ensures.value) c.deref-2.ensures.value
    ∙ (sym c.clashes.ensures ∙ c.if-clashes.true) in
    rw (alike, parts) refl

pub returns : goal.returns
returns c p r qs h =
    let s = inst_map_of c.args.before.now in
    let alike : some_differ p s r qs ≡ false = sym h.differ ∙ c.if-self.false in
    let fits : clash s (all_have r qs) r qs ≡ false =
    clash_told p s c.args.self r qs (inst_map_of c.deref.result.now) c.deref-2.result.now h (ap inst_map_of c.deref.ensures.value) c.deref-2.ensures.value
    ∙ (sym c.clashes.ensures ∙ c.if-clashes.false) in
    rw (alike, fits, h.common) refl
