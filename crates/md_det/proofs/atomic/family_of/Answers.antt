use Rattle.std.proofs.Common.{◌∙◌, sym, ap, List, slice_get}
use Rattle.md_hlds.specs.declared.program.TypeDef.{TypeDef}
use Rattle.md_hlds.specs.declared.program.Program.{Program}
use Rattle.md_hlds.specs.Hlds.{hlds_of, type_defs_of}
use Rattle.md_det.specs.Judge.{type_of_name}
use Rattle.md_det.proofs.Functors.{family_got}
use Rattle.md_det.proofs.atomic.family_of.Goals as goal

pub returns-in-Functor : goal.returns-in-Functor
returns-in-Functor c =
    family_got c.deref.result.now c.in-Functor.place c.get.result c.get.ensures.lookup
    ∙ (ap (λ (ts : List TypeDef). slice_get (type_defs_of ts) c.in-Functor.place)
    (c.deref.ensures.value ∙ ap (λ (p : Program). p.types.items) c.program.ensures.program)
    ∙ ap (type_of_name (hlds_of c.args.moded.now)) (sym c.in-Functor.is ∙ c.named.ensures))
