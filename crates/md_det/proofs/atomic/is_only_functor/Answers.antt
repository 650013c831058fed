use Rattle.std.proofs.Common.{◌≡◌, ◌∙◌, sym, ap, arith, length}
use Rattle.md_det.specs.Switches.{is_alone}
use Rattle.md_det.specs.Told.{family_told}
use Rattle.md_det.proofs.Functors.{alone_counted}
use Rattle.md_det.proofs.atomic.is_only_functor.Goals as goal

pub returns-in-None : goal.returns-in-None
returns-in-None c = ap is_alone (sym (ap family_told c.in-None.is) ∙ c.family_of.ensures)

pub returns-in-Some : goal.returns-in-Some
returns-in-Some c =
    let t = c.in-Some.family.now in
    let counted : c.len.result ≡ length t.functors.items = omega (arith, c.len.ensures, t.functors.ok) in
    alone_counted t _ c.len.result counted (sym (ap family_told c.in-Some.is) ∙ c.family_of.ensures)
