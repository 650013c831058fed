use Rattle.std.proofs.Common.{arith}
use Rattle.std.proofs.lemmas.Grind.{common_steps}
use Rattle.md_modes.proofs.Notings.{ho_same, copied-more}
use Rattle.md_modes.proofs.copies.+copies.Goals as goal

pub copy_type-returns-in_ok-copy_closure-in-Ho : goal.copy_type-returns-in_ok-copy_closure-in-Ho
copy_type-returns-in_ok-copy_closure-in-Ho t c =
    ho_same c.in_ok-copy_closure-in-Ho.field-0 c.in-Ho.ho c.args.ty.now c.in-Ho.is
    c.in_ok-copy_closure-in-Ho.ensures.types c.in_ok-copy_closure-in-Ho.ensures.modes c.in_ok-copy_closure-in-Ho.ensures.det

pub copy_types-loop-ty-preserved : goal.copy_types-loop-ty-preserved
copy_types-loop-ty-preserved t c =
    copied-more c.loop-ty.copies.items c.push.new.self.items c.args.types.now c.loop-ty.ty-index c.ty-item.result c.in_ok-copy_type.field-0 _
    (omega arith) c.ty-item.is c.in_ok-push.ensures.items c.in_ok-copy_type.ensures c.loop-ty.invariant

pub copy_closure-returns-clause-types : goal.copy_closure-returns-clause-types
copy_closure-returns-clause-types t c = grind (arith, common_steps)

pub copy_closure-returns-clause-modes : goal.copy_closure-returns-clause-modes
copy_closure-returns-clause-modes t c = grind (arith, common_steps)

pub copy_closure-returns-clause-det : goal.copy_closure-returns-clause-det
copy_closure-returns-clause-det t c = grind (arith, common_steps)

pub copy_type-returns-in-Int : goal.copy_type-returns-in-Int
copy_type-returns-in-Int t c = grind (arith, common_steps)

pub copy_type-returns-in-Str : goal.copy_type-returns-in-Str
copy_type-returns-in-Str t c = grind (arith, common_steps)

pub copy_type-returns-in-Io : goal.copy_type-returns-in-Io
copy_type-returns-in-Io t c = grind (arith, common_steps)

pub copy_type-returns-in_ok-copy-in-User : goal.copy_type-returns-in_ok-copy-in-User
copy_type-returns-in_ok-copy-in-User t c = grind (arith, common_steps)

pub copy_types-returns : goal.copy_types-returns
copy_types-returns t c = grind (arith, common_steps)
