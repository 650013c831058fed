use Rattle.std.proofs.Common.{◌∙◌, ap, subst, arith}
use Rattle.md_hlds.specs.Hlds.{hlds_of}
use Rattle.md_hlds.specs.declared.program.Program.{Program}
use Rattle.md_modes.specs.Notes.{program_notes}
use Rattle.md_modes.specs.Classes.{AreFew}
use Rattle.md_modes.proofs.Sizes.{after_few}
use Rattle.md_modes.proofs.NoteLemmas.{note_found}
use Rattle.md_modes.proofs.NoteNames.{named_told, size_told}
use Rattle.md_modes.proofs.RoleLemmas.{role_told}
use Rattle.md_modes.proofs.moded.Moded.note.Goals as goal

pub returns-clause-found : goal.returns-clause-found
returns-clause-found c =
    note_found c.self.inside.notes.items c.args.goal (program_notes (hlds_of c.args.self.now)) c.get.result
    (c.self.invariant.1 ∙ ap (λ (p : Program). program_notes (hlds_of p)) c.self.view_is)
    (rw (c.deref.ensures.value) at c.get.ensures.lookup)

pub returns-clause-kind : goal.returns-clause-kind
returns-clause-kind c = role_told (hlds_of c.args.self.now) c.args.goal (rw c.self.view_is at c.self.invariant.0)

pub returns-clause-named : goal.returns-clause-named
returns-clause-named c = named_told (hlds_of c.args.self.now) c.args.goal

pub returns-clause-size : goal.returns-clause-size
returns-clause-size c = size_told (hlds_of c.args.self.now) c.args.goal

pub returns-clause-small : goal.returns-clause-small
returns-clause-small c lt =
    let s = hlds_of c.args.self.now in
    let few : AreFew s = subst (λ (p : Program). AreFew (hlds_of p)) c.self.view_is c.self.invariant.2 in
    omega (arith, after_few s c.args.goal 4294967294 (omega (arith, few)) (omega (arith, lt)))
