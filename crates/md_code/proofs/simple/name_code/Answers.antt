use Rattle.std.proofs.Common.{◌≡◌, ◌∙◌, sym, ap, Some, Option, length, ℕ, List}
use Rattle.md_hlds.specs.declared.program.Program.{Program}
use Rattle.md_hlds.specs.Hlds.{hlds_of}
use Rattle.md_hlds.specs.declared.goal.Term.TheVariants.{Name}
use Rattle.md_modes.specs.Notes.{Role, takes_apart, program_notes}
use Rattle.md_modes.specs.Classes.{role_at, role_told}
use Rattle.md_code.specs.Tables.{functor_number}
use Rattle.md_code.specs.Blocks.{unify_code, take_code}
use Rattle.md_code.specs.Told.{place_told}
use Rattle.md_code.proofs.SurveyLemmas.{if-ok-map}
use Rattle.md_code.proofs.simple.name_code.Goals as goal

pub returns-in-Some-Deconstruct : goal.returns-in-Some-Deconstruct
returns-in-Some-Deconstruct c =
    let s = hlds_of c.args.tables.now.source.checked.now in
    let t = Name c.args.name.now c.args.places.now in
    let role : role_at (program_notes s) c.args.number ≡ Some (takes_apart c.in-Some-Deconstruct.bound.items) = ap (λ (p : Program). role_at (program_notes (hlds_of p)) c.args.number) (sym c.moded.ensures) ∙ c.in-Some-Deconstruct.ensures.found ∙ ap (λ k. Some (role_told k)) c.in-Some-Deconstruct.field-0-is in
    let head : c.functor-head.result ≡ functor_number s c.args.name.now.name (length c.args.places.now) = c.functor-head.ensures ∙ ap (λ (bytes : List ℕ). functor_number s bytes (length c.args.places.now)) c.as_bytes.ensures.bytes in
    if-ok-map c.take_code.result
    (λ code is. is s c.args.name.now c.args.places.now head
    ∙ (ap (λ (bound : List ℕ). take_code s c.args.number c.args.x t bound (place_told c.args.at)) c.as_slice.ensures.value
    ∙ ap (λ (r : Option Role). unify_code s c.args.number c.args.x t (place_told c.args.at) r) (sym role)))
    c.take_code.ensures
