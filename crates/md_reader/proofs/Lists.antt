-- The plain data of a vector with one more item.
use Rattle.std.proofs.Common.{◌≡◌, List, [], ◌∷◌, ◌++◌, refl, ap, length, suc}
use Rattle.md_hlds.specs.declared.types.Ty.{Ty}
use Rattle.md_hlds.specs.declared.types.Mode.{Mode}
use Rattle.md_hlds.specs.declared.program.Functor.{Functor}
use Rattle.md_hlds.specs.declared.program.TypeDef.{TypeDef}
use Rattle.md_hlds.specs.declared.program.Pred.{Pred}
use Rattle.md_hlds.specs.Hlds.{hlds_type_of, hlds_types_of, hlds_functor_of, hlds_functors_of, args_of, type_def_of, type_defs_of, procedure_of, procedures_of}
use Rattle.md_reader.specs.declared.program.Draft.{Draft}
use Rattle.md_reader.specs.Views.{draft_of}
use Rattle.md_reader.specs.Rules.{with_procedure, with_type_definition}

pub hlds_types_of-append : (ts us : List Ty) → hlds_types_of (ts ++ us) ≡ hlds_types_of ts ++ hlds_types_of us
hlds_types_of-append [] us = refl
hlds_types_of-append (t ∷ ts) us = ap (λ xs. hlds_type_of t ∷ xs) (hlds_types_of-append ts us)

pub hlds_functors_of-append : (ts us : List Functor) → hlds_functors_of (ts ++ us) ≡ hlds_functors_of ts ++ hlds_functors_of us
hlds_functors_of-append [] us = refl
hlds_functors_of-append (t ∷ ts) us = ap (λ xs. hlds_functor_of t ∷ xs) (hlds_functors_of-append ts us)

pub args_of-append : (ts us : List (Ty × Mode)) → args_of (ts ++ us) ≡ args_of ts ++ args_of us
args_of-append [] us = refl
args_of-append (t ∷ ts) us = ap (λ xs. (hlds_type_of t.0, t.1) ∷ xs) (args_of-append ts us)

pub type_defs_of-append : (ts us : List TypeDef) → type_defs_of (ts ++ us) ≡ type_defs_of ts ++ type_defs_of us
type_defs_of-append [] us = refl
type_defs_of-append (t ∷ ts) us = ap (λ xs. type_def_of t ∷ xs) (type_defs_of-append ts us)

pub procedures_of-append : (ts us : List Pred) → procedures_of (ts ++ us) ≡ procedures_of ts ++ procedures_of us
procedures_of-append [] us = refl
procedures_of-append (t ∷ ts) us = ap (λ xs. procedure_of t ∷ xs) (procedures_of-append ts us)

-- a program with one more declaration
pub with_one_procedure : (before after : Draft) (p : Pred) → after.module ≡ before.module → after.module_line ≡ before.module_line → after.types ≡ before.types → after.preds.items ≡ before.preds.items ++ p ∷ [] → draft_of after ≡ with_procedure (draft_of before) (procedure_of p)
unfolding with_procedure
with_one_procedure before after p m l t e = rw (m, l, t, e, procedures_of-append before.preds.items (p ∷ [])) refl

pub with_one_type_definition : (before after : Draft) (t : TypeDef) → after.module ≡ before.module → after.module_line ≡ before.module_line → after.preds ≡ before.preds → after.types.items ≡ before.types.items ++ t ∷ [] → draft_of after ≡ with_type_definition (draft_of before) (type_def_of t)
unfolding with_type_definition
with_one_type_definition before after t m l p e = rw (m, l, p, e, type_defs_of-append before.types.items (t ∷ [])) refl

pub length_args_of : (as' : List (Ty × Mode)) → length (args_of as') ≡ length as'
length_args_of [] = refl
length_args_of (a ∷ as') = ap suc (length_args_of as')

pub length_types_of : (ts : List Ty) → length (hlds_types_of ts) ≡ length ts
length_types_of [] = refl
length_types_of (t ∷ ts) = ap suc (length_types_of ts)
