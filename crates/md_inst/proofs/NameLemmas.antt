-- Types and arguments, counted and cut.
use Rattle.std.proofs.Common.{◌≡◌, refl, ap, ℕ, zero, suc, List, [], ◌∷◌, ◌++◌, length, take, drop}
use Rattle.md_hlds.specs.declared.types.Ty.{Ty}
use Rattle.md_hlds.specs.declared.types.Mode.{Mode}
use Rattle.md_hlds.specs.Hlds.{hlds_types_of, args_of}

pub length_sorts_of : (ts : List Ty) → length (hlds_types_of ts) ≡ length ts
length_sorts_of [] = refl
length_sorts_of (t ∷ ts) = ap suc (length_sorts_of ts)

pub length_args_of : (args : List (Ty × Mode)) → length (args_of args) ≡ length args
length_args_of [] = refl
length_args_of (a ∷ args) = ap suc (length_args_of args)

pub args_of_take : (n : ℕ) (args : List (Ty × Mode)) → args_of (take n args) ≡ take n (args_of args)
args_of_take zero args = refl
args_of_take (suc n) [] = refl
args_of_take (suc n) (a ∷ args) = ap (λ as'. args_of (a ∷ []) ++ as') (args_of_take n args)

pub args_of_drop : (n : ℕ) (args : List (Ty × Mode)) → args_of (drop n args) ≡ drop n (args_of args)
args_of_drop zero args = refl
args_of_drop (suc n) [] = refl
args_of_drop (suc n) (a ∷ args) = args_of_drop n args
