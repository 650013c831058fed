-- Equal texts.
use Rattle.std.proofs.Common.{◌≡◌, refl, sym, ap, ◌∙◌, ℕ, Bool, true, false, ◌&&◌, nat_eq, List, [], ◌∷◌}
use Rattle.std.specs.Cmp.Lexicographic.{pointwise, same_text, other_text}
use Rattle.std.specs.Str.{bytes_eq}

pub pointwise-bytes_eq : (xs ys : List ℕ) → pointwise nat_eq xs ys ≡ bytes_eq xs ys
pointwise-bytes_eq [] [] = refl
pointwise-bytes_eq [] (y ∷ ys) = refl
pointwise-bytes_eq (x ∷ xs) [] = refl
pointwise-bytes_eq (x ∷ xs) (y ∷ ys) = ap (λ b. nat_eq x y && b) (pointwise-bytes_eq xs ys)

pub bytes_is : (xs ys : List ℕ) → bytes_eq xs ys ≡ true → xs ≡ ys
bytes_is xs ys h = same_text xs ys (sym (pointwise-bytes_eq xs ys ∙ h))

pub bytes_same : (xs : List ℕ) → bytes_eq xs xs ≡ true
bytes_same xs = sym (pointwise-bytes_eq xs xs) ∙ here (pointwise nat_eq xs xs) refl
  where
    here : (b : Bool) → pointwise nat_eq xs xs ≡ b → b ≡ true
    here true is = refl
    here false is = absurd (other_text xs xs (sym is) refl)
