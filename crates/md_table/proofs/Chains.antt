-- Words that are added one after the other.
use Rattle.std.proofs.Common.{◌≡◌, ◌+◌, ◌-◌, ◌++◌, ℕ, List, append_assoc, ap, ◌∙◌, arith, length, replicate, take, Ok, Err}
use Rattle.std.specs.Prelude.{Result, OnOk, is_ok, if◌then◌else◌}
use Rattle.std.proofs.lemmas.List.{take_all}
use Rattle.std.proofs.lemmas.Result.{on_ok_weaker}

pub three-added : {T E : Type 0} (r : Result T E) (o a b c x y z : List ℕ) → x ≡ o ++ a → y ≡ x ++ b → OnOk r (z ≡ y ++ c) → OnOk r (z ≡ o ++ (a ++ (b ++ c)))
three-added r o a b c x y z p q = on_ok_weaker r (λ s. let e : ((o ++ a) ++ b) ++ c ≡ o ++ (a ++ (b ++ c)) = simp append_assoc in cc)

-- a list that is filled up with spaces
pub filled : {T E : Type 0} (r : Result T E) (xs new : List ℕ) (size whole count : ℕ) → size ≡ length xs → whole ≡ size + count → new ≡ (if is_ok r then take whole xs ++ replicate (whole - size) 32 else xs)
    → OnOk r (new ≡ xs ++ replicate count 32)
filled (Err e) xs new size whole count size_is whole_is is = tt
filled (Ok x) xs new size whole count size_is whole_is is =
    let more : whole - size ≡ count = omega arith in
    is ∙ ap (λ (ys : List ℕ). ys ++ replicate (whole - size) 32) (take_all whole xs (omega arith)) ∙ ap (λ (n : ℕ). xs ++ replicate n 32) more
