-- Words that are added one after the other.
use Rattle.std.proofs.Common.{◌≡◌, ◌++◌, ℕ, List, append_assoc}
use Rattle.std.specs.Prelude.{Result, OnOk}
use Rattle.std.proofs.lemmas.Result.{on_ok_weaker}

pub four-added : {T E : Type 0} (r : Result T E) (o a b c d x y z w : List ℕ) → x ≡ o ++ a → y ≡ x ++ b → z ≡ y ++ c → OnOk r (w ≡ z ++ d) → OnOk r (w ≡ o ++ (a ++ (b ++ (c ++ d))))
four-added r o a b c d x y z w p q s = on_ok_weaker r (λ t. let e : (((o ++ a) ++ b) ++ c) ++ d ≡ o ++ (a ++ (b ++ (c ++ d))) = simp append_assoc in cc)

pub five-added : {T E : Type 0} (r : Result T E) (o a b c d e x y z w u : List ℕ) → x ≡ o ++ a → y ≡ x ++ b → z ≡ y ++ c → w ≡ z ++ d → OnOk r (u ≡ w ++ e) → OnOk r (u ≡ o ++ (a ++ (b ++ (c ++ (d ++ e)))))
five-added r o a b c d e x y z w u p q s t =
    on_ok_weaker r (λ k. let f : ((((o ++ a) ++ b) ++ c) ++ d) ++ e ≡ o ++ (a ++ (b ++ (c ++ (d ++ e)))) = simp append_assoc in cc)
