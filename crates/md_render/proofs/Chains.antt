-- Words that are added one after the other.
use Rattle.std.proofs.Common.{◌≡◌, ◌++◌, ◌<◌, ◌+◌, ◌∷◌, [], ℕ, List, Ok, Err, append_assoc, ap, get_or, length, sym, take, ◌∙◌}
use Rattle.std.specs.List.{flat_map}
use Rattle.std.specs.Prelude.{Result, OnOk}
use Rattle.std.proofs.lemmas.List.{flat_map_more, take_more}
use Rattle.std.proofs.lemmas.Result.{on_ok_weaker}

pub two-added : {T E : Type 0} (r : Result T E) (o a b x y : List ℕ) → x ≡ o ++ a → OnOk r (y ≡ x ++ b) → OnOk r (y ≡ o ++ (a ++ b))
two-added r o a b x y p = on_ok_weaker r (λ q. let e : (o ++ a) ++ b ≡ o ++ (a ++ b) = simp append_assoc in cc)

pub four-added : {T E : Type 0} (r : Result T E) (o a b c d x y z w : List ℕ) → x ≡ o ++ a → y ≡ x ++ b → z ≡ y ++ c → OnOk r (w ≡ z ++ d) → OnOk r (w ≡ o ++ (a ++ (b ++ (c ++ d))))
four-added r o a b c d x y z w p q s = on_ok_weaker r (λ t. let e : (((o ++ a) ++ b) ++ c) ++ d ≡ o ++ (a ++ (b ++ (c ++ d))) = simp append_assoc in cc)

pub five-added : {T E : Type 0} (r : Result T E) (o a b c d e x y z w u : List ℕ) → x ≡ o ++ a → y ≡ x ++ b → z ≡ y ++ c → w ≡ z ++ d → OnOk r (u ≡ w ++ e) → OnOk r (u ≡ o ++ (a ++ (b ++ (c ++ (d ++ e)))))
five-added r o a b c d e x y z w u p q s t =
    on_ok_weaker r (λ k. let f : ((((o ++ a) ++ b) ++ c) ++ d) ++ e ≡ o ++ (a ++ (b ++ (c ++ (d ++ e)))) = simp append_assoc in cc)

-- one text behind another, where the second may fail
pub words_added : {T E : Type 0} (r : Result T E) (old middle now a b words : List ℕ) → middle ≡ old ++ a → OnOk r (now ≡ middle ++ b) → words ≡ a ++ b → OnOk r (now ≡ old ++ words)
words_added (Ok x) old middle now a b words first second is = second ∙ ap (λ (xs : List ℕ). xs ++ b) first ∙ append_assoc old a b ∙ ap (λ (xs : List ℕ). old ++ xs) (sym is)
words_added (Err e) old middle now a b words first second is = tt

-- the same where each of them is there
pub two-words : (o a b x y : List ℕ) → x ≡ o ++ a → y ≡ x ++ b → y ≡ o ++ (a ++ b)
two-words o a b x y p q = let e : (o ++ a) ++ b ≡ o ++ (a ++ b) = simp append_assoc in cc

pub three-words : (o a b c x y z : List ℕ) → x ≡ o ++ a → y ≡ x ++ b → z ≡ y ++ c → z ≡ o ++ (a ++ (b ++ c))
three-words o a b c x y z p q r = let e : ((o ++ a) ++ b) ++ c ≡ o ++ (a ++ (b ++ c)) = simp append_assoc in cc

pub four-words : (o a b c d x y z w : List ℕ) → x ≡ o ++ a → y ≡ x ++ b → z ≡ y ++ c → w ≡ z ++ d → w ≡ o ++ (a ++ (b ++ (c ++ d)))
four-words o a b c d x y z w p q r s = let e : (((o ++ a) ++ b) ++ c) ++ d ≡ o ++ (a ++ (b ++ (c ++ d))) = simp append_assoc in cc

pub five-words : (o a b c d e x y z w u : List ℕ) → x ≡ o ++ a → y ≡ x ++ b → z ≡ y ++ c → w ≡ z ++ d → u ≡ w ++ e → u ≡ o ++ (a ++ (b ++ (c ++ (d ++ e))))
five-words o a b c d e x y z w u p q r s t = let f : ((((o ++ a) ++ b) ++ c) ++ d) ++ e ≡ o ++ (a ++ (b ++ (c ++ (d ++ e)))) = simp append_assoc in cc

-- what is added for each member of a list, and for one more
pub member_added : {X : Type 0} (f : X → List ℕ) (old out new : List ℕ) (xs : List X) (i : ℕ) (x d : X) → i < length xs → out ≡ old ++ flat_map f (take i xs) → new ≡ out ++ f x → x ≡ get_or xs i d → new ≡ old ++ flat_map f (take (i + 1) xs)
member_added {X} f old out new xs i x d lt out_is new_is is =
    new_is ∙ ap (λ (o : List ℕ). o ++ f x) out_is ∙ flat_map_more f old (take i xs) x
    ∙ ap (λ (ys : List X). old ++ flat_map f ys) (ap (λ (y : X). take i xs ++ y ∷ []) is ∙ sym (take_more xs i d lt))
