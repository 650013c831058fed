-- The leave after a condition: in its own frame as it is now, and elsewhere as it was before.
use Rattle.std.proofs.Common.{◌≡◌, refl, ap, ◌∙◌, arith, ℕ, ◌<◌, Bool, true, false, cond, nat_eq}
use Rattle.std.proofs.lemmas.Bool.{eq-eqb, eqb-true}
use Rattle.law_frames.specs.Stores.{Cell, Perm, Below, AlikeBelow, IsFree}

abbrev pub mixed : ℕ → Perm → Perm → Perm
mixed i W V = λ j k. cond (nat_eq j i) (W j k) (V j k)

pub mixed_here : (i : ℕ) (W V : Perm) (k : Cell) → mixed i W V i k ≡ W i k
mixed_here i W V k = ap (λ b. cond b (W i k) (V i k)) (eq-eqb i i refl)

by_frame : (b c d : Bool) → (b ≡ true → ⊥) → cond b c d ≡ d
by_frame true c d other = absurd (other refl)
by_frame false c d other = refl

pub mixed_elsewhere : (i : ℕ) (W V : Perm) (j : ℕ) (k : Cell) → (j ≡ i → ⊥) → mixed i W V j k ≡ V j k
mixed_elsewhere i W V j k other = by_frame (nat_eq j i) (W j k) (V j k) (λ is. other (eqb-true j i is))

either_open : (b c d : Bool) → (c ≡ true → d ≡ true) → cond b c d ≡ true → d ≡ true
either_open true c d more is = more is
either_open false c d more is = is

pub mixed_below : (i : ℕ) {W V : Perm} → Below W V → Below (mixed i W V) V
mixed_below i {W} {V} below = record { opens = λ j k is. either_open (nat_eq j i) (W j k) (V j k) (below.opens j k) is }

pub mixed_alike : (i : ℕ) (W V : Perm) → AlikeBelow i (mixed i W V) V
mixed_alike i W V = record { alike = λ j k lt. mixed_elsewhere i W V j k (λ same. omega (arith, lt, same)) }

pub mixed_free : (i : ℕ) (W V : Perm) (n : ℕ) → i < n → IsFree V n → IsFree (mixed i W V) n
mixed_free i W V n lt free j k le = mixed_elsewhere i W V j k (λ same. omega (arith, lt, same, le)) ∙ free j k le
