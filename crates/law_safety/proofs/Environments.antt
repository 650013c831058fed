-- Environments that fit what is known: writes on both sides.
use Rattle.std.proofs.Common.{◌≡◌, refl, sym, ap, ◌∙◌, subst, inl, inr, arith, ℕ, zero, suc, ◌<◌, ◌≤◌, Bool, List, [], ◌∷◌, length, Option, Some, None}
use Rattle.std.proofs.lemmas.Bool.{cases_eq, cases_lt}
use Rattle.md_hlds.specs.Hlds.{HldsType, Hlds}
use Rattle.md_hlds.specs.Value.{Value, Env, value_at, bound, blank}
use Rattle.md_inst.specs.Instantiation.{Instantiation, free, has, InstMap, known_at, put, handed_on, hand_on, nothing_known, times}
use Rattle.md_modes.proofs.InstantiationLemmas.{length-put, known_at-put, known_at-put_other, known_at-outside}
use Rattle.law_safety.specs.Values.{HasType, Agrees, Fits}

pub length-bound : (e : Env) (x : ℕ) (v : Value) → length (bound e x v) ≡ length e
length-bound [] x v = refl
length-bound (o ∷ e) zero v = refl
length-bound (o ∷ e) (suc x) v = ap suc (length-bound e x v)

pub value_at-bound : (e : Env) (x : ℕ) (v : Value) → x < length e → value_at (bound e x v) x ≡ Some v
value_at-bound [] x v lt = absurd (omega (arith, lt))
value_at-bound (o ∷ e) zero v lt = refl
value_at-bound (o ∷ e) (suc x) v lt = value_at-bound e x v (omega (arith, lt))

pub value_at-bound_other : (e : Env) (x y : ℕ) (v : Value) → (y ≡ x → ⊥) → value_at (bound e x v) y ≡ value_at e y
value_at-bound_other [] x y v other = refl
value_at-bound_other (o ∷ e) zero zero v other = absurd (other refl)
value_at-bound_other (o ∷ e) zero (suc y) v other = refl
value_at-bound_other (o ∷ e) (suc x) zero v other = refl
value_at-bound_other (o ∷ e) (suc x) (suc y) v other = value_at-bound_other e x y v (λ same. other (ap suc same))

pub value_at-outside : (e : Env) (x : ℕ) → length e ≤ x → value_at e x ≡ None
value_at-outside [] x le = refl
value_at-outside (o ∷ e) zero le = absurd (omega (arith, le))
value_at-outside (o ∷ e) (suc x) le = value_at-outside e x (omega (arith, le))

-- ---- agreement

pub agrees_by : (s : Hlds) (o p : Option Value) (k j : Instantiation) → o ≡ p → k ≡ j → Agrees s p j → Agrees s o k
agrees_by s o p k j e f h = rw (e, f) h

pub agrees_handed : (s : Hlds) (o : Option Value) (k : Instantiation) → Agrees s o k → Agrees s o (handed_on k)
agrees_handed s None free h = h
agrees_handed s None (has t used) h = elim h [ ]
agrees_handed s (Some v) free h = elim h [ ]
agrees_handed s (Some v) (has t used) h = h

-- ---- writes

-- a variable gets a value, and is known to have one of this type
pub fits_put : (s : Hlds) (vars : List ℕ) (kn : InstMap) (e : Env) (x : ℕ) (v : Value) (t : HldsType) (used : Bool)
    → Fits s vars kn e → HasType s v t → Fits s vars (put kn x (has t used)) (bound e x v)
fits_put s vars kn e x v t used h typed = record {
  size = length-bound e x v ∙ h.size ∙ sym (length-put kn x (has t used));
  each = λ y there. elim (cases_eq y x) [
    | inl same ↦ elim (cases_lt x (length e)) [
      | inl within ↦
          agrees_by s _ (Some v) _ (has t used) (ap (value_at (bound e x v)) same ∙ value_at-bound e x v within)
          (ap (known_at (put kn x (has t used))) same ∙ known_at-put kn x (has t used) (let size = h.size in omega (arith, within, size))) typed
      | inr past ↦
          let size = h.size in
          agrees_by s _ None _ free
          (ap (value_at (bound e x v)) same ∙ value_at-outside (bound e x v) x (let long = length-bound e x v in omega (arith, past, long)))
          (ap (known_at (put kn x (has t used))) same ∙ known_at-outside (put kn x (has t used)) x (let long = length-put kn x (has t used) in omega (arith, past, long, size)))
          tt
    ]
    | inr other ↦
        agrees_by s _ (value_at e y) _ (known_at kn y) (value_at-bound_other e x y v other) (known_at-put_other kn x y (has t used) other) (h.each y there)
  ];
}

-- what is known of a variable is replaced by what agrees with its value
pub fits_known : (s : Hlds) (vars : List ℕ) (kn : InstMap) (e : Env) (x : ℕ) (k : Instantiation) → Fits s vars kn e
    → (Agrees s (value_at e x) (known_at kn x) → Agrees s (value_at e x) k) → Fits s vars (put kn x k) e
fits_known s vars kn e x k h good = record {
  size = h.size ∙ sym (length-put kn x k);
  each = λ y there. elim (cases_eq y x) [
    | inl same ↦ elim (cases_lt x (length kn)) [
      | inl within ↦
          agrees_by s _ (value_at e x) _ k (ap (value_at e) same) (ap (known_at (put kn x k)) same ∙ known_at-put kn x k within)
          (good (subst (λ (z : ℕ). Agrees s (value_at e z) (known_at kn z)) same (h.each y there)))
      | inr past ↦
          let size = h.size in
          agrees_by s _ None _ free
          (ap (value_at e) same ∙ value_at-outside e x (omega (arith, past, size)))
          (ap (known_at (put kn x k)) same ∙ known_at-outside (put kn x k) x (let long = length-put kn x k in omega (arith, past, long)))
          tt
    ]
    | inr other ↦ agrees_by s _ (value_at e y) _ (known_at kn y) refl (known_at-put_other kn x y k other) (h.each y there)
  ];
}

pub fits_handed : (s : Hlds) (vars : List ℕ) (kn : InstMap) (e : Env) (x : ℕ) → Fits s vars kn e → Fits s vars (hand_on x kn) e
fits_handed s vars kn e x h = fits_known s vars kn e x (handed_on (known_at kn x)) h (λ agrees. agrees_handed s (value_at e x) (known_at kn x) agrees)

-- what is known of, and the value of, a variable that isn't among these
pub fits_others : (s : Hlds) (vars : List ℕ) (kn : InstMap) (e : Env) (x : ℕ) (k : Instantiation) → times x vars ≡ 0 → Fits s vars kn e → Fits s vars (put kn x k) e
fits_others s vars kn e x k none h = record {
  size = h.size ∙ sym (length-put kn x k);
  each = λ y there. agrees_by s _ (value_at e y) _ (known_at kn y) refl
      (known_at-put_other kn x y k (λ same. let zero_times : times y vars ≡ 0 = ap (λ (z : ℕ). times z vars) same ∙ none in omega (arith, there, zero_times))) (h.each y there);
}

pub fits_fewer : (s : Hlds) (vars fewer : List ℕ) (kn : InstMap) (e : Env) → ((x : ℕ) → 0 < times x fewer → 0 < times x vars) → Fits s vars kn e → Fits s fewer kn e
fits_fewer s vars fewer kn e among h = record { size = h.size; each = λ x there. h.each x (among x there) }

-- ---- nothing is known

value_at-blank : (n x : ℕ) → value_at (blank n) x ≡ None
value_at-blank zero x = refl
value_at-blank (suc n) zero = refl
value_at-blank (suc n) (suc x) = value_at-blank n x

known_at-nothing : (n x : ℕ) → known_at (nothing_known n) x ≡ free
known_at-nothing zero x = refl
known_at-nothing (suc n) zero = refl
known_at-nothing (suc n) (suc x) = known_at-nothing n x

blank_size : (n : ℕ) → length (blank n) ≡ length (nothing_known n)
blank_size zero = refl
blank_size (suc n) = ap suc (blank_size n)

pub blank_fits : (s : Hlds) (vars : List ℕ) (n : ℕ) → Fits s vars (nothing_known n) (blank n)
blank_fits s vars n = record { size = blank_size n; each = λ x there. agrees_by s _ None _ free (value_at-blank n x) (known_at-nothing n x) tt }
