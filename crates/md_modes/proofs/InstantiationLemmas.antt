-- What is known of one variable, after a write and after arms; variables that occur in a list.
use Rattle.std.proofs.Common.{◌≡◌, refl, sym, ap, ap₂, ◌∙◌, arith, ℕ, zero, suc, ◌<◌, ◌≤◌, Bool, true, false, ◌||◌, cond, nat_eq, List, [], ◌∷◌, ◌++◌, length, slice_index}
use Rattle.std.proofs.lemmas.Bool.{eq-eqb, ne_eqb, eqb-true, cond-true, cond-false}
use Rattle.md_inst.specs.Instantiation.{Instantiation, free, has, InstMap, known_at, put, times}
use Rattle.md_inst.specs.Common.{common}
use Rattle.md_modes.specs.Branches.{in_common}
use Rattle.md_modes.proofs.Counts.{times-append}

-- ---- writes

pub length-put : (s : InstMap) (x : ℕ) (k : Instantiation) → length (put s x k) ≡ length s
length-put [] x k = refl
length-put (j ∷ s) zero k = refl
length-put (j ∷ s) (suc x) k = ap suc (length-put s x k)

pub known_at-put : (s : InstMap) (x : ℕ) (k : Instantiation) → x < length s → known_at (put s x k) x ≡ k
known_at-put [] x k lt = absurd (omega (arith, lt))
known_at-put (j ∷ s) zero k lt = refl
known_at-put (j ∷ s) (suc x) k lt = known_at-put s x k (omega (arith, lt))

pub known_at-put_other : (s : InstMap) (x y : ℕ) (k : Instantiation) → (y ≡ x → ⊥) → known_at (put s x k) y ≡ known_at s y
known_at-put_other [] x y k other = refl
known_at-put_other (j ∷ s) zero zero k other = absurd (other refl)
known_at-put_other (j ∷ s) zero (suc y) k other = refl
known_at-put_other (j ∷ s) (suc x) zero k other = refl
known_at-put_other (j ∷ s) (suc x) (suc y) k other = known_at-put_other s x y k (λ same. other (ap suc same))

-- past the end nothing is known
pub known_at-outside : (s : InstMap) (x : ℕ) → length s ≤ x → known_at s x ≡ free
known_at-outside [] x le = refl
known_at-outside (k ∷ s) zero le = absurd (omega (arith, le))
known_at-outside (k ∷ s) (suc x) le = known_at-outside s x (omega (arith, le))

-- what is known of each variable is all that is known
pub same_knowledge : (s r : InstMap) → length s ≡ length r → ((x : ℕ) → known_at s x ≡ known_at r x) → s ≡ r
same_knowledge [] [] size same = refl
same_knowledge [] (j ∷ r) size same = absurd (omega (arith, size))
same_knowledge (k ∷ s) [] size same = absurd (omega (arith, size))
same_knowledge (k ∷ s) (j ∷ r) size same = ap₂ (λ (h : Instantiation) (q : InstMap). h ∷ q) (same 0) (same_knowledge s r (omega (arith, size)) (λ x. same (suc x)))

-- ---- what two arms have in common

pub common_free : (k : Instantiation) → common k free ≡ free
common_free free = refl
common_free (has t used) = refl

either_same : (b : Bool) → (b || b) ≡ b
either_same true = refl
either_same false = refl

pub common_same : (k : Instantiation) → common k k ≡ k
common_same free = refl
common_same (has t used) = ap (has t) (either_same used)

pub length-in_common : (r q : InstMap) → length (in_common r q) ≡ length r
length-in_common [] q = refl
length-in_common (k ∷ r) [] = ap suc (length-in_common r [])
length-in_common (k ∷ r) (j ∷ q) = ap suc (length-in_common r q)

pub known_at-in_common : (r q : InstMap) (x : ℕ) → known_at (in_common r q) x ≡ common (known_at r x) (known_at q x)
known_at-in_common [] q x = refl
known_at-in_common (k ∷ r) [] zero = sym (common_free k)
known_at-in_common (k ∷ r) [] (suc x) = known_at-in_common r [] x
known_at-in_common (k ∷ r) (j ∷ q) zero = refl
known_at-in_common (k ∷ r) (j ∷ q) (suc x) = known_at-in_common r q x

-- ---- the variables of a list

-- the variables of one list are variables of another
abbrev pub Among : (vs ws : List ℕ) → Type 0
Among vs ws = (x : ℕ) → times x ws ≡ 0 → times x vs ≡ 0

-- a variable occurs in a list
abbrev pub Occurs : ℕ → List ℕ → Type 0
Occurs x vs = (y : ℕ) → times y vs ≡ 0 → y ≡ x → ⊥

pub not_first : (x y : ℕ) (ys : List ℕ) → times x (y ∷ ys) ≡ 0 → x ≡ y → ⊥
not_first x y ys none same =
    let some : times x (y ∷ ys) ≡ suc (times x ys) = cond-true (nat_eq x y) (suc (times x ys)) (times x ys) (eq-eqb x y same) in
    omega (arith, none, some)

none_in_rest : (b : Bool) (n : ℕ) → cond b (suc n) n ≡ 0 → n ≡ 0
none_in_rest true n none = absurd (omega (arith, none))
none_in_rest false n none = none

pub not_in_rest : (x y : ℕ) (ys : List ℕ) → times x (y ∷ ys) ≡ 0 → times x ys ≡ 0
not_in_rest x y ys none = none_in_rest (nat_eq x y) (times x ys) none

pub not_in : (x y : ℕ) (ys : List ℕ) → (x ≡ y → ⊥) → times x ys ≡ 0 → times x (y ∷ ys) ≡ 0
not_in x y ys other none = cond-false (nat_eq x y) (suc (times x ys)) (times x ys) (ne_eqb x y other) ∙ none

pub among_self : (vs : List ℕ) → Among vs vs
among_self vs x none = none

pub among_first : (v : ℕ) (vs : List ℕ) → Among (v ∷ []) (v ∷ vs)
among_first v vs x none = not_in x v [] (not_first x v vs none) refl

pub among_rest : (v : ℕ) (vs : List ℕ) → Among vs (v ∷ vs)
among_rest v vs x none = not_in_rest x v vs none

pub among_left : (vs ws : List ℕ) → Among vs (vs ++ ws)
among_left vs ws x none = omega (arith, none, times-append x vs ws)

pub among_right : (vs ws : List ℕ) → Among ws (vs ++ ws)
among_right vs ws x none = omega (arith, none, times-append x vs ws)

pub occurs_first : (v : ℕ) (vs : List ℕ) → Occurs v (v ∷ vs)
occurs_first v vs y none = not_first y v vs none

pub occurs_second : (v w : ℕ) (vs : List ℕ) → Occurs w (v ∷ w ∷ vs)
occurs_second v w vs y none = not_first y w vs (not_in_rest y v (w ∷ vs) none)

-- a place where a variable occurs in a list
abbrev pub Place : List ℕ → ℕ → Type 0
Place ys x = (i : ℕ) × (i < length ys) × (slice_index ys i ≡ x)

next_place : (y : ℕ) (ys : List ℕ) (x : ℕ) → Place ys x → Place (y ∷ ys) x
next_place y ys x h = (suc h.0, omega (arith, h.1), h.2)

place_by : (y : ℕ) (ys : List ℕ) (x : ℕ) (b : Bool) → nat_eq x y ≡ b → (nat_eq x y ≡ false → Place ys x) → Place (y ∷ ys) x
place_by y ys x true e h = (0, omega arith, sym (eqb-true x y e))
place_by y ys x false e h = next_place y ys x (h e)

pub place : (ys : List ℕ) (x : ℕ) → (times x ys ≡ 0 → ⊥) → Place ys x
place [] x some = absurd (some refl)
place (y ∷ ys) x some =
    place_by y ys x (nat_eq x y) refl
    (λ other. place ys x (λ none. some (cond-false (nat_eq x y) (suc (times x ys)) (times x ys) other ∙ none)))
