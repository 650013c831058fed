-- Which variables have values before a goal is what its role and the modes of its arguments say.
use Rattle.std.proofs.Common.{◌≡◌, refl, sym, ap, ◌∙◌, arith, ℕ, suc, ◌<◌, Bool, true, false, cond, nat_eq, List, [], ◌∷◌, Option, Some, None, is_some}
use Rattle.std.proofs.lemmas.Bool.{eq-eqb, eqb-true, cond-true, cond-false}
use Rattle.md_hlds.specs.declared.types.Mode.{Mode}
use Rattle.md_hlds.specs.declared.types.Mode.TheVariants.{In, Out, Di, Uo}
use Rattle.md_hlds.specs.Hlds.{HldsType, Hlds}
use Rattle.md_hlds.specs.Value.{Value, Env, value_at, values_at, prepend_value}
use Rattle.md_inst.specs.Instantiation.{times}
use Rattle.law_safety.specs.Arguments.{IsArgument, AreArguments, taken}
use Rattle.law_safety.specs.Roles.{valued_places}
use Rattle.law_fits.specs.Reads.{is_input, is_given, is_among, is_valued}

-- ---- numbers

same_true : (x : ℕ) → nat_eq x x ≡ true
same_true x = eq-eqb x x refl

other_false : (x y : ℕ) → (x ≡ y → ⊥) → nat_eq x y ≡ false
other_false x y h = by_value (nat_eq x y) refl
  where
    by_value : (b : Bool) → nat_eq x y ≡ b → nat_eq x y ≡ false
    by_value true is = absurd (h (eqb-true x y is))
    by_value false is = is

-- a variable that is not the first of these is among the others
in_others : (x y : ℕ) (ys : List ℕ) → nat_eq x y ≡ false → 0 < times x (y ∷ ys) → 0 < times x ys
in_others x y ys is there = let e : times x (y ∷ ys) ≡ times x ys = cond-false (nat_eq x y) (suc (times x ys)) (times x ys) is in omega (arith, there, e)

-- ---- arguments

argument_read : (s : Hlds) (m : Mode) (t : HldsType) (o : Option Value) → IsArgument s m t o → is_some o ≡ is_input m
argument_read s In t (Some v) h = refl
argument_read s In t None h = elim h [ ]
argument_read s Di t (Some v) h = refl
argument_read s Di t None h = elim h [ ]
argument_read s Out t None h = refl
argument_read s Out t (Some v) h = elim h [ ]
argument_read s Uo t None h = refl
argument_read s Uo t (Some v) h = elim h [ ]

pub first_or_later : (e : Env) (x y : ℕ) (b c d : Bool) → nat_eq y x ≡ d → (is_some (value_at e x) ≡ b) → (d ≡ false → is_some (value_at e y) ≡ c) → is_some (value_at e y) ≡ cond d b c
first_or_later e x y b c true is here later = ap (λ z. is_some (value_at e z)) (eqb-true y x is) ∙ here
first_or_later e x y b c false is here later = later refl

pub arguments_read : (s : Hlds) (args : List (HldsType × Mode)) (xs : List ℕ) (e : Env) (y : ℕ) → AreArguments s args (taken e xs) → 0 < times y xs → is_some (value_at e y) ≡ is_given args xs y
arguments_read s args [] e y h there = absurd (omega (arith, there))
arguments_read s [] (x ∷ xs) e y h there = elim h [ ]
arguments_read s (a ∷ args) (x ∷ xs) e y h there =
    first_or_later e x y (is_input a.1) (is_given args xs y) (nat_eq y x) refl (argument_read s a.1 a.0 (value_at e x) h.0)
    (λ other. arguments_read s args xs e y h.1 (in_others y x xs other there))

-- ---- places

among_other : (n m : ℕ) (rest : List ℕ) (b : Bool) → n < m → is_among n rest ≡ false → is_among n (cond b (m ∷ rest) rest) ≡ false
among_other n m rest true lt h = cond-false (nat_eq n m) true (is_among n rest) (other_false n m (λ same. absurd (omega (arith, same, lt)))) ∙ h
among_other n m rest false lt h = h

not_among : (n m : ℕ) (ys : List ℕ) (e : Env) → n < m → is_among n (valued_places m ys e) ≡ false
not_among n m [] e lt = refl
not_among n m (y ∷ ys) e lt = among_other n m (valued_places (suc m) ys e) (is_some (value_at e y)) lt (not_among n (suc m) ys e (omega (arith, lt)))

-- a place before those that are looked at counts for nothing
earlier_first : (n m : ℕ) (bound : List ℕ) (b c d : Bool) → n < m → c ≡ d → ◌≡◌ {A = Bool} (cond b (is_among m (n ∷ bound)) c) (cond b (is_among m bound) d)
earlier_first n m bound true c d lt h = cond-false (nat_eq m n) true (is_among m bound) (other_false m n (λ same. absurd (omega (arith, same, lt))))
earlier_first n m bound false c d lt h = h

no_earlier : (n m : ℕ) (bound ys : List ℕ) (y : ℕ) → n < m → is_valued m (n ∷ bound) ys y ≡ is_valued m bound ys y
no_earlier n m bound [] y lt = refl
no_earlier n m bound (x ∷ ys) y lt =
    earlier_first n m bound (nat_eq y x) (is_valued (suc m) (n ∷ bound) ys y) (is_valued (suc m) bound ys y) lt (no_earlier n (suc m) bound ys y (omega (arith, lt)))

pub places_read : (n : ℕ) (ys : List ℕ) (e : Env) (y : ℕ) → 0 < times y ys → is_some (value_at e y) ≡ is_valued n (valued_places n ys e) ys y
places_read n [] e y there = absurd (omega (arith, there))
places_read n (x ∷ ys) e y there =
    first_or_later e x y (is_among n (valued_places n (x ∷ ys) e)) (is_valued (suc n) (valued_places n (x ∷ ys) e) ys y) (nat_eq y x) refl
    (here (is_some (value_at e x)))
    (λ other. places_read (suc n) ys e y (in_others y x ys other there) ∙ sym (later (is_some (value_at e x))))
  where
    here : (b : Bool) → b ≡ is_among n (cond b (n ∷ valued_places (suc n) ys e) (valued_places (suc n) ys e))
    here true = sym (cond-true (nat_eq n n) true (is_among n (valued_places (suc n) ys e)) (same_true n))
    here false = sym (not_among n (suc n) ys e (omega arith))

    later : (b : Bool) → is_valued (suc n) (cond b (n ∷ valued_places (suc n) ys e) (valued_places (suc n) ys e)) ys y ≡ is_valued (suc n) (valued_places (suc n) ys e) ys y
    later true = no_earlier n (suc n) (valued_places (suc n) ys e) ys y (omega arith)
    later false = refl

-- ---- all have values

both_are : (o : Option Value) (os : Option (List Value)) (vs : List Value) → prepend_value o os ≡ Some vs → (is_some o ≡ true) × ((ws : List Value) × (os ≡ Some ws))
both_are (Some v) (Some ws) vs h = (refl, (ws, refl))
both_are (Some v) None vs h = absurd (cc h)
both_are None os vs h = absurd (cc h)

pub values_read : (ys : List ℕ) (e : Env) (vs : List Value) (y : ℕ) → values_at e ys ≡ Some vs → 0 < times y ys → is_some (value_at e y) ≡ true
values_read [] e vs y h there = absurd (omega (arith, there))
values_read (x ∷ ys) e vs y h there =
    let o = both_are (value_at e x) (values_at e ys) vs h in
    by_value (nat_eq y x) refl o.0 (λ other. values_read ys e o.1.0 y o.1.1 (in_others y x ys other there))
  where
    by_value : (b : Bool) → nat_eq y x ≡ b → is_some (value_at e x) ≡ true → (b ≡ false → is_some (value_at e y) ≡ true) → is_some (value_at e y) ≡ true
    by_value true is here later = ap (λ z. is_some (value_at e z)) (eqb-true y x is) ∙ here
    by_value false is here later = later refl
