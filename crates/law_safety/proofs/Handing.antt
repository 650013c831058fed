-- Arguments that the mode rules accept: what the variables have before a call, and what they have after it.
use Rattle.std.proofs.Common.{◌≡◌, refl, sym, ap, ◌∙◌, subst, inl, inr, arith, ℕ, suc, ◌<◌, ◌⊎◌, Bool, true, false, ◌&&◌, cond, nat_eq, List, [], ◌∷◌, length, Option, Some, None, Ok}
use Rattle.std.proofs.lemmas.Bool.{eq-eqb, cond-true}
use Rattle.md_hlds.specs.declared.types.Mode.{Mode}
use Rattle.md_hlds.specs.declared.types.Mode.TheVariants.{In, Out, Di, Uo}
use Rattle.md_hlds.specs.Hlds.{HldsType, Hlds}
use Rattle.md_hlds.specs.Value.{Value, gathered_values, value_count, Env, value_at, values_at, prepend_value, bound}
use Rattle.md_hlds.specs.Trace.{back_value, back, pairs_of}
use Rattle.md_inst.specs.declared.fault.ModeFault.TheVariants.{TypeClash, IoUsed}
use Rattle.md_inst.specs.HldsTypes.{same_sort, is_world}
use Rattle.md_inst.specs.Instantiation.{Instantiation, free, has, InstMap, known_at, put, handed_on, hand_on, times}
use Rattle.md_inst.specs.Arguments.{is_spent, input_known, input, output_known, output, given_known, given, argument, arguments, inputs}
use Rattle.law_safety.specs.Values.{HasType, HaveTypes, Agrees, Fits}
use Rattle.law_safety.specs.Arguments.{IsArgument, AreArguments, taken, IsResult, AreResults}
use Rattle.law_safety.specs.Turns.{AreDistinct}
use Rattle.law_safety.proofs.Environments.{fits_put, fits_handed, fits_others, fits_fewer}
use Rattle.law_safety.proofs.SameTypes.{same_sort_is}
use Rattle.law_safety.proofs.Verdicts.{ok_then, ok_where, ok_unless, ok_is}

-- these variables are among those
abbrev pub In' : List ℕ → List ℕ → Type 0
In' xs vars = (x : ℕ) → 0 < times x xs → 0 < times x vars

some_of_cond : (b : Bool) (n : ℕ) → 0 < n → 0 < cond b (suc n) n
some_of_cond true n h = omega arith
some_of_cond false n h = h

pub more_times : (x y : ℕ) (xs : List ℕ) → 0 < times x xs → 0 < times x (y ∷ xs)
more_times x y xs h = some_of_cond (nat_eq x y) (times x xs) h

pub first_times : (x : ℕ) (xs : List ℕ) → 0 < times x (x ∷ xs)
first_times x xs = let e : times x (x ∷ xs) ≡ suc (times x xs) = cond-true (nat_eq x x) (suc (times x xs)) (times x xs) (eq-eqb x x refl) in omega (arith, e)

pub in_first : (x : ℕ) (xs vars : List ℕ) → In' (x ∷ xs) vars → 0 < times x vars
in_first x xs vars h = h x (first_times x xs)

pub in_rest : (x : ℕ) (xs vars : List ℕ) → In' (x ∷ xs) vars → In' xs vars
in_rest x xs vars h = λ y there. h y (more_times y x xs there)

-- ---- one argument

input_known_ok : (strict : Bool) (l : ℕ) (t : HldsType) (k : Instantiation) (kn r : InstMap) → input_known strict l t k kn ≡ Ok r → (r ≡ kn) × ((used : Bool) × (k ≡ has t used))
input_known_ok strict l t free kn r h = absurd (cc h)
input_known_ok strict l t (has u used) kn r h =
    let a = ok_unless (is_spent strict u used) (IoUsed l) _ r h in
    let b = ok_where (same_sort u t) (TypeClash l) _ r a.1 in
    (ok_is (Ok kn) r kn b.1 refl, (used, ap (λ (z : HldsType). has z used) (same_sort_is u t b.0)))

-- an accepted input is known with its type, and what is known stays
pub input_ok : (strict : Bool) (l : ℕ) (t : HldsType) (x : ℕ) (kn r : InstMap) → input strict l t x kn ≡ Ok r → (r ≡ kn) × ((used : Bool) × (known_at kn x ≡ has t used))
input_ok strict l t x kn r h = input_known_ok strict l t (known_at kn x) kn r h

output_known_ok : (strict : Bool) (l : ℕ) (t : HldsType) (x : ℕ) (k : Instantiation) (kn r : InstMap) → output_known strict l t x k kn ≡ Ok r → (k ≡ free) × (r ≡ put kn x (has t false))
output_known_ok strict l t x free kn r h =
    let a = ok_unless (is_world t && strict) (IoUsed l) _ r h in
    (refl, ok_is (Ok (put kn x (has t false))) r (put kn x (has t false)) a.1 refl)
output_known_ok strict l t x (has u used) kn r h = absurd (cc h)

pub output_ok : (strict : Bool) (l : ℕ) (t : HldsType) (x : ℕ) (kn r : InstMap) → output strict l t x kn ≡ Ok r → (known_at kn x ≡ free) × (r ≡ put kn x (has t false))
output_ok strict l t x kn r h = output_known_ok strict l t x (known_at kn x) kn r h

given_known_ok : (l : ℕ) (t : HldsType) (x : ℕ) (k : Instantiation) (kn r : InstMap) → given_known l t x k kn ≡ Ok r
    → ((k ≡ free) × (r ≡ put kn x (has t false))) ⊎ ((r ≡ kn) × ((used : Bool) × (k ≡ has t used)))
given_known_ok l t x free kn r h = inl (refl, ok_is (Ok (put kn x (has t false))) r (put kn x (has t false)) h refl)
given_known_ok l t x (has u used) kn r h =
    let b = ok_where (same_sort u t) (TypeClash l) _ r h in
    inr (ok_is (Ok kn) r kn b.1 refl, (used, ap (λ (z : HldsType). has z used) (same_sort_is u t b.0)))

pub given_ok : (l : ℕ) (t : HldsType) (x : ℕ) (kn r : InstMap) → given l t x kn ≡ Ok r
    → ((known_at kn x ≡ free) × (r ≡ put kn x (has t false))) ⊎ ((r ≡ kn) × ((used : Bool) × (known_at kn x ≡ has t used)))
given_ok l t x kn r h = given_known_ok l t x (known_at kn x) kn r h

-- ---- what agrees with what is known

pub bound_value : (s : Hlds) (o : Option Value) (k : Instantiation) (t : HldsType) (used : Bool) → Agrees s o k → k ≡ has t used → (v : Value) × (o ≡ Some v) × HasType s v t
bound_value s None free t used h e = absurd (cc e)
bound_value s None (has u b) t used h e = elim h [ ]
bound_value s (Some v) free t used h e = elim h [ ]
bound_value s (Some v) (has u b) t used h e = (v, refl, subst (λ (k : Instantiation). Agrees s (Some v) k) e h)

pub free_value : (s : Hlds) (o : Option Value) (k : Instantiation) → Agrees s o k → k ≡ free → o ≡ None
free_value s None k h e = refl
free_value s (Some v) free h e = elim h [ ]
free_value s (Some v) (has u b) h e = absurd (cc e)

in_argument : (s : Hlds) (t : HldsType) (o : Option Value) (v : Value) → o ≡ Some v → HasType s v t → IsArgument s In t o
in_argument s t o v e h = rw e h

out_argument : (s : Hlds) (t : HldsType) (o : Option Value) → o ≡ None → IsArgument s Out t o
out_argument s t o e = rw e tt

-- one accepted argument: what its variable has, and that all but it is known as before
one_handed : (s : Hlds) (strict : Bool) (l : ℕ) (t : HldsType) (m : Mode) (x : ℕ) (kn r : InstMap) (o : Option Value) → Agrees s o (known_at kn x)
    → argument strict l t m x kn ≡ Ok r → IsArgument s m t o × (((k : Instantiation) × (r ≡ put kn x k)) ⊎ (r ≡ kn))
one_handed s strict l t In x kn r o h g =
    let a = input_ok strict l t x kn r g in
    let v = bound_value s o (known_at kn x) t a.1.0 h a.1.1 in
    (in_argument s t o v.0 v.1 v.2, inr a.0)
one_handed s strict l t Di x kn r o h g =
    let b = ok_then (input strict l t x kn) (λ q. Ok (hand_on x q)) r g in
    let a = input_ok strict l t x kn b.0 b.1 in
    let v = bound_value s o (known_at kn x) t a.1.0 h a.1.1 in
    (in_argument s t o v.0 v.1 v.2, inl (handed_on (known_at kn x), ok_is (Ok (hand_on x b.0)) r (hand_on x b.0) b.2 refl ∙ ap (hand_on x) a.0))
one_handed s strict l t Out x kn r o h g =
    let a = output_ok strict l t x kn r g in
    (out_argument s t o (free_value s o (known_at kn x) h a.0), inl (has t false, a.1))
one_handed s strict l t Uo x kn r o h g =
    let a = output_ok strict l t x kn r g in
    (out_argument s t o (free_value s o (known_at kn x) h a.0), inl (has t false, a.1))

fits_later : (s : Hlds) (vars : List ℕ) (kn r : InstMap) (e : Env) (x : ℕ) → times x vars ≡ 0 → (((k : Instantiation) × (r ≡ put kn x k)) ⊎ (r ≡ kn)) → Fits s vars kn e → Fits s vars r e
fits_later s vars kn r e x none (inl k) h = subst (λ (q : InstMap). Fits s vars q e) (sym k.1) (fits_others s vars kn e x k.0 none h)
fits_later s vars kn r e x none (inr k) h = subst (λ (q : InstMap). Fits s vars q e) (sym k) h

-- accepted arguments: each input has a value of its type, each output none
pub handed : (s : Hlds) (strict : Bool) (l : ℕ) (args : List (HldsType × Mode)) (xs : List ℕ) (kn r : InstMap) (e : Env)
    → Fits s xs kn e → AreDistinct xs → length xs ≡ length args → arguments strict l args xs kn ≡ Ok r → AreArguments s args (taken e xs)
handed s strict l [] [] kn r e h d size g = tt
handed s strict l [] (x ∷ xs) kn r e h d size g = absurd (omega (arith, size))
handed s strict l (a ∷ args) [] kn r e h d size g = absurd (omega (arith, size))
handed s strict l (a ∷ args) (x ∷ xs) kn r e h d size g =
    let b = ok_then (argument strict l a.0 a.1 x kn) (λ q. arguments strict l args xs q) r g in
    let one = one_handed s strict l a.0 a.1 x kn b.0 (value_at e x) (h.each x (first_times x xs)) b.1 in
    let less = fits_fewer s (x ∷ xs) xs kn e (λ y there. more_times y x xs there) h in
    (one.0, handed s strict l args xs b.0 r e (fits_later s xs kn b.0 e x d.0 one.1 less) d.1 (omega (arith, size)) b.2)

-- ---- what comes back

back_bound : (y : ℕ) (o p : Option Value) (v : Value) (e : Env) → o ≡ Some v → back_value y o p e ≡ e
back_bound y o p v e is = rw is refl

back_free : (y : ℕ) (o p : Option Value) (v : Value) (e : Env) → o ≡ None → p ≡ Some v → back_value y o p e ≡ bound e y v
back_free y o p v e is at = rw (is, at) refl

-- a result is a value of its type
result_value : (s : Hlds) (t : HldsType) (o : Option Value) → IsResult s Out t o → (v : Value) × (o ≡ Some v) × HasType s v t
result_value s t None h = elim h [ ]
result_value s t (Some v) h = (v, refl, h)

result_value' : (s : Hlds) (t : HldsType) (o : Option Value) → IsResult s Uo t o → (v : Value) × (o ≡ Some v) × HasType s v t
result_value' s t None h = elim h [ ]
result_value' s t (Some v) h = (v, refl, h)

out_returned : (s : Hlds) (vars : List ℕ) (strict : Bool) (l : ℕ) (t : HldsType) (x : ℕ) (kn r : InstMap) (e : Env) (o : Option Value) → Fits s vars kn e → 0 < times x vars
    → output strict l t x kn ≡ Ok r → ((v : Value) × (o ≡ Some v) × HasType s v t) → Fits s vars r (back_value x (value_at e x) o e)
out_returned s vars strict l t x kn r e o h there g v =
    let a = output_ok strict l t x kn r g in
    let none = free_value s (value_at e x) (known_at kn x) (h.each x there) a.0 in
    let now : back_value x (value_at e x) o e ≡ bound e x v.0 = back_free x (value_at e x) o v.0 e none v.1 in
    subst (λ (d : Env). Fits s vars r d) (sym now) (subst (λ (q : InstMap). Fits s vars q (bound e x v.0)) (sym a.1) (fits_put s vars kn e x v.0 t false h v.2))

in_returned : (s : Hlds) (vars : List ℕ) (t : HldsType) (x : ℕ) (kn r q : InstMap) (e : Env) (o : Option Value) → Fits s vars kn e → 0 < times x vars
    → ((used : Bool) × (known_at kn x ≡ has t used)) → Fits s vars r e → Fits s vars r (back_value x (value_at e x) o e)
in_returned s vars t x kn r q e o h there known after =
    let v = bound_value s (value_at e x) (known_at kn x) t known.0 (h.each x there) known.1 in
    subst (λ (d : Env). Fits s vars r d) (sym (back_bound x (value_at e x) o v.0 e v.1)) after

one_returned : (s : Hlds) (vars : List ℕ) (strict : Bool) (l : ℕ) (t : HldsType) (m : Mode) (x : ℕ) (kn r : InstMap) (e : Env) (o : Option Value) → Fits s vars kn e → 0 < times x vars
    → argument strict l t m x kn ≡ Ok r → IsResult s m t o → Fits s vars r (back_value x (value_at e x) o e)
one_returned s vars strict l t In x kn r e o h there g result =
    let a = input_ok strict l t x kn r g in
    in_returned s vars t x kn r r e o h there a.1 (subst (λ (q : InstMap). Fits s vars q e) (sym a.0) h)
one_returned s vars strict l t Di x kn r e o h there g result =
    let b = ok_then (input strict l t x kn) (λ q. Ok (hand_on x q)) r g in
    let a = input_ok strict l t x kn b.0 b.1 in
    let is : r ≡ hand_on x kn = ok_is (Ok (hand_on x b.0)) r (hand_on x b.0) b.2 refl ∙ ap (hand_on x) a.0 in
    in_returned s vars t x kn r r e o h there a.1 (subst (λ (q : InstMap). Fits s vars q e) (sym is) (fits_handed s vars kn e x h))
one_returned s vars strict l t Out x kn r e o h there g result = out_returned s vars strict l t x kn r e o h there g (result_value s t o result)
one_returned s vars strict l t Uo x kn r e o h there g result = out_returned s vars strict l t x kn r e o h there g (result_value' s t o result)

-- what comes back from a call whose results have their types fits what is known after it
pub returned : (s : Hlds) (vars : List ℕ) (strict : Bool) (l : ℕ) (args : List (HldsType × Mode)) (hs xs : List ℕ) (kn r : InstMap) (d e : Env)
    → Fits s vars kn e → In' xs vars → length hs ≡ length args → length xs ≡ length args → arguments strict l args xs kn ≡ Ok r → AreResults s args hs d
    → Fits s vars r (back (pairs_of hs xs) d e)
returned s vars strict l [] [] [] kn r d e h among heads size g results = subst (λ (q : InstMap). Fits s vars q e) (ok_is (Ok kn) kn r refl g) h
returned s vars strict l [] (k ∷ hs) xs kn r d e h among heads size g results = absurd (omega (arith, heads))
returned s vars strict l [] [] (x ∷ xs) kn r d e h among heads size g results = absurd (omega (arith, size))
returned s vars strict l (a ∷ args) [] xs kn r d e h among heads size g results = absurd (omega (arith, heads))
returned s vars strict l (a ∷ args) (k ∷ hs) [] kn r d e h among heads size g results = absurd (omega (arith, size))
returned s vars strict l (a ∷ args) (k ∷ hs) (x ∷ xs) kn r d e h among heads size g results =
    let b = ok_then (argument strict l a.0 a.1 x kn) (λ q. arguments strict l args xs q) r g in
    returned s vars strict l args hs xs b.0 r d (back_value x (value_at e x) (value_at d k) e)
    (one_returned s vars strict l a.0 a.1 x kn b.0 e (value_at d k) h (in_first x xs vars among) b.1 results.0)
    (in_rest x xs vars among) (omega (arith, heads)) (omega (arith, size)) b.2 results.1

-- ---- variables that are inputs

-- accepted inputs: their values have the types, and what is known stays
pub record AreInputs (s : Hlds) (ts : List HldsType) (ys : List ℕ) (kn r : InstMap) (e : Env) : Type 0 where
  pub values : List Value
  pub are : values_at e ys ≡ Some values
  pub typed : HaveTypes s (gathered_values values) ts
  pub size : value_count (gathered_values values) ≡ length ys
  pub same : r ≡ kn

next_values : (o : Option Value) (os : Option (List Value)) (v : Value) (vs : List Value) → o ≡ Some v → os ≡ Some vs → prepend_value o os ≡ Some (v ∷ vs)
next_values o os v vs e f = rw (e, f) refl

pub inputs_are : (s : Hlds) (vars : List ℕ) (strict : Bool) (l : ℕ) (ts : List HldsType) (ys : List ℕ) (kn r : InstMap) (e : Env)
    → Fits s vars kn e → In' ys vars → length ys ≡ length ts → inputs strict l ts ys kn ≡ Ok r → AreInputs s ts ys kn r e
inputs_are s vars strict l [] [] kn r e h among size g = record { values = []; are = refl; typed = tt; size = refl; same = ok_is (Ok kn) r kn g refl }
inputs_are s vars strict l [] (y ∷ ys) kn r e h among size g = absurd (omega (arith, size))
inputs_are s vars strict l (t ∷ ts) [] kn r e h among size g = absurd (omega (arith, size))
inputs_are s vars strict l (t ∷ ts) (y ∷ ys) kn r e h among size g =
    let b = ok_then (input strict l t y kn) (λ q. inputs strict l ts ys q) r g in
    let a = input_ok strict l t y kn b.0 b.1 in
    let v = bound_value s (value_at e y) (known_at kn y) t a.1.0 (h.each y (in_first y ys vars among)) a.1.1 in
    let rest = inputs_are s vars strict l ts ys b.0 r e (subst (λ (q : InstMap). Fits s vars q e) (sym a.0) h) (in_rest y ys vars among) (omega (arith, size)) b.2 in
    record {
      values = v.0 ∷ rest.values;
      are = next_values (value_at e y) (values_at e ys) v.0 rest.values v.1 rest.are;
      typed = (v.2, rest.typed);
      size = ap suc rest.size;
      same = rest.same ∙ a.0;
    }
