-- What each class of unification meets, and each call of a closure.
use Rattle.std.proofs.Common.{◌≡◌, refl, sym, ap, ◌∙◌, subst, inl, inr, ℕ, suc, ◌<◌, ℤ, Bool, true, false, List, [], ◌∷◌, length, take, drop, Option, Some, None, Ok, is_some, nat_lt}
use Rattle.std.proofs.lemmas.Bool.{ltb-true}
use Rattle.md_hlds.specs.declared.goal.Term.{Term}
use Rattle.md_hlds.specs.declared.goal.Term.TheVariants.{Var, Int, Str, Name}
use Rattle.md_hlds.specs.declared.goal.PredName.{PredName}
use Rattle.md_hlds.specs.HldsGoal.{Unifies}
use Rattle.md_hlds.specs.Hlds.{HldsType, number, text, world, named, closure, HldsFunctor, HldsTypeDef, Procedure, Hlds}
use Rattle.md_hlds.specs.Value.{Value, Number, Literal, Built, Closure, Env, value_at, value_count}
use Rattle.md_names.specs.Named.{functor_found}
use Rattle.md_inst.specs.declared.fault.ModeFault.TheVariants.{TypeClash, Arity, IoUsed}
use Rattle.md_inst.specs.HldsTypes.{same_sort}
use Rattle.md_inst.specs.Instantiation.{Instantiation, free, has, InstMap, known_at, put, is_bound}
use Rattle.md_inst.specs.Named.{Functor, functor_called, predicate_called}
use Rattle.md_inst.specs.Arguments.{is_spent, given_known, inputs, givens}
use Rattle.md_inst.specs.Simple.{unify_known, functor_known, types_of, left_open, can_close, close_known, predicate_term, named_term, unify, apply_sort, apply_known, apply}
use Rattle.md_modes.specs.Goals.{simple_variables}
use Rattle.md_modes.specs.Notes.{closes, applies, bound_places, role_of_variables, role_of_term, role_of_name, role_of_unification, role_of_sort}
use Rattle.law_safety.specs.Values.{HasType, HaveTypes, IsBuiltOf, Agrees, Fits}
use Rattle.law_safety.specs.Roles.{HasValue, valued_places, AreOfOneType, IsComparable, IsMet, IsClosureCalled}
use Rattle.law_safety.proofs.SameTypes.{same_sort_is}
use Rattle.law_safety.proofs.Verdicts.{ok_then, ok_where, ok_unless}
use Rattle.law_safety.proofs.Handing.{In', in_first, in_rest, free_value, inputs_are}
use Rattle.law_safety.proofs.Functors.{IsFunctor, functor_found_by, found_arity}
use Rattle.law_safety.proofs.SimpleGoals.{take_size}

some_bound : (s : Hlds) (o : Option Value) (k : Instantiation) → Agrees s o k → is_bound k ≡ is_some o
some_bound s None free h = refl
some_bound s (Some v) (has t used) h = refl
some_bound s None (has t used) h = elim h [ ]
some_bound s (Some v) free h = elim h [ ]

-- the arguments that are known as bound are those that have values
places_valued : (s : Hlds) (vars : List ℕ) (kn : InstMap) (e : Env) (n : ℕ) (ys : List ℕ) → Fits s vars kn e → In' ys vars → bound_places n ys kn ≡ valued_places n ys e
places_valued s vars kn e n [] fits among = refl
places_valued s vars kn e n (y ∷ ys) fits among =
    let here = some_bound s (value_at e y) (known_at kn y) (fits.each y (in_first y ys vars among)) in
    let rest = places_valued s vars kn e (suc n) ys fits (in_rest y ys vars among) in
    rw (here, rest) refl

has_value : (s : Hlds) (o : Option Value) (t : HldsType) (used : Bool) → Agrees s o (has t used) → HasValue o
has_value s None t used h = elim h [ ]
has_value s (Some v) t used h = (v, refl)

variables_met : (s : Hlds) (x y : ℕ) (e : Env) (k j : Instantiation) (strict : Bool) (l : ℕ) (kn r : InstMap) → Agrees s (value_at e x) k → Agrees s (value_at e y) j → unify_known strict l x y k j kn ≡ Ok r
    → IsMet s e x (Var y) (role_of_variables x y k j)
variables_met s x y e free free strict l kn r a b ok = absurd (cc ok)
variables_met s x y e (has t used) free strict l kn r a b ok = inl ((has_value s (value_at e x) t used a, free_value s (value_at e y) free b refl), refl)
variables_met s x y e free (has t used) strict l kn r a b ok = inr ((has_value s (value_at e y) t used b, free_value s (value_at e x) free a refl), refl)
variables_met s x y e (has t used) (has u spent) strict l kn r a b ok = (has_value s (value_at e x) t used a, has_value s (value_at e y) u spent b)

number_comparable : (s : Hlds) (n : ℤ) (v : Value) → HasType s v number → IsComparable s (Int n) (Some v)
number_comparable s n (Number m) h = tt
number_comparable s n (Literal b) h = elim h [ ]
number_comparable s n (Built f vs) h = elim h [ ]
number_comparable s n (Closure q vs) h = elim h [ ]

literal_comparable : (s : Hlds) (n : List ℕ) (v : Value) → HasType s v text → IsComparable s (Str n) (Some v)
literal_comparable s n (Literal b) h = tt
literal_comparable s n (Number b) h = elim h [ ]
literal_comparable s n (Built f vs) h = elim h [ ]
literal_comparable s n (Closure q vs) h = elim h [ ]

int_comparable : (s : Hlds) (n : ℤ) (o : Option Value) (t : HldsType) (used : Bool) → Agrees s o (has t used) → t ≡ number → IsComparable s (Int n) o
int_comparable s n None t used h e = elim h [ ]
int_comparable s n (Some v) t used h e = number_comparable s n v (subst (λ (u : HldsType). HasType s v u) e h)

text_comparable : (s : Hlds) (n : List ℕ) (o : Option Value) (t : HldsType) (used : Bool) → Agrees s o (has t used) → t ≡ text → IsComparable s (Str n) o
text_comparable s n None t used h e = elim h [ ]
text_comparable s n (Some v) t used h e = literal_comparable s n v (subst (λ (u : HldsType). HasType s v u) e h)

int_met : (s : Hlds) (x : ℕ) (n : ℤ) (e : Env) (k : Instantiation) (l : ℕ) (kn r : InstMap) → Agrees s (value_at e x) k → given_known l number x k kn ≡ Ok r → IsMet s e x (Int n) (role_of_term [] k kn)
int_met s x n e free l kn r a ok = (free_value s (value_at e x) free a refl, ([], refl))
int_met s x n e (has t used) l kn r a ok = (int_comparable s n (value_at e x) t used a (same_sort_is t number (ok_where (same_sort t number) (TypeClash l) (Ok kn) r ok).0), refl)

text_met : (s : Hlds) (x : ℕ) (n : List ℕ) (e : Env) (k : Instantiation) (l : ℕ) (kn r : InstMap) → Agrees s (value_at e x) k → given_known l text x k kn ≡ Ok r → IsMet s e x (Str n) (role_of_term [] k kn)
text_met s x n e free l kn r a ok = (free_value s (value_at e x) free a refl, ([], refl))
text_met s x n e (has t used) l kn r a ok = (text_comparable s n (value_at e x) t used a (same_sort_is t text (ok_where (same_sort t text) (TypeClash l) (Ok kn) r ok).0), refl)

-- a functor
one_type : (w : HldsTypeDef × HldsFunctor) (o p : Option (HldsTypeDef × HldsFunctor)) (P : List HldsType → Type 0) → p ≡ Some w → IsBuiltOf o w.0.name P → AreOfOneType o p
one_type w None p P is h = elim h [ ]
one_type w (Some f) p P is h = rw is h.0

built_comparable : (s : Hlds) (q : PredName) (ys : List ℕ) (v : Value) (w : HldsTypeDef × HldsFunctor) → HasType s v (named w.0.name) → functor_found q.name (length ys) s.types ≡ Some w → IsComparable s (Name q ys) (Some v)
built_comparable s q ys (Built g parts) w h found = one_type w (functor_found g (value_count parts) s.types) (functor_found q.name (length ys) s.types) (λ ts. HaveTypes s parts ts) found h
built_comparable s q ys (Number n) w h found = elim h [ ]
built_comparable s q ys (Literal b) w h found = elim h [ ]
built_comparable s q ys (Closure p vs) w h found = elim h [ ]

functor_comparable : (s : Hlds) (q : PredName) (ys : List ℕ) (o : Option Value) (w : HldsTypeDef × HldsFunctor) (t : HldsType) (used : Bool) → Agrees s o (has t used) → t ≡ named w.0.name
    → functor_found q.name (length ys) s.types ≡ Some w → IsComparable s (Name q ys) o
functor_comparable s q ys None w t used h e found = elim h [ ]
functor_comparable s q ys (Some v) w t used h e found = built_comparable s q ys v w (subst (λ (u : HldsType). HasType s v u) e h) found

functor_met : (s : Hlds) (vars : List ℕ) (strict : Bool) (l x : ℕ) (q : PredName) (f : Functor) (ys : List ℕ) (e : Env) (k : Instantiation) (kn r : InstMap) → Fits s vars kn e → In' ys vars → Agrees s (value_at e x) k
    → IsFunctor s q (length ys) f → functor_known strict l x f ys k kn ≡ Ok r → IsMet s e x (Name q ys) (role_of_term ys k kn)
functor_met s vars strict l x q f ys e free kn r fits among a found ok =
    let b = ok_then (inputs strict l f.args ys kn) (λ k. Ok (put k x (has f.makes false))) r ok in
    let args : f.args ≡ found.with.1.args = ap (λ (c : Functor). c.args) (sym found.is) in
    let size : length ys ≡ length f.args = sym (ap (λ (ts : List HldsType). length ts) args ∙ found_arity q.name (length ys) s.types found.with found.found) in
    let are = inputs_are s vars strict l f.args ys kn b.0 e fits among size b.1 in
    (free_value s (value_at e x) free a refl, (are.values, are.are))
functor_met s vars strict l x q f ys e (has t used) kn r fits among a found ok =
    let b = ok_where (same_sort t f.makes) (TypeClash l) (givens l f.args ys kn) r ok in
    let makes : t ≡ named found.with.0.name = same_sort_is t f.makes b.0 ∙ ap (λ (c : Functor). c.makes) (sym found.is) in
    (functor_comparable s q ys (value_at e x) found.with t used a makes found.found, places_valued s vars kn e 0 ys fits among)

close_met : (s : Hlds) (vars : List ℕ) (l x : ℕ) (q : PredName) (p : Procedure) (ys : List ℕ) (e : Env) (k : Instantiation) (kn r : InstMap) → Fits s vars kn e → In' ys vars → Agrees s (value_at e x) k
    → length ys < length p.args → close_known l x p ys k kn ≡ Ok r → IsMet s e x (Name q ys) closes
close_met s vars l x q p ys e (has t used) kn r fits among a lt ok = absurd (cc ok)
close_met s vars l x q p ys e free kn r fits among a lt ok =
    let held = take (length ys) p.args in
    let others = drop (length ys) p.args in
    let c = ok_where (can_close held others) (TypeClash l) _ r ok in
    let b = ok_then (inputs true l (types_of held) ys kn) (λ k. Ok (put k x (has (left_open others p.det) false))) r c.1 in
    let are = inputs_are s vars true l (types_of held) ys kn b.0 e fits among (take_size (length ys) p.args lt) b.1 in
    (free_value s (value_at e x) free a refl, (are.values, are.are))

predicate_met : (s : Hlds) (vars : List ℕ) (l x : ℕ) (q : PredName) (o : Option Procedure) (ys : List ℕ) (e : Env) (kn r : InstMap) → Fits s vars kn e → In' (x ∷ ys) vars
    → predicate_term s l x q ys o kn ≡ Ok r → IsMet s e x (Name q ys) closes
predicate_met s vars l x q None ys e kn r fits among ok = absurd (cc ok)
predicate_met s vars l x q (Some p) ys e kn r fits among ok =
    let a = ok_where (nat_lt (length ys) (length p.args)) (Arity l) _ r ok in
    close_met s vars l x q p ys e (known_at kn x) kn r fits (in_rest x ys vars among) (fits.each x (in_first x ys vars among)) (ltb-true (length ys) (length p.args) a.0) a.1

name_met : (s : Hlds) (vars : List ℕ) (strict : Bool) (l x : ℕ) (q : PredName) (f : Option Functor) (ys : List ℕ) (e : Env) (kn r : InstMap) → Fits s vars kn e → In' (x ∷ ys) vars → functor_called s q (length ys) ≡ f
    → named_term s strict l x q ys f kn ≡ Ok r → IsMet s e x (Name q ys) (role_of_name ys (known_at kn x) kn f)
name_met s vars strict l x q None ys e kn r fits among found ok = predicate_met s vars l x q (predicate_called s q) ys e kn r fits among ok
name_met s vars strict l x q (Some f) ys e kn r fits among found ok =
    functor_met s vars strict l x q f ys e (known_at kn x) kn r fits (in_rest x ys vars among) (fits.each x (in_first x ys vars among)) (functor_found_by s q (length ys) f found) ok

-- an accepted unification meets what its class says
pub unification_met : (s : Hlds) (vars : List ℕ) (strict : Bool) (l x : ℕ) (t : Term) (e : Env) (kn r : InstMap) → Fits s vars kn e → In' (simple_variables (Unifies x t)) vars
    → unify s strict l x t kn ≡ Ok r → IsMet s e x t (role_of_unification s x t kn)
unification_met s vars strict l x (Var y) e kn r fits among ok =
    variables_met s x y e (known_at kn x) (known_at kn y) strict l kn r (fits.each x (in_first x (y ∷ []) vars among)) (fits.each y (in_first y [] vars (in_rest x (y ∷ []) vars among))) ok
unification_met s vars strict l x (Int n) e kn r fits among ok = int_met s x n e (known_at kn x) l kn r (fits.each x (in_first x [] vars among)) ok
unification_met s vars strict l x (Str n) e kn r fits among ok = text_met s x n e (known_at kn x) l kn r (fits.each x (in_first x [] vars among)) ok
unification_met s vars strict l x (Name q ys) e kn r fits among ok = name_met s vars strict l x q (functor_called s q (length ys)) ys e kn r fits among refl ok

-- ---- closures

sort_called : (strict : Bool) (l : ℕ) (ys : List ℕ) (t : HldsType) (kn r : InstMap) → apply_sort strict l ys t kn ≡ Ok r → role_of_sort t ≡ Some (applies t)
sort_called strict l ys (closure ts ms d) kn r ok = refl
sort_called strict l ys number kn r ok = absurd (cc ok)
sort_called strict l ys text kn r ok = absurd (cc ok)
sort_called strict l ys world kn r ok = absurd (cc ok)
sort_called strict l ys (named n) kn r ok = absurd (cc ok)

closure_known : (s : Hlds) (strict : Bool) (l : ℕ) (ys : List ℕ) (k : Instantiation) (o : Option Value) (kn r : InstMap) → Agrees s o k → apply_known strict l ys k kn ≡ Ok r → IsClosureCalled s k o
closure_known s strict l ys free o kn r a ok = absurd (cc ok)
closure_known s strict l ys (has t used) None kn r a ok = elim a [ ]
closure_known s strict l ys (has t used) (Some v) kn r a ok =
    record { type = t; named = sort_called strict l ys t kn r (ok_unless (is_spent strict t used) (IoUsed l) (apply_sort strict l ys t kn) r ok).1; value = v; is = refl; typed = a }

-- an accepted call of a closure meets one of the type that the checks name
pub closure_met : (s : Hlds) (vars : List ℕ) (strict : Bool) (l f : ℕ) (ys : List ℕ) (e : Env) (kn r : InstMap) → Fits s vars kn e → In' (f ∷ ys) vars → apply strict l f ys kn ≡ Ok r
    → IsClosureCalled s (known_at kn f) (value_at e f)
closure_met s vars strict l f ys e kn r fits among ok = closure_known s strict l ys (known_at kn f) (value_at e f) kn r (fits.each f (in_first f ys vars among)) ok
