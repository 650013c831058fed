-- A simple goal whose pair says that it can't fail doesn't fail.
use Rattle.std.proofs.Common.{◌≡◌, refl, sym, ap, ◌∙◌, subst, arith, ℕ, suc, ℤ, Bool, true, false, ◌&&◌, ◌||◌, cond, nat_eq, List, [], ◌∷◌, length, Option, Some, None, Ok, is_some}
use Rattle.std.proofs.lemmas.Bool.{and_parts, and_from, eqb-true, eq-eqb, true≢false, false≢true}
use Rattle.std.proofs.lemmas.Slice.Eq.{bytes_eq-Decides}
use Rattle.std.specs.Str.{bytes_eq}
use Rattle.std.specs.Prelude.{⊤}
use Rattle.md_hlds.specs.declared.goal.Term.{Term}
use Rattle.md_hlds.specs.declared.goal.Term.TheVariants.{Var, Int, Str, Name}
use Rattle.md_hlds.specs.declared.goal.Op.{Op}
use Rattle.md_hlds.specs.declared.goal.PredName.{PredName}
use Rattle.md_hlds.specs.HldsGoal.{Simple, Succeeds, Fails, Unifies, Computes, Compares, WritesInt, WritesText, EndsLine, Raises, At, SimpleGoal}
use Rattle.md_hlds.specs.Hlds.{HldsType, named, HldsFunctor, HldsTypeDef, Procedure, Hlds, procedure_called, is_functor}
use Rattle.md_hlds.specs.Value.{Value, Values, Number, Literal, Built, Closure, listed_values, value_count, compared, Env, value_at, values_at, bound}
use Rattle.md_hlds.specs.Simple as run
use Rattle.md_hlds.specs.Simple.{Outcome, Go, No, Throws, Stop, goes, answer, take_part, same_functor, unify_constant, unify_values, raise}
use Rattle.md_hlds.specs.Switch.{Key, IntKey, TextKey, FunctorKey, term_key, variable_key, has_the_key}
use Rattle.md_names.specs.Named.{construct_among, functor_found}
use Rattle.md_inst.specs.declared.fault.ModeFault.TheVariants.{TypeClash}
use Rattle.md_inst.specs.HldsTypes.{same_sort}
use Rattle.md_inst.specs.Instantiation.{Instantiation, free, has, InstMap, known_at, is_bound, times}
use Rattle.md_inst.specs.Named.{Functor, functor_called}
use Rattle.md_inst.specs.Arguments.{givens}
use Rattle.md_inst.specs.Simple as rules
use Rattle.md_inst.specs.Simple.{named_term, functor_known}
use Rattle.md_modes.specs.Goals.{simple_variables}
use Rattle.md_modes.specs.Notes.{bound_places, role_of_variables, role_of_term, role_of_name, role_of_unification}
use Rattle.md_modes.proofs.InstantiationLemmas.{not_first, not_in_rest}
use Rattle.md_det.specs.declared.pair.Bound.TheVariants.{One}
use Rattle.md_det.specs.declared.pair.Pair.{Pair}
use Rattle.md_det.specs.Switches.{family_with, is_alone, is_only_functor}
use Rattle.md_det.specs.Determinism.{sure, unsure, is_at, is_none_bound, apart_pair, unification_pair, simple_pair}
use Rattle.md_names.proofs.Standing.{family_found}
use Rattle.md_det.proofs.Functors.{family_there}
use Rattle.law_safety.specs.Values.{HasType, HaveTypes, IsBuiltOf, Agrees, Fits}
use Rattle.law_safety.specs.Turns.{AreDistinct, IsTidySimple}
use Rattle.law_safety.specs.Known.{IsKeyed, IsChosen}
use Rattle.law_safety.proofs.Environments.{value_at-bound_other}
use Rattle.law_safety.proofs.SameTypes.{same_sort_is, same_bytes_are}
use Rattle.law_safety.proofs.Verdicts.{ok_where}
use Rattle.law_safety.proofs.Handing.{In', in_first, in_rest, free_value}
use Rattle.law_safety.proofs.Functors.{functor_is, IsFunctor, functor_found_by}
use Rattle.law_safety.proofs.TypesDiffer.{TypesDiffer, found_one}

-- an outcome is one that the pair allows
abbrev pub IsAllowed : Pair → Outcome → Type 0
IsAllowed p (Go e extra words out) = p.bound ≡ One
IsAllowed p (No extra) = p.may_fail ≡ true
IsAllowed p (Throws bytes) = ⊤
IsAllowed p Stop = ⊤

any_unsure : (o : Outcome) → IsAllowed unsure o
any_unsure (Go e extra words out) = refl
any_unsure (No extra) = refl
any_unsure (Throws bytes) = tt
any_unsure Stop = tt

-- ---- the key of a switch's arm

variable_is : (x y : ℕ) (o : Option Key) (k : Key) → variable_key x o ≡ Some (y, k) → (x ≡ y) × (o ≡ Some k)
variable_is x y None k h = absurd (cc h)
variable_is x y (Some j) k h =
    let is : ◌≡◌ {A = ℕ × Key} (x, j) (y, k) = cc h in
    (ap (λ (z : ℕ × Key). z.0) is, ap (λ (z : ℕ × Key). Some z.1) is)

key_here : (s : Hlds) (at : Option ℕ) (l x : ℕ) (t : Term) (e : Env) → IsChosen s at (At l (SimpleGoal (Unifies x t))) e → is_at at x ≡ true → (k : Key) × (term_key s t ≡ Some k) × IsKeyed k (value_at e x)
key_here s None l x t e h is = absurd (false≢true is)
key_here s (Some y) l x t e h is =
    let a = variable_is x y (term_key s t) h.0 h.1 in
    (h.0, a.1, subst (λ (z : ℕ). IsKeyed h.0 (value_at e z)) (sym a.0) h.2)

-- ---- X = Y and X = a constant

variables_sure : (s : Hlds) (at : Option ℕ) (x y : ℕ) (e : Env) (o p : Option Value) (k j : Instantiation) → Agrees s o k → Agrees s p j
    → IsAllowed (unification_pair s at x (Var y) (role_of_variables x y k j)) (unify_values e x y o p)
variables_sure s at x y e None None free free a b = tt
variables_sure s at x y e (Some v) None (has t used) free a b = refl
variables_sure s at x y e None (Some w) free (has t used) a b = refl
variables_sure s at x y e o p (has t used) (has u spent) a b = any_unsure (unify_values e x y o p)
variables_sure s at x y e None p (has t used) free a b = elim a [ ]
variables_sure s at x y e (Some v) p free j a b = elim a [ ]
variables_sure s at x y e None None free (has t used) a b = elim b [ ]
variables_sure s at x y e None (Some w) free free a b = elim b [ ]
variables_sure s at x y e (Some v) (Some w) (has t used) free a b = elim b [ ]

answer_sure : (e : Env) (extra : ℕ) (b : Bool) → b ≡ true → IsAllowed sure (answer e extra b)
answer_sure e extra b h = rw h refl

or_false : (b : Bool) → (b || false) ≡ true → b ≡ true
or_false true h = refl
or_false false h = h

tested_sure : (c : Bool) (o : Outcome) → (c ≡ true → IsAllowed sure o) → IsAllowed (apart_pair c) o
tested_sure true o h = h refl
tested_sure false o h = any_unsure o

constant_sure : (s : Hlds) (b : Bool) (c : Value) (x : ℕ) (e : Env) (o : Option Value) → (b ≡ true → (v : Value) → o ≡ Some v → (compared v c).equal ≡ true) → IsAllowed (apart_pair b) (unify_constant e x c o)
constant_sure s true c x e None h = refl
constant_sure s true c x e (Some v) h = answer_sure e 0 (compared v c).equal (h refl v refl)
constant_sure s false c x e o h = any_unsure (unify_constant e x c o)

int_keyed : (n : ℤ) (v : Value) → has_the_key v (IntKey n) ≡ true → (compared v (Number n)).equal ≡ true
int_keyed n (Number m) h = h
int_keyed n (Literal b) h = absurd (false≢true h)
int_keyed n (Built f vs) h = absurd (false≢true h)
int_keyed n (Closure q vs) h = absurd (false≢true h)

text_keyed : (t : List ℕ) (v : Value) → has_the_key v (TextKey t) ≡ true → (compared v (Literal t)).equal ≡ true
text_keyed t (Literal b) h = h
text_keyed t (Number m) h = absurd (false≢true h)
text_keyed t (Built f vs) h = absurd (false≢true h)
text_keyed t (Closure q vs) h = absurd (false≢true h)

keyed_value : (k j : Key) (o : Option Value) (v : Value) → k ≡ j → o ≡ Some v → IsKeyed k o → has_the_key v j ≡ true
keyed_value k j o v e is h = subst (λ (i : Key). has_the_key v i ≡ true) e (subst (λ (p : Option Value). IsKeyed k p) is h)

int_sure : (s : Hlds) (at : Option ℕ) (l x : ℕ) (n : ℤ) (e : Env) (k : Instantiation) (kn : InstMap) → Agrees s (value_at e x) k → IsChosen s at (At l (SimpleGoal (Unifies x (Int n)))) e
    → IsAllowed (unification_pair s at x (Int n) (role_of_term [] k kn)) (unify_constant e x (Number n) (value_at e x))
int_sure s at l x n e free kn a h = let none = free_value s (value_at e x) free a refl in rw none refl
int_sure s at l x n e (has t used) kn a h =
    constant_sure s (is_at at x || false) (Number n) x e (value_at e x)
    (λ b v is. let k = key_here s at l x (Int n) e h (or_false (is_at at x) b) in int_keyed n v (keyed_value k.0 (IntKey n) (value_at e x) v (let same : IntKey n ≡ k.0 = cc (k.1) in sym same) is k.2))

text_sure : (s : Hlds) (at : Option ℕ) (l x : ℕ) (n : List ℕ) (e : Env) (k : Instantiation) (kn : InstMap) → Agrees s (value_at e x) k → IsChosen s at (At l (SimpleGoal (Unifies x (Str n)))) e
    → IsAllowed (unification_pair s at x (Str n) (role_of_term [] k kn)) (unify_constant e x (Literal n) (value_at e x))
text_sure s at l x n e free kn a h = let none = free_value s (value_at e x) free a refl in rw none refl
text_sure s at l x n e (has t used) kn a h =
    constant_sure s (is_at at x || false) (Literal n) x e (value_at e x)
    (λ b v is. let k = key_here s at l x (Str n) e h (or_false (is_at at x) b) in text_keyed n v (keyed_value k.0 (TextKey n) (value_at e x) v (let same : TextKey n ≡ k.0 = cc (k.1) in sym same) is k.2))

-- ---- X = f(Y1, .., Yn)

-- none of these variables has a value
abbrev AreFree : Env → List ℕ → Type 0
AreFree e [] = ⊤
AreFree e (y ∷ ys) = (value_at e y ≡ None) × AreFree e ys

still_free : (e : Env) (y : ℕ) (v : Value) (ys : List ℕ) → times y ys ≡ 0 → AreFree e ys → AreFree (bound e y v) ys
still_free e y v [] none h = tt
still_free e y v (z ∷ ys) none h =
    (value_at-bound_other e y z v (λ same. not_first y z ys none (sym same)) ∙ h.0, still_free e y v ys (not_in_rest y z ys none) h.1)

take_free : (rest : Env → ℕ → Outcome) (e : Env) (extra y : ℕ) (v : Value) (o : Option Value) → o ≡ None → IsAllowed sure (rest (bound e y v) extra) → IsAllowed sure (take_part rest e extra y v o)
take_free rest e extra y v o is h = rw is h

free_apart : (ys : List ℕ) (vs : List Value) (e : Env) (extra : ℕ) → AreFree e ys → AreDistinct ys → IsAllowed sure (run.take_apart ys vs e extra)
free_apart [] vs e extra h d = refl
free_apart (y ∷ ys) [] e extra h d = refl
free_apart (y ∷ ys) (v ∷ vs) e extra h d = take_free (run.take_apart ys vs) e extra y v (value_at e y) h.0 (free_apart ys vs (bound e y v) extra (still_free e y v ys d.0 h.1) d.1)

none_bound_step : (b : Bool) (n : ℕ) (ns : List ℕ) → is_none_bound (cond b (n ∷ ns) ns) ≡ true → (b ≡ false) × (is_none_bound ns ≡ true)
none_bound_step true n ns h = absurd (false≢true h)
none_bound_step false n ns h = (refl, h)

not_bound : (k : Instantiation) → is_bound k ≡ false → k ≡ free
not_bound free h = refl
not_bound (has t used) h = absurd (true≢false h)

none_bound : (s : Hlds) (vars : List ℕ) (kn : InstMap) (e : Env) (n : ℕ) (ys : List ℕ) → Fits s vars kn e → In' ys vars → is_none_bound (bound_places n ys kn) ≡ true → AreFree e ys
none_bound s vars kn e n [] fits among h = tt
none_bound s vars kn e n (y ∷ ys) fits among h =
    let a = none_bound_step (is_bound (known_at kn y)) n (bound_places (suc n) ys kn) h in (
      free_value s (value_at e y) (known_at kn y) (fits.each y (in_first y ys vars among)) (not_bound (known_at kn y) a.0),
      none_bound s vars kn e (suc n) ys fits (in_rest y ys vars among) a.1,
    )

same_sure : (e : Env) (ys : List ℕ) (vs : List Value) (b : Bool) → b ≡ true → AreFree e ys → AreDistinct ys → IsAllowed sure (same_functor e ys vs b)
same_sure e ys vs b is h d = rw is (free_apart ys vs e 0 h d)

-- the only functor of a type
one_length : (fs : List HldsFunctor) → nat_eq (length fs) 1 ≡ true → (f : HldsFunctor) × (fs ≡ f ∷ [])
one_length [] h = absurd (false≢true h)
one_length (f ∷ []) h = (f, refl)
one_length (f ∷ g ∷ fs) h = absurd (let two : length (f ∷ g ∷ fs) ≡ 1 = eqb-true (length (f ∷ g ∷ fs)) 1 h in omega (arith, two))

only_test : (b : Bool) (f g : HldsFunctor) → cond b (Some f) None ≡ Some g → b ≡ true
only_test true f g h = refl
only_test false f g h = absurd (cc h)

only_named : (f g : HldsFunctor) (name : List ℕ) (arity : ℕ) (fs : List HldsFunctor) → fs ≡ f ∷ [] → construct_among name arity fs ≡ Some g → (name ≡ f.name) × (arity ≡ length f.args)
only_named f g name arity fs is h =
    let there : construct_among name arity (f ∷ []) ≡ Some g = ap (construct_among name arity) (sym is) ∙ h in
    let both = and_parts (bytes_eq name f.name) (nat_eq arity (length f.args)) (only_test (bytes_eq name f.name && nat_eq arity (length f.args)) f g there) in
    (same_bytes_are name f.name both.0, eqb-true arity (length f.args) both.1)

test_is : (f g : List ℕ) (m n : ℕ) → f ≡ g → m ≡ n → (bytes_eq f g && nat_eq m n) ≡ true
test_is f g m n e h = and_from (bytes_eq f g) (nat_eq m n) ((bytes_eq-Decides f g).1 e) (eq-eqb m n h)

pub built_there : (t : List ℕ) (P : List HldsType → Type 0) (o : Option (HldsTypeDef × HldsFunctor)) → IsBuiltOf o t P → (w : HldsTypeDef × HldsFunctor) × (o ≡ Some w) × (w.0.name ≡ t)
built_there t P None h = elim h [ ]
built_there t P (Some w) h = (w, refl, h.0)

alone_test : (s : Hlds) → TypesDiffer s → (q g : List ℕ) (n m : ℕ) (w : HldsTypeDef × HldsFunctor) (P : List HldsType → Type 0) → functor_found q n s.types ≡ Some w
    → IsBuiltOf (functor_found g m s.types) w.0.name P → is_alone (family_with q n s.types) ≡ true → (bytes_eq q g && nat_eq n m) ≡ true
alone_test s differ q g n m w P found built alone =
    let family : family_with q n s.types ≡ Some w.0 = family_there q n s.types ∙ ap family_found found in
    let one = one_length w.0.functors (ap is_alone (sym family) ∙ alone) in
    let v = built_there w.0.name P (functor_found g m s.types) built in
    let a = found_one q n s.types w found in
    let b = found_one g m s.types v.0 v.1 in
    let same : v.0.0 ≡ w.0 = differ v.0.0 w.0 b.0 a.0 v.2 in
    let first = only_named one.0 w.1 q n w.0.functors one.1 a.1 in
    let last = only_named one.0 v.0.1 g m v.0.0.functors (ap (λ (t : HldsTypeDef). t.functors) same ∙ one.1) b.1 in
    test_is q g n m (first.0 ∙ sym last.0) (first.1 ∙ sym last.1)

key_test : (s : Hlds) (q : PredName) (n : ℕ) (g : List ℕ) (parts : Values) (k : Key) → cond (is_functor s q n) (Some (FunctorKey q.name n)) None ≡ Some k → has_the_key (Built g parts) k ≡ true
    → (bytes_eq q.name g && nat_eq n (value_count parts)) ≡ true
key_test s q n g parts k h keyed = by_test (is_functor s q n) h
  where
    by_test : (b : Bool) → cond b (Some (FunctorKey q.name n)) None ≡ Some k → (bytes_eq q.name g && nat_eq n (value_count parts)) ≡ true
    by_test false h = absurd (cc h)
    by_test true h =
        let is : k ≡ FunctorKey q.name n = let same : FunctorKey q.name n ≡ k = cc h in sym same in
        let there : has_the_key (Built g parts) (FunctorKey q.name n) ≡ true = subst (λ (i : Key). has_the_key (Built g parts) i ≡ true) is keyed in
        let both = and_parts (bytes_eq g q.name) (nat_eq (value_count parts) n) there in
        test_is q.name g n (value_count parts) (sym (same_bytes_are g q.name both.0)) (sym (eqb-true (value_count parts) n both.1))

either : (P : Type 0) (a b : Bool) → (a || b) ≡ true → (a ≡ true → P) → (b ≡ true → P) → P
either P true b h f g = f refl
either P false b h f g = g h

-- a value of the functor's type is taken apart
value_sure : (s : Hlds) → TypesDiffer s → (vars : List ℕ) (at : Option ℕ) (l x : ℕ) (q : PredName) (ys : List ℕ) (kn : InstMap) (e : Env) (v : Value) (w : HldsTypeDef × HldsFunctor)
    → Fits s vars kn e → In' ys vars → AreDistinct ys → value_at e x ≡ Some v → HasType s v (named w.0.name) → functor_found q.name (length ys) s.types ≡ Some w
    → IsChosen s at (At l (SimpleGoal (Unifies x (Name q ys)))) e
    → IsAllowed (apart_pair (is_none_bound (bound_places 0 ys kn) && (is_at at x || is_only_functor s q (length ys)))) (run.unify_functor e x q.name ys (Some v))
value_sure s differ vars at l x q ys kn e (Built g parts) w fits among d is typed found begins =
    tested_sure (is_none_bound (bound_places 0 ys kn) && (is_at at x || is_only_functor s q (length ys))) _
    (λ b.
    let both = and_parts (is_none_bound (bound_places 0 ys kn)) (is_at at x || is_only_functor s q (length ys)) b in
    same_sure e ys (listed_values parts) (bytes_eq q.name g && nat_eq (length ys) (value_count parts))
    (either _ (is_at at x) (is_only_functor s q (length ys)) both.1
    (λ here. let k = key_here s at l x (Name q ys) e begins here in
    key_test s q (length ys) g parts k.0 k.1 (keyed_value k.0 k.0 (value_at e x) (Built g parts) refl is k.2))
    (λ alone. alone_test s differ q.name g (length ys) (value_count parts) w (λ ts. HaveTypes s parts ts) found typed alone))
    (none_bound s vars kn e 0 ys fits among both.0) d)
value_sure s differ vars at l x q ys kn e (Number n) w fits among d is typed found begins = elim typed [ ]
value_sure s differ vars at l x q ys kn e (Literal b) w fits among d is typed found begins = elim typed [ ]
value_sure s differ vars at l x q ys kn e (Closure p vs) w fits among d is typed found begins = elim typed [ ]

build_sure : (e : Env) (x arity : ℕ) (f : List ℕ) (o : Option (List Value)) → IsAllowed sure (run.build e x arity f o)
build_sure e x arity f None = tt
build_sure e x arity f (Some vs) = refl

close_sure : (e : Env) (x arity q : ℕ) (o : Option (List Value)) → IsAllowed sure (run.close e x arity q o)
close_sure e x arity q None = tt
close_sure e x arity q (Some vs) = refl

predicate_sure : (e : Env) (x : ℕ) (ys : List ℕ) (o : Option Value) (q : Option (ℕ × Procedure)) → IsAllowed sure (run.unify_predicate e x ys o q)
predicate_sure e x ys None (Some q) = close_sure e x (length ys) q.0 (values_at e ys)
predicate_sure e x ys None None = tt
predicate_sure e x ys (Some v) (Some q) = tt
predicate_sure e x ys (Some v) None = tt

functor_sure : (s : Hlds) → TypesDiffer s → (vars : List ℕ) (at : Option ℕ) (strict : Bool) (l x : ℕ) (q : PredName) (f : Functor) (ys : List ℕ) (kn r : InstMap) (e : Env) (o : Option Value) (k : Instantiation)
    → Fits s vars kn e → In' ys vars → AreDistinct ys → value_at e x ≡ o → Agrees s o k → IsFunctor s q (length ys) f → functor_known strict l x f ys k kn ≡ Ok r
    → IsChosen s at (At l (SimpleGoal (Unifies x (Name q ys)))) e
    → IsAllowed (unification_pair s at x (Name q ys) (role_of_term ys k kn)) (run.unify_functor e x q.name ys o)
functor_sure s differ vars at strict l x q f ys kn r e None free fits among d is a found g begins = build_sure e x (length ys) q.name (values_at e ys)
functor_sure s differ vars at strict l x q f ys kn r e (Some v) (has t used) fits among d is a found g begins =
    let b = ok_where (same_sort t f.makes) (TypeClash l) (givens l f.args ys kn) r g in
    let w = found.with in
    let makes : t ≡ named w.0.name = same_sort_is t f.makes b.0 ∙ ap (λ (c : Functor). c.makes) (sym found.is) in
    value_sure s differ vars at l x q ys kn e v w fits among d is (subst (λ (u : HldsType). HasType s v u) makes a) found.found begins
functor_sure s differ vars at strict l x q f ys kn r e None (has t used) fits among d is a found g begins = elim a [ ]
functor_sure s differ vars at strict l x q f ys kn r e (Some v) free fits among d is a found g begins = elim a [ ]

name_sure : (s : Hlds) → TypesDiffer s → (vars : List ℕ) (at : Option ℕ) (strict : Bool) (l x : ℕ) (q : PredName) (ys : List ℕ) (kn r : InstMap) (e : Env) (f : Option Functor) (b : Bool)
    → Fits s vars kn e → In' (x ∷ ys) vars → AreDistinct ys → functor_called s q (length ys) ≡ f → b ≡ is_some f → named_term s strict l x q ys f kn ≡ Ok r
    → IsChosen s at (At l (SimpleGoal (Unifies x (Name q ys)))) e
    → IsAllowed (unification_pair s at x (Name q ys) (role_of_name ys (known_at kn x) kn f)) (run.unify_name s e x q ys b)
name_sure s differ vars at strict l x q ys kn r e None false fits among d found is g begins = predicate_sure e x ys (value_at e x) (procedure_called s q)
name_sure s differ vars at strict l x q ys kn r e (Some f) true fits among d found is g begins =
    functor_sure s differ vars at strict l x q f ys kn r e (value_at e x) (known_at kn x) fits (in_rest x ys vars among) d refl (fits.each x (in_first x ys vars among)) (functor_found_by s q (length ys) f found) g begins
name_sure s differ vars at strict l x q ys kn r e None true fits among d found is g begins = absurd (false≢true (sym is))
name_sure s differ vars at strict l x q ys kn r e (Some f) false fits among d found is g begins = absurd (false≢true is)

unify_sure : (s : Hlds) → TypesDiffer s → (vars : List ℕ) (at : Option ℕ) (strict : Bool) (l x : ℕ) (t : Term) (kn r : InstMap) (e : Env)
    → Fits s vars kn e → In' (simple_variables (Unifies x t)) vars → IsTidySimple (Unifies x t) → rules.unify s strict l x t kn ≡ Ok r
    → IsChosen s at (At l (SimpleGoal (Unifies x t))) e
    → IsAllowed (unification_pair s at x t (role_of_unification s x t kn)) (run.unify s e x t)
unify_sure s differ vars at strict l x (Var y) kn r e fits among tidy g begins =
    variables_sure s at x y e (value_at e x) (value_at e y) (known_at kn x) (known_at kn y) (fits.each x (in_first x (y ∷ []) vars among)) (fits.each y (in_first y [] vars (in_rest x (y ∷ []) vars among)))
unify_sure s differ vars at strict l x (Int n) kn r e fits among tidy g begins = int_sure s at l x n e (known_at kn x) kn (fits.each x (in_first x [] vars among)) begins
unify_sure s differ vars at strict l x (Str n) kn r e fits among tidy g begins = text_sure s at l x n e (known_at kn x) kn (fits.each x (in_first x [] vars among)) begins
unify_sure s differ vars at strict l x (Name q ys) kn r e fits among tidy g begins =
    name_sure s differ vars at strict l x q ys kn r e (functor_called s q (length ys)) (is_functor s q (length ys)) fits among tidy refl (functor_is s q (length ys)) g begins

-- ---- the other goals

compute_sure : (e : Env) (z : ℕ) (op : Op) (a b v : Option Value) → IsAllowed sure (run.compute e z op a b v)
compute_sure e z op (Some (Number a)) (Some (Number b)) None = refl
compute_sure e z op (Some (Number a)) (Some (Number b)) (Some v) = tt
compute_sure e z op (Some (Number a)) (Some (Literal b)) v = tt
compute_sure e z op (Some (Number a)) (Some (Built f b)) v = tt
compute_sure e z op (Some (Number a)) (Some (Closure f b)) v = tt
compute_sure e z op (Some (Number a)) None v = tt
compute_sure e z op (Some (Literal a)) b v = tt
compute_sure e z op (Some (Built f a)) b v = tt
compute_sure e z op (Some (Closure f a)) b v = tt
compute_sure e z op None b v = tt

write_sure : (e : Env) (after : ℕ) (bytes : List ℕ) (v w : Option Value) → IsAllowed sure (run.write e after bytes v w)
write_sure e after bytes (Some v) None = refl
write_sure e after bytes (Some v) (Some w) = tt
write_sure e after bytes None w = tt

write_int_sure : (e : Env) (after : ℕ) (x v w : Option Value) → IsAllowed sure (run.write_int e after x v w)
write_int_sure e after (Some (Number n)) v w = write_sure e after _ v w
write_int_sure e after (Some (Literal b)) v w = tt
write_int_sure e after (Some (Built f b)) v w = tt
write_int_sure e after (Some (Closure f b)) v w = tt
write_int_sure e after None v w = tt

write_text_sure : (e : Env) (after : ℕ) (x v w : Option Value) → IsAllowed sure (run.write_text e after x v w)
write_text_sure e after (Some (Literal n)) v w = write_sure e after n v w
write_text_sure e after (Some (Number b)) v w = tt
write_text_sure e after (Some (Built f b)) v w = tt
write_text_sure e after (Some (Closure f b)) v w = tt
write_text_sure e after None v w = tt

raise_any : (p : Pair) (o : Option Value) → IsAllowed p (raise o)
raise_any p None = tt
raise_any p (Some (Literal b)) = tt
raise_any p (Some (Number b)) = tt
raise_any p (Some (Built f b)) = tt
raise_any p (Some (Closure f b)) = tt

pub simple_sure : (s : Hlds) → TypesDiffer s → (vars : List ℕ) (at : Option ℕ) (strict : Bool) (l : ℕ) (g : Simple) (kn r : InstMap) (e : Env)
    → Fits s vars kn e → In' (simple_variables g) vars → IsTidySimple g → rules.simple s strict l g kn ≡ Ok r → IsChosen s at (At l (SimpleGoal g)) e
    → IsAllowed (simple_pair s at g kn) (run.simple s e g)
simple_sure s differ vars at strict l Succeeds kn r e fits among tidy ok begins = refl
simple_sure s differ vars at strict l Fails kn r e fits among tidy ok begins = refl
simple_sure s differ vars at strict l (Unifies x t) kn r e fits among tidy ok begins = unify_sure s differ vars at strict l x t kn r e fits among tidy ok begins
simple_sure s differ vars at strict l (Computes z a op b) kn r e fits among tidy ok begins = compute_sure e z op (value_at e a) (value_at e b) (value_at e z)
simple_sure s differ vars at strict l (Compares a c b) kn r e fits among tidy ok begins = any_unsure (run.compare e c (value_at e a) (value_at e b))
simple_sure s differ vars at strict l (WritesInt x before after) kn r e fits among tidy ok begins = write_int_sure e after (value_at e x) (value_at e before) (value_at e after)
simple_sure s differ vars at strict l (WritesText x before after) kn r e fits among tidy ok begins = write_text_sure e after (value_at e x) (value_at e before) (value_at e after)
simple_sure s differ vars at strict l (EndsLine before after) kn r e fits among tidy ok begins = write_sure e after (10 ∷ []) (value_at e before) (value_at e after)
simple_sure s differ vars at strict l (Raises x) kn r e fits among tidy ok begins = raise_any (simple_pair s at (Raises x) kn) (value_at e x)
