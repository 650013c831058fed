-- A switch that is whole has an arm for each value of the type of its variable.
use Rattle.std.proofs.Common.{◌≡◌, refl, sym, ap, ◌∙◌, subst, arith, ℕ, ◌<◌, Bool, true, false, ◌&&◌, ◌||◌, cond, nat_eq, List, [], ◌∷◌, length, Option, Some, None, Ok, is_some}
use Rattle.std.proofs.lemmas.Bool.{and_parts, eqb-true, false≢true}
use Rattle.std.specs.Str.{bytes_eq}
use Rattle.std.specs.Prelude.{⊤}
use Rattle.md_hlds.specs.declared.goal.Term.{Term}
use Rattle.md_hlds.specs.declared.goal.Term.TheVariants.{Var, Int, Str, Name}
use Rattle.md_hlds.specs.declared.goal.PredName.{PredName}
use Rattle.md_hlds.specs.HldsGoal.{Succeeds, Fails, Unifies, Computes, Compares, WritesInt, WritesText, EndsLine, Raises, HldsGoal, At, SimpleGoal, CallGoal, HoCallGoal, ConjGoal, DisjGoal, IfGoal, NotGoal, SomeGoal, HldsGoals, nothing, also}
use Rattle.md_hlds.specs.Hlds.{HldsType, named, HldsFunctor, HldsTypeDef, Hlds, is_functor}
use Rattle.md_hlds.specs.Value.{Value, Values, Number, Literal, Built, Closure, value_count, Env}
use Rattle.md_hlds.specs.Switch.{Key, IntKey, TextKey, FunctorKey, term_key, variable_key, goal_key, arm_key, prepend_key, keys_of, has_key, all_different, if_different, switch_on, switch_shape, has_the_key}
use Rattle.md_names.specs.Named.{construct_among, functor_found}
use Rattle.md_inst.specs.declared.fault.ModeFault.TheVariants.{TypeClash}
use Rattle.md_inst.specs.HldsTypes.{same_sort}
use Rattle.md_inst.specs.Instantiation.{Instantiation, has, InstMap, known_at, times}
use Rattle.md_inst.specs.Named.{Functor, functor_called}
use Rattle.md_inst.specs.Arguments.{givens}
use Rattle.md_inst.specs.Simple.{atomic, named_term, functor_known}
use Rattle.md_modes.specs.Branches.{After}
use Rattle.md_modes.specs.Goals.{Scope, variables, parts_variables, goal, arms}
use Rattle.md_modes.proofs.Counts.{times-append}
use Rattle.md_det.specs.Switches.{family_with, key_of, all_have_keys, no_functor_missing, is_whole}
use Rattle.md_names.proofs.Standing.{family_found}
use Rattle.md_det.proofs.Functors.{family_there}
use Rattle.law_safety.specs.Values.{HasType, HaveTypes}
use Rattle.law_safety.specs.Known.{IsChosen}
use Rattle.law_safety.proofs.SameTypes.{same_sort_is, same_bytes_are}
use Rattle.law_safety.proofs.Verdicts.{ok_where, ok_reached}
use Rattle.law_safety.proofs.Handing.{first_times}
use Rattle.law_safety.proofs.Functors.{functor_is, functor_found_by}
use Rattle.law_safety.proofs.Accepted.{each_ok, arms_ok}
use Rattle.law_safety.proofs.TypesDiffer.{TypesDiffer, found_one}
use Rattle.law_safety.proofs.Sure.{built_there}

-- ---- the arms' keys

key_pair : (x y : ℕ) (o : Option Key) (k : Key) → variable_key x o ≡ Some (y, k) → (x ≡ y) × (o ≡ Some k)
key_pair x y None k h = absurd (cc h)
key_pair x y (Some j) k h =
    let is : ◌≡◌ {A = ℕ × Key} (x, j) (y, k) = cc h in
    (ap (λ (z : ℕ × Key). z.0) is, ap (λ (z : ℕ × Key). Some z.1) is)

-- a goal with a key is a unification
pub record IsTest (s : Hlds) (p : HldsGoal) (x : ℕ) (k : Key) : Type 0 where
  pub line : ℕ
  pub term : Term
  pub is : p ≡ At line (SimpleGoal (Unifies x term))
  pub key : term_key s term ≡ Some k

goal_test : (s : Hlds) (p : HldsGoal) (x : ℕ) (k : Key) → goal_key s p ≡ Some (x, k) → IsTest s p x k
goal_test s (At l (SimpleGoal (Unifies y t))) x k h =
    let a = key_pair y x (term_key s t) k h in
    record { line = l; term = t; is = ap (λ (z : ℕ). At l (SimpleGoal (Unifies z t))) a.0; key = a.1 }
goal_test s (At l (SimpleGoal Succeeds)) x k h = absurd (cc h)
goal_test s (At l (SimpleGoal Fails)) x k h = absurd (cc h)
goal_test s (At l (SimpleGoal (Computes z a op b))) x k h = absurd (cc h)
goal_test s (At l (SimpleGoal (Compares a c b))) x k h = absurd (cc h)
goal_test s (At l (SimpleGoal (WritesInt y a b))) x k h = absurd (cc h)
goal_test s (At l (SimpleGoal (WritesText y a b))) x k h = absurd (cc h)
goal_test s (At l (SimpleGoal (EndsLine a b))) x k h = absurd (cc h)
goal_test s (At l (SimpleGoal (Raises y))) x k h = absurd (cc h)
goal_test s (At l (CallGoal site q ys)) x k h = absurd (cc h)
goal_test s (At l (HoCallGoal site f ys)) x k h = absurd (cc h)
goal_test s (At l (ConjGoal ps)) x k h = absurd (cc h)
goal_test s (At l (DisjGoal ps)) x k h = absurd (cc h)
goal_test s (At l (IfGoal c t e)) x k h = absurd (cc h)
goal_test s (At l (NotGoal c)) x k h = absurd (cc h)
goal_test s (At l (SomeGoal vs c)) x k h = absurd (cc h)

-- the first part of a conjunction has the key that the conjunction has
pub first_key : (s : Hlds) (p : HldsGoal) (x : ℕ) (k : Key) → goal_key s p ≡ Some (x, k) → arm_key s p ≡ Some (x, k)
first_key s (At l (SimpleGoal g)) x k h = h
first_key s (At l (CallGoal site q ys)) x k h = h
first_key s (At l (HoCallGoal site f ys)) x k h = h
first_key s (At l (ConjGoal ps)) x k h = absurd (cc h)
first_key s (At l (DisjGoal ps)) x k h = h
first_key s (At l (IfGoal c t e)) x k h = h
first_key s (At l (NotGoal c)) x k h = h
first_key s (At l (SomeGoal vs c)) x k h = h

-- the unification with which an arm begins, and that it is accepted there
arm_test : (s : Hlds) (c : Scope) (p : HldsGoal) (kn : InstMap) (a : After) (x : ℕ) (k : Key) → arm_key s p ≡ Some (x, k) → goal c p kn ≡ Ok a
    → (first : HldsGoal) × (b : After) × IsTest s first x k × (goal c first kn ≡ Ok b)
arm_test s c (At l (ConjGoal (also p ps))) kn a x k h ok =
    let o = each_ok c p ps kn a ok in
    (p, o.first, goal_test s p x k h, o.begins)
arm_test s c (At l (ConjGoal nothing)) kn a x k h ok = absurd (cc h)
arm_test s c (At l (SimpleGoal g)) kn a x k h ok = (At l (SimpleGoal g), a, goal_test s (At l (SimpleGoal g)) x k h, ok)
arm_test s c (At l (CallGoal site q ys)) kn a x k h ok = absurd (cc h)
arm_test s c (At l (HoCallGoal site f ys)) kn a x k h ok = absurd (cc h)
arm_test s c (At l (DisjGoal ps)) kn a x k h ok = absurd (cc h)
arm_test s c (At l (IfGoal p t e)) kn a x k h ok = absurd (cc h)
arm_test s c (At l (NotGoal p)) kn a x k h ok = absurd (cc h)
arm_test s c (At l (SomeGoal vs p)) kn a x k h ok = absurd (cc h)

test_occurs : (s : Hlds) (p : HldsGoal) (x : ℕ) (k : Key) → IsTest s p x k → 0 < times x (variables p)
test_occurs s p x k t = subst (λ (q : HldsGoal). 0 < times x (variables q)) (sym t.is) (first_times x _)

arm_occurs : (s : Hlds) (p : HldsGoal) (x : ℕ) (k : Key) → arm_key s p ≡ Some (x, k) → 0 < times x (variables p)
arm_occurs s (At l (ConjGoal (also p ps))) x k h =
    let there = test_occurs s p x k (goal_test s p x k h) in
    let e = times-append x (variables p) (parts_variables ps) in omega (arith, there, e)
arm_occurs s (At l (ConjGoal nothing)) x k h = absurd (cc h)
arm_occurs s (At l (SimpleGoal g)) x k h = test_occurs s (At l (SimpleGoal g)) x k (goal_test s (At l (SimpleGoal g)) x k h)
arm_occurs s (At l (CallGoal site q ys)) x k h = absurd (cc h)
arm_occurs s (At l (HoCallGoal site f ys)) x k h = absurd (cc h)
arm_occurs s (At l (DisjGoal ps)) x k h = absurd (cc h)
arm_occurs s (At l (IfGoal p t e)) x k h = absurd (cc h)
arm_occurs s (At l (NotGoal p)) x k h = absurd (cc h)
arm_occurs s (At l (SomeGoal vs p)) x k h = absurd (cc h)

-- ---- the shape

different : (x y : ℕ) (o : Option (List Key)) (ks : List Key) → if_different x o ≡ Some (y, ks) → (x ≡ y) × (o ≡ Some ks)
different x y None ks h = absurd (cc h)
different x y (Some js) ks h = by_test (all_different js) h
  where
    by_test : (b : Bool) → cond {A = Option (ℕ × List Key)} b (Some (x, js)) None ≡ Some (y, ks) → (x ≡ y) × (Some js ≡ Some ks)
    by_test false h = absurd (cc h)
    by_test true h =
        let is : ◌≡◌ {A = ℕ × List Key} (x, js) (y, ks) = cc h in
        (ap (λ (z : ℕ × List Key). z.0) is, ap (λ (z : ℕ × List Key). Some z.1) is)

switch_keys : (s : Hlds) (o : Option (ℕ × Key)) (ps : HldsGoals) (x : ℕ) (ks : List Key) → switch_on s o ps ≡ Some (x, ks) → keys_of s x ps ≡ Some ks
switch_keys s None ps x ks h = absurd (cc h)
switch_keys s (Some k) ps x ks h =
    let a = different k.0 x (keys_of s k.0 ps) ks h in
    subst (λ (z : ℕ). keys_of s z ps ≡ Some ks) a.0 a.1

pub shape_keys : (s : Hlds) (ps : HldsGoals) (x : ℕ) (ks : List Key) → switch_shape s ps ≡ Some (x, ks) → keys_of s x ps ≡ Some ks
shape_keys s nothing x ks h = absurd (cc h)
shape_keys s (also p ps) x ks h = switch_keys s (arm_key s p) (also p ps) x ks h

-- the first arm's key, and the others'
pub record AreKeys (s : Hlds) (x : ℕ) (p : HldsGoal) (ps : HldsGoals) (all : List Key) : Type 0 where
  pub first : Key
  pub rest : List Key
  pub arm : arm_key s p ≡ Some (x, first)
  pub others : keys_of s x ps ≡ Some rest
  pub is : all ≡ first ∷ rest

keys_step : (s : Hlds) (x : ℕ) (p : HldsGoal) (ps : HldsGoals) (all : List Key) (o : Option (ℕ × Key)) (r : Option (List Key)) → arm_key s p ≡ o → keys_of s x ps ≡ r → prepend_key x o r ≡ Some all → AreKeys s x p ps all
keys_step s x p ps all None r a b h = absurd (cc h)
keys_step s x p ps all (Some k) None a b h = absurd (cc h)
keys_step s x p ps all (Some k) (Some ks) a b h = by_test (nat_eq x k.0) refl h
  where
    by_test : (t : Bool) → nat_eq x k.0 ≡ t → cond t (Some (k.1 ∷ ks)) None ≡ Some all → AreKeys s x p ps all
    by_test false e h = absurd (cc h)
    by_test true e h =
        let same : x ≡ k.0 = eqb-true x k.0 e in
        let is : k.1 ∷ ks ≡ all = cc h in
        record { first = k.1; rest = ks; arm = a ∙ ap (λ (z : ℕ). Some (z, k.1)) (sym same); others = b; is = sym is }

pub first_keys : (s : Hlds) (x : ℕ) (p : HldsGoal) (ps : HldsGoals) (all : List Key) → keys_of s x (also p ps) ≡ Some all → AreKeys s x p ps all
first_keys s x p ps all h = keys_step s x p ps all (arm_key s p) (keys_of s x ps) refl refl h

-- the variable of a switch is one of its arms'
pub shape_occurs : (s : Hlds) (ps : HldsGoals) (x : ℕ) (ks : List Key) → switch_shape s ps ≡ Some (x, ks) → 0 < times x (parts_variables ps)
shape_occurs s nothing x ks h = absurd (cc h)
shape_occurs s (also p ps) x ks h =
    let keys = first_keys s x p ps ks (shape_keys s (also p ps) x ks h) in
    let there = arm_occurs s p x keys.first keys.arm in
    let e = times-append x (variables p) (parts_variables ps) in omega (arith, there, e)

-- ---- the type of the variable

name_type : (s : Hlds) (c : Scope) (l x : ℕ) (q : PredName) (ys : List ℕ) (t : HldsType) (used : Bool) (kn r : InstMap) (f : Option Functor) → functor_called s q (length ys) ≡ f → known_at kn x ≡ has t used
    → is_some f ≡ true → named_term s c.strict l x q ys f kn ≡ Ok r → (w : HldsTypeDef × HldsFunctor) × (functor_found q.name (length ys) s.types ≡ Some w) × (t ≡ named w.0.name)
name_type s c l x q ys t used kn r None found is there ok = absurd (false≢true there)
name_type s c l x q ys t used kn r (Some f) found is there ok =
    let by = functor_found_by s q (length ys) f found in
    let known : functor_known c.strict l x f ys (has t used) kn ≡ Ok r = subst (λ (k : Instantiation). functor_known c.strict l x f ys k kn ≡ Ok r) is ok in
    let b = ok_where (same_sort t f.makes) (TypeClash l) (givens l f.args ys kn) r known in
    (by.with, by.found, same_sort_is t f.makes b.0 ∙ ap (λ (g : Functor). g.makes) (sym by.is))

functor_key : (s : Hlds) (q : PredName) (n m : ℕ) (name : List ℕ) → cond (is_functor s q n) (Some (FunctorKey q.name n)) None ≡ Some (FunctorKey name m) → (is_functor s q n ≡ true) × (q.name ≡ name) × (n ≡ m)
functor_key s q n m name h = by_test (is_functor s q n) refl h
  where
    by_test : (b : Bool) → is_functor s q n ≡ b → cond b (Some (FunctorKey q.name n)) None ≡ Some (FunctorKey name m) → (is_functor s q n ≡ true) × (q.name ≡ name) × (n ≡ m)
    by_test false e h = absurd (cc h)
    by_test true e h = (e, cc h, cc h)

term_type : (s : Hlds) (c : Scope) (l x : ℕ) (term : Term) (name : List ℕ) (arity : ℕ) (t : HldsType) (used : Bool) (kn : InstMap) (a : After) → c.program ≡ s → term_key s term ≡ Some (FunctorKey name arity) → known_at kn x ≡ has t used
    → goal c (At l (SimpleGoal (Unifies x term))) kn ≡ Ok a → (w : HldsTypeDef × HldsFunctor) × (functor_found name arity s.types ≡ Some w) × (t ≡ named w.0.name)
term_type s c l x (Name q ys) name arity t used kn a program key known ok =
    let k = functor_key s q (length ys) arity name key in
    let o = (ok_reached true (atomic c.program c.strict l (SimpleGoal (Unifies x (Name q ys))) kn) a ok).0 in
    let there : is_some (functor_called s q (length ys)) ≡ true = sym (functor_is s q (length ys)) ∙ k.0 in
    let w = name_type s c l x q ys t used kn a.known (functor_called s q (length ys)) refl known there
    (subst (λ (p : Hlds). named_term p c.strict l x q ys (functor_called p q (length ys)) kn ≡ Ok a.known) program o) in
    (w.0, ap (λ (f : List ℕ). functor_found f arity s.types) (sym k.1) ∙ ap (λ (n : ℕ). functor_found q.name n s.types) (sym k.2) ∙ w.1, w.2)
term_type s c l x (Var y) name arity t used kn a program key known ok = absurd (cc key)
term_type s c l x (Int n) name arity t used kn a program key known ok = absurd (cc key)
term_type s c l x (Str b) name arity t used kn a program key known ok = absurd (cc key)

arm_type : (s : Hlds) (c : Scope) (p : HldsGoal) (x : ℕ) (name : List ℕ) (arity : ℕ) (t : HldsType) (used : Bool) (kn : InstMap) (a : After) → c.program ≡ s → arm_key s p ≡ Some (x, FunctorKey name arity) → known_at kn x ≡ has t used
    → goal c p kn ≡ Ok a → (w : HldsTypeDef × HldsFunctor) × (functor_found name arity s.types ≡ Some w) × (t ≡ named w.0.name)
arm_type s c p x name arity t used kn a program key known ok =
    let arm = arm_test s c p kn a x (FunctorKey name arity) key ok in
    let test = arm.2 in
    term_type s c test.line x test.term name arity t used kn arm.1 program test.key known (subst (λ (q : HldsGoal). goal c q kn ≡ Ok arm.1) test.is arm.3)

-- ---- a whole switch

-- some of these keys is the value's
abbrev pub has_some_key : Value → List Key → Bool
has_some_key v [] = false
has_some_key v (k ∷ ks) = has_the_key v k || has_some_key v ks

key_among : (g : List ℕ) (parts : Values) (ks : List Key) → has_key (FunctorKey g (value_count parts)) ks ≡ has_some_key (Built g parts) ks
key_among g parts [] = refl
key_among g parts (IntKey n ∷ ks) = key_among g parts ks
key_among g parts (TextKey b ∷ ks) = key_among g parts ks
key_among g parts (FunctorKey f n ∷ ks) = ap (λ (b : Bool). (bytes_eq g f && nat_eq (value_count parts) n) || b) (key_among g parts ks)

construct_step : (g : List ℕ) (m : ℕ) (h f : HldsFunctor) (fs : List HldsFunctor) (ks : List Key) (b : Bool) (o : Option HldsFunctor) → (bytes_eq g h.name && nat_eq m (length h.args)) ≡ b
    → has_key (key_of h) ks ≡ true → (o ≡ Some f → has_key (FunctorKey g m) ks ≡ true) → cond b (Some h) o ≡ Some f → has_key (FunctorKey g m) ks ≡ true
construct_step g m h f fs ks true o e has' rest is =
    let both = and_parts (bytes_eq g h.name) (nat_eq m (length h.args)) e in
    let name : g ≡ h.name = same_bytes_are g h.name both.0 in
    let arity : m ≡ length h.args = eqb-true m (length h.args) both.1 in
    rw (name, arity) has'
construct_step g m h f fs ks false o e has' rest is = rest is

construct_has : (g : List ℕ) (m : ℕ) (f : HldsFunctor) (fs : List HldsFunctor) (ks : List Key) → construct_among g m fs ≡ Some f → all_have_keys ks fs ≡ true → has_key (FunctorKey g m) ks ≡ true
construct_has g m f [] ks h all = absurd (cc h)
construct_has g m f (h ∷ fs) ks is all =
    let both = and_parts (has_key (key_of h) ks) (all_have_keys ks fs) all in
    construct_step g m h f fs ks (bytes_eq g h.name && nat_eq m (length h.args)) (construct_among g m fs) refl both.0 (λ e. construct_has g m f fs ks e both.1) is

value_keyed : (s : Hlds) → TypesDiffer s → (v : Value) (name : List ℕ) (arity : ℕ) (w : HldsTypeDef × HldsFunctor) (ks : List Key) → functor_found name arity s.types ≡ Some w → HasType s v (named w.0.name)
    → no_functor_missing ks (family_with name arity s.types) ≡ true → has_some_key v ks ≡ true
value_keyed s differ (Built g parts) name arity w ks found typed whole =
    let family : family_with name arity s.types ≡ Some w.0 = family_there name arity s.types ∙ ap family_found found in
    let all : all_have_keys ks w.0.functors ≡ true = sym (ap (no_functor_missing ks) family) ∙ whole in
    let v = built_there w.0.name (λ ts. HaveTypes s parts ts) (functor_found g (value_count parts) s.types) typed in
    let a = found_one name arity s.types w found in
    let b = found_one g (value_count parts) s.types v.0 v.1 in
    let same : v.0.0 ≡ w.0 = differ v.0.0 w.0 b.0 a.0 v.2 in
    sym (key_among g parts ks) ∙ construct_has g (value_count parts) v.0.1 w.0.functors ks (ap (λ (t : HldsTypeDef). construct_among g (value_count parts) t.functors) (sym same) ∙ b.1) all
value_keyed s differ (Number n) name arity w ks found typed whole = elim typed [ ]
value_keyed s differ (Literal b) name arity w ks found typed whole = elim typed [ ]
value_keyed s differ (Closure p vs) name arity w ks found typed whole = elim typed [ ]

-- each value of the type of the variable has the key of an arm
whole_keys : (s : Hlds) → TypesDiffer s → (c : Scope) (p : HldsGoal) (x : ℕ) (k : Key) (ks : List Key) (v : Value) (t : HldsType) (used : Bool) (kn : InstMap) (a : After) → c.program ≡ s → arm_key s p ≡ Some (x, k)
    → known_at kn x ≡ has t used → goal c p kn ≡ Ok a → HasType s v t → is_whole s (k ∷ ks) ≡ true → has_some_key v (k ∷ ks) ≡ true
whole_keys s differ c p x (FunctorKey name arity) ks v t used kn a program key known ok typed whole =
    let w = arm_type s c p x name arity t used kn a program key known ok in
    value_keyed s differ v name arity w.0 (FunctorKey name arity ∷ ks) w.1 (subst (λ (u : HldsType). HasType s v u) w.2 typed) whole
whole_keys s differ c p x (IntKey n) ks v t used kn a program key known ok typed whole = absurd (false≢true whole)
whole_keys s differ c p x (TextKey b) ks v t used kn a program key known ok typed whole = absurd (false≢true whole)

pub whole_any : (s : Hlds) → TypesDiffer s → (c : Scope) (ps : HldsGoals) (x : ℕ) (ks : List Key) (v : Value) (t : HldsType) (used : Bool) (kn : InstMap) (ends : List After) → c.program ≡ s → switch_shape s ps ≡ Some (x, ks)
    → known_at kn x ≡ has t used → arms c ps kn ≡ Ok ends → HasType s v t → is_whole s ks ≡ true → has_some_key v ks ≡ true
whole_any s differ c nothing x ks v t used kn ends program shape known ok typed whole = absurd (cc shape)
whole_any s differ c (also p ps) x ks v t used kn ends program shape known ok typed whole =
    let keys = first_keys s x p ps ks (shape_keys s (also p ps) x ks shape) in
    let o = arms_ok c p ps kn ends ok in
    subst (λ (js : List Key). has_some_key v js ≡ true) (sym keys.is)
    (whole_keys s differ c p x keys.first keys.rest v t used kn o.first program keys.arm known o.begins typed (subst (λ (js : List Key). is_whole s js ≡ true) keys.is whole))

-- ---- the first of these goals

-- the first of these goals begins an arm that is chosen, if it begins one
abbrev pub IsFirstChosen : Hlds → Option ℕ → HldsGoals → Env → Type 0
IsFirstChosen s at nothing e = ⊤
IsFirstChosen s at (also p ps) e = IsChosen s at p e

pub first_chosen : (s : Hlds) (at : Option ℕ) (l : ℕ) (ps : HldsGoals) (e : Env) → IsChosen s at (At l (ConjGoal ps)) e → IsFirstChosen s at ps e
first_chosen s at l nothing e h = tt
first_chosen s None l (also p ps) e h = tt
first_chosen s (Some x) l (also p ps) e h = (h.0, first_key s p x h.0 h.1, h.2)

pub none_chosen : (s : Hlds) (ps : HldsGoals) (e : Env) → IsFirstChosen s None ps e
none_chosen s nothing e = tt
none_chosen s (also p ps) e = tt
