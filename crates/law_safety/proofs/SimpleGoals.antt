-- Simple goals that the mode rules accept, in environments that fit.
use Rattle.std.proofs.Common.{◌≡◌, refl, sym, ap, ◌∙◌, subst, inl, inr, arith, ℕ, zero, suc, ◌+◌, ◌<◌, ◌⊎◌, ℤ, pos, Bool, true, false, ◌&&◌, cond, nat_eq, nat_lt, List, [], ◌∷◌, length, take, drop, Option, Some, None, Ok, is_some, slice_get, bytes_eq}
use Rattle.std.proofs.lemmas.Bool.{and_parts, eqb-true, ltb-true, false≢true}
use Rattle.md_hlds.specs.declared.types.Mode.{Mode}
use Rattle.md_hlds.specs.declared.types.Mode.TheVariants.{In, Out, Di, Uo}
use Rattle.md_hlds.specs.declared.goal.Term.{Term}
use Rattle.md_hlds.specs.declared.goal.Term.TheVariants.{Var, Int, Str, Name}
use Rattle.md_hlds.specs.declared.goal.Op.{Op}
use Rattle.md_hlds.specs.declared.goal.Cmp.{Cmp}
use Rattle.md_hlds.specs.declared.goal.PredName.{PredName}
use Rattle.md_hlds.specs.HldsGoal.{Simple, Succeeds, Fails, Unifies, Computes, Compares, WritesInt, WritesText, EndsLine, Raises}
use Rattle.md_hlds.specs.Hlds.{HldsType, number, text, world, named, HldsFunctor, HldsTypeDef, Procedure, Hlds, procedure_called, is_functor}
use Rattle.md_hlds.specs.Value.{Value, Values, Number, Literal, Built, Closure, no_values, also_value, listed_values, gathered_values, value_count, compared, Env, value_at, values_at, bound}
use Rattle.md_hlds.specs.Simple as run
use Rattle.md_hlds.specs.Simple.{Outcome, Go, No, Throws, Stop, goes, answer, compare_values, take_part, take_compared, same_functor, unify_constant, unify_values, result_of, holds, raise}
use Rattle.md_names.specs.Named.{functor_found}
use Rattle.md_inst.specs.declared.fault.ModeFault.TheVariants.{TypeClash, Arity, IoUsed}
use Rattle.md_inst.specs.HldsTypes.{same_sort}
use Rattle.md_inst.specs.Instantiation.{Instantiation, free, has, InstMap, known_at, put, hand_on, times}
use Rattle.md_inst.specs.Named.{Functor, functor_called, predicate_called}
use Rattle.md_inst.specs.Arguments.{is_spent, input, output, given_known, given, argument, arguments, inputs, givens}
use Rattle.md_inst.specs.Simple as rules
use Rattle.md_inst.specs.Simple.{assign, test, unify_known, make, functor_known, types_of, is_in, are_in, left_open, can_close, capture, close_known, close, predicate_term, named_term, builtin, arithmetic, comparison, line_end, raised, goes_on}
use Rattle.md_modes.specs.Goals.{simple_variables}
use Rattle.law_safety.specs.Values.{HasType, HaveTypes, AreHeld, IsBuiltOf, Agrees, Fits}
use Rattle.law_safety.specs.Arguments.{IsArgument}
use Rattle.law_safety.specs.Turns.{LeadsTo, IsTidySimple}
use Rattle.law_safety.proofs.Environments.{fits_put, fits_handed, fits_fewer}
use Rattle.law_safety.proofs.SameTypes.{same_sort_is, same_bytes_are}
use Rattle.law_safety.proofs.Verdicts.{ok_then, ok_after, ok_where, ok_unless, ok_is}
use Rattle.law_safety.proofs.Handing.{In', in_first, in_rest, input_ok, output_ok, given_ok, bound_value, free_value, handed, inputs_are}
use Rattle.law_safety.proofs.Functors.{functor_is, IsFunctor, functor_found_by, found_arity, predicate_number, called_at}

fits_is : (s : Hlds) (vars : List ℕ) (r q : InstMap) (e : Env) → r ≡ q → Fits s vars q e → Fits s vars r e
fits_is s vars r q e is h = subst (λ (k : InstMap). Fits s vars k e) (sym is) h

answer_leads : (s : Hlds) (vars : List ℕ) (r : InstMap) (e : Env) (extra : ℕ) (b : Bool) → Fits s vars r e → LeadsTo s vars true r (answer e extra b)
answer_leads s vars r e extra true h = (h, refl)
answer_leads s vars r e extra false h = tt

-- ---- X = Y

assign_ok : (strict : Bool) (l from to : ℕ) (t : HldsType) (used : Bool) (kn r : InstMap) → assign strict l from to t used kn ≡ Ok r → r ≡ put (hand_on from kn) to (has t false)
assign_ok strict l from to t used kn r h =
    let a = ok_unless (is_spent strict t used) (IoUsed l) _ r h in
    ok_is (Ok (put (hand_on from kn) to (has t false))) r (put (hand_on from kn) to (has t false)) a.1 refl

assign_fits : (s : Hlds) (vars : List ℕ) (strict : Bool) (l from to : ℕ) (t : HldsType) (used : Bool) (kn r : InstMap) (e : Env) (v : Value) → Fits s vars kn e → HasType s v t
    → assign strict l from to t used kn ≡ Ok r → Fits s vars r (bound e to v)
assign_fits s vars strict l from to t used kn r e v h typed g =
    fits_is s vars r _ _ (assign_ok strict l from to t used kn r g) (fits_put s vars (hand_on from kn) e to v t false (fits_handed s vars kn e from h) typed)

variables_lead : (s : Hlds) (vars : List ℕ) (strict : Bool) (l x y : ℕ) (kn r : InstMap) (e : Env) (o p : Option Value) (k j : Instantiation)
    → Fits s vars kn e → Agrees s o k → Agrees s p j → unify_known strict l x y k j kn ≡ Ok r → LeadsTo s vars true r (unify_values e x y o p)
variables_lead s vars strict l x y kn r e None None free free h a b g = absurd (cc g)
variables_lead s vars strict l x y kn r e (Some v) None (has t used) free h a b g = (assign_fits s vars strict l x y t used kn r e v h a g, refl)
variables_lead s vars strict l x y kn r e None (Some w) free (has t used) h a b g = (assign_fits s vars strict l y x t used kn r e w h b g, refl)
variables_lead s vars strict l x y kn r e (Some v) (Some w) (has t used) (has u spent) h a b g =
    let is = ok_after (test l t u) (Ok kn) r g in
    answer_leads s vars r e (compared v w).pairs (compared v w).equal (fits_is s vars r kn e (ok_is (Ok kn) r kn is.2 refl) h)
variables_lead s vars strict l x y kn r e None p (has t used) j h a b g = elim a [ ]
variables_lead s vars strict l x y kn r e (Some v) p free j h a b g = elim a [ ]
variables_lead s vars strict l x y kn r e None None free (has t used) h a b g = elim b [ ]
variables_lead s vars strict l x y kn r e None (Some w) free free h a b g = elim b [ ]
variables_lead s vars strict l x y kn r e (Some v) None (has t used) (has u spent) h a b g = elim b [ ]
variables_lead s vars strict l x y kn r e (Some v) (Some w) (has t used) free h a b g = elim b [ ]

-- ---- X = an integer or a literal

constant_leads : (s : Hlds) (vars : List ℕ) (l : ℕ) (t : HldsType) (c : Value) (x : ℕ) (kn r : InstMap) (e : Env) (o : Option Value) (k : Instantiation)
    → Fits s vars kn e → Agrees s o k → HasType s c t → given_known l t x k kn ≡ Ok r → LeadsTo s vars true r (unify_constant e x c o)
constant_leads s vars l t c x kn r e None free h a typed g =
    (fits_is s vars r _ _ (ok_is (Ok (put kn x (has t false))) r _ g refl) (fits_put s vars kn e x c t false h typed), refl)
constant_leads s vars l t c x kn r e (Some v) (has u used) h a typed g =
    let b = ok_where (same_sort u t) (TypeClash l) (Ok kn) r g in
    answer_leads s vars r e 0 (compared v c).equal (fits_is s vars r kn e (ok_is (Ok kn) r kn b.1 refl) h)
constant_leads s vars l t c x kn r e None (has u used) h a typed g = elim a [ ]
constant_leads s vars l t c x kn r e (Some v) free h a typed g = elim a [ ]

-- ---- X = f(Y1, .., Yn), f a functor

built_of : (t : List ℕ) (w : HldsTypeDef × HldsFunctor) (o : Option (HldsTypeDef × HldsFunctor)) (P : List HldsType → Type 0) → o ≡ Some w → IsBuiltOf o t P → P w.1.args
built_of t w None P e h = elim h [ ]
built_of t w (Some z) P e h =
    let is : ◌≡◌ {A = HldsTypeDef × HldsFunctor} z w = cc e in
    subst (λ (y : HldsTypeDef × HldsFunctor). P y.1.args) is h.1

built : (t : List ℕ) (w : HldsTypeDef × HldsFunctor) (o : Option (HldsTypeDef × HldsFunctor)) (P : List HldsType → Type 0) → o ≡ Some w → w.0.name ≡ t → P w.1.args → IsBuiltOf o t P
built t w o P e name h = subst (λ (p : Option (HldsTypeDef × HldsFunctor)). IsBuiltOf p t P) (sym e) (name, h)

build_done : (s : Hlds) (vars : List ℕ) (x arity : ℕ) (f : List ℕ) (r : InstMap) (e : Env) (o : Option (List Value)) (vs : List Value) → o ≡ Some vs
    → Fits s vars r (bound e x (Built f (gathered_values vs))) → LeadsTo s vars true r (run.build e x arity f o)
build_done s vars x arity f r e o vs is h = rw is (h, refl)

-- a term that is built is of the type that its functor makes
build_leads : (s : Hlds) (vars : List ℕ) (strict : Bool) (l x : ℕ) (q : PredName) (f : Functor) (ys : List ℕ) (kn r : InstMap) (e : Env)
    → Fits s vars kn e → In' ys vars → IsFunctor s q (length ys) f → make strict l x f ys kn ≡ Ok r → LeadsTo s vars true r (run.build e x (length ys) q.name (values_at e ys))
build_leads s vars strict l x q f ys kn r e h among found g =
    let b = ok_then (inputs strict l f.args ys kn) (λ k. Ok (put k x (has f.makes false))) r g in
    let w = found.with in
    let same_args : f.args ≡ w.1.args = ap (λ (c : Functor). c.args) (sym found.is) in
    let same_makes : f.makes ≡ named w.0.name = ap (λ (c : Functor). c.makes) (sym found.is) in
    let size : length ys ≡ length f.args = sym (ap (λ (ts : List HldsType). length ts) same_args ∙ found_arity q.name (length ys) s.types w found.found) in
    let are = inputs_are s vars strict l f.args ys kn b.0 e h among size b.1 in
    let is : r ≡ put kn x (has (named w.0.name) false) =
    ok_is (Ok (put b.0 x (has f.makes false))) r _ b.2 refl ∙ ap (λ (k : InstMap). put k x (has f.makes false)) are.same ∙ ap (λ (t : HldsType). put kn x (has t false)) same_makes in
    let there : functor_found q.name (value_count (gathered_values are.values)) s.types ≡ Some w = ap (λ (n : ℕ). functor_found q.name n s.types) are.size ∙ found.found in
    let typed : HasType s (Built q.name (gathered_values are.values)) (named w.0.name) =
    built w.0.name w _ (λ ts. HaveTypes s (gathered_values are.values) ts) there refl (subst (λ (ts : List HldsType). HaveTypes s (gathered_values are.values) ts) same_args are.typed) in
    build_done s vars x (length ys) q.name r e (values_at e ys) are.values are.are (fits_is s vars r _ _ is (fits_put s vars kn e x (Built q.name (gathered_values are.values)) (named w.0.name) false h typed))

take_none : (s : Hlds) (vars : List ℕ) (r : InstMap) (rest : Env → ℕ → Outcome) (e : Env) (extra y : ℕ) (v : Value) (o : Option Value) → o ≡ None
    → LeadsTo s vars true r (rest (bound e y v) extra) → LeadsTo s vars true r (take_part rest e extra y v o)
take_none s vars r rest e extra y v o is h = rw is h

take_cond : (s : Hlds) (vars : List ℕ) (r : InstMap) (rest : Env → ℕ → Outcome) (e : Env) (extra pairs : ℕ) (b : Bool) → ((n : ℕ) → LeadsTo s vars true r (rest e n))
    → LeadsTo s vars true r (cond b (rest e (extra + pairs)) (No (extra + pairs)))
take_cond s vars r rest e extra pairs true h = h (extra + pairs)
take_cond s vars r rest e extra pairs false h = tt

take_some : (s : Hlds) (vars : List ℕ) (r : InstMap) (rest : Env → ℕ → Outcome) (e : Env) (extra y : ℕ) (v w : Value) (o : Option Value) → o ≡ Some w
    → ((n : ℕ) → LeadsTo s vars true r (rest e n)) → LeadsTo s vars true r (take_part rest e extra y v o)
take_some s vars r rest e extra y v w o is h = rw is (take_cond s vars r rest e extra (compared w v).pairs (compared w v).equal h)

-- one part is taken, and then the others
part_leads : (s : Hlds) (vars : List ℕ) (l : ℕ) (t : HldsType) (y : ℕ) (kn k r : InstMap) (e : Env) (extra : ℕ) (v : Value) (rest : Env → ℕ → Outcome)
    → Fits s vars kn e → 0 < times y vars → HasType s v t → ((d : Env) (n : ℕ) → Fits s vars k d → LeadsTo s vars true r (rest d n))
    → ((known_at kn y ≡ free) × (k ≡ put kn y (has t false))) ⊎ ((k ≡ kn) × ((used : Bool) × (known_at kn y ≡ has t used)))
    → LeadsTo s vars true r (take_part rest e extra y v (value_at e y))
part_leads s vars l t y kn k r e extra v rest h there typed after (inl a) =
    take_none s vars r rest e extra y v (value_at e y) (free_value s (value_at e y) (known_at kn y) (h.each y there) a.0)
    (after (bound e y v) extra (fits_is s vars k _ _ a.1 (fits_put s vars kn e y v t false h typed)))
part_leads s vars l t y kn k r e extra v rest h there typed after (inr a) =
    let w = bound_value s (value_at e y) (known_at kn y) t a.1.0 (h.each y there) a.1.1 in
    take_some s vars r rest e extra y v w.0 (value_at e y) w.1 (λ n. after e n (fits_is s vars k kn e a.0 h))

apart_leads : (s : Hlds) (vars : List ℕ) (l : ℕ) (ts : List HldsType) (ys : List ℕ) (parts : Values) (kn r : InstMap) (e : Env) (extra : ℕ)
    → Fits s vars kn e → In' ys vars → HaveTypes s parts ts → givens l ts ys kn ≡ Ok r → LeadsTo s vars true r (run.take_apart ys (listed_values parts) e extra)
apart_leads s vars l [] [] no_values kn r e extra h among typed g = (fits_is s vars r kn e (ok_is (Ok kn) r kn g refl) h, refl)
apart_leads s vars l [] (y ∷ ys) no_values kn r e extra h among typed g = (fits_is s vars r kn e (ok_is (Ok kn) r kn g refl) h, refl)
apart_leads s vars l (t ∷ ts) [] (also_value v vs) kn r e extra h among typed g = (fits_is s vars r kn e (ok_is (Ok kn) r kn g refl) h, refl)
apart_leads s vars l (t ∷ ts) (y ∷ ys) (also_value v vs) kn r e extra h among typed g =
    let b = ok_then (given l t y kn) (λ k. givens l ts ys k) r g in
    part_leads s vars l t y kn b.0 r e extra v (run.take_apart ys (listed_values vs)) h (in_first y ys vars among) typed.0
    (λ d n fits. apart_leads s vars l ts ys vs b.0 r d n fits (in_rest y ys vars among) typed.1 b.2)
    (given_ok l t y kn b.0 b.1)
apart_leads s vars l (t ∷ ts) ys no_values kn r e extra h among typed g = elim typed [ ]
apart_leads s vars l [] ys (also_value v vs) kn r e extra h among typed g = elim typed [ ]

same_leads : (s : Hlds) (vars : List ℕ) (l : ℕ) (q g : List ℕ) (ys : List ℕ) (parts : Values) (t : List ℕ) (w : HldsTypeDef × HldsFunctor) (kn r : InstMap) (e : Env) (b : Bool)
    → (bytes_eq q g && nat_eq (length ys) (value_count parts)) ≡ b → functor_found q (length ys) s.types ≡ Some w → IsBuiltOf (functor_found g (value_count parts) s.types) t (λ ts. HaveTypes s parts ts)
    → Fits s vars kn e → In' ys vars → givens l w.1.args ys kn ≡ Ok r → LeadsTo s vars true r (same_functor e ys (listed_values parts) b)
same_leads s vars l q g ys parts t w kn r e false is found typed h among ok = tt
same_leads s vars l q g ys parts t w kn r e true is found typed h among ok =
    let both = and_parts (bytes_eq q g) (nat_eq (length ys) (value_count parts)) is in
    let name = same_bytes_are q g both.0 in
    let arity = eqb-true (length ys) (value_count parts) both.1 in
    let there : functor_found g (value_count parts) s.types ≡ Some w =
    ap (λ (n : ℕ). functor_found g n s.types) (sym arity) ∙ ap (λ (f : List ℕ). functor_found f (length ys) s.types) (sym name) ∙ found in
    apart_leads s vars l w.1.args ys parts kn r e 0 h among (built_of t w (functor_found g (value_count parts) s.types) (λ ts. HaveTypes s parts ts) there typed) ok

value_leads : (s : Hlds) (vars : List ℕ) (l x : ℕ) (q : List ℕ) (ys : List ℕ) (v : Value) (w : HldsTypeDef × HldsFunctor) (kn r : InstMap) (e : Env)
    → functor_found q (length ys) s.types ≡ Some w → HasType s v (named w.0.name) → Fits s vars kn e → In' ys vars → givens l w.1.args ys kn ≡ Ok r
    → LeadsTo s vars true r (run.unify_functor e x q ys (Some v))
value_leads s vars l x q ys (Built g parts) w kn r e found typed h among ok =
    same_leads s vars l q g ys parts w.0.name w kn r e (bytes_eq q g && nat_eq (length ys) (value_count parts)) refl found typed h among ok
value_leads s vars l x q ys (Number n) w kn r e found typed h among ok = elim typed [ ]
value_leads s vars l x q ys (Literal b) w kn r e found typed h among ok = elim typed [ ]
value_leads s vars l x q ys (Closure p held) w kn r e found typed h among ok = elim typed [ ]

functor_leads : (s : Hlds) (vars : List ℕ) (strict : Bool) (l x : ℕ) (q : PredName) (f : Functor) (ys : List ℕ) (kn r : InstMap) (e : Env) (o : Option Value) (k : Instantiation)
    → Fits s vars kn e → In' ys vars → Agrees s o k → IsFunctor s q (length ys) f → functor_known strict l x f ys k kn ≡ Ok r → LeadsTo s vars true r (run.unify_functor e x q.name ys o)
functor_leads s vars strict l x q f ys kn r e None free h among a found g = build_leads s vars strict l x q f ys kn r e h among found g
functor_leads s vars strict l x q f ys kn r e (Some v) (has t used) h among a found g =
    let b = ok_where (same_sort t f.makes) (TypeClash l) (givens l f.args ys kn) r g in
    let w = found.with in
    let makes : t ≡ named w.0.name = same_sort_is t f.makes b.0 ∙ ap (λ (c : Functor). c.makes) (sym found.is) in
    value_leads s vars l x q.name ys v w kn r e found.found (subst (λ (u : HldsType). HasType s v u) makes a) h among
    (subst (λ (c : Functor). givens l c.args ys kn ≡ Ok r) (sym found.is) b.1)
functor_leads s vars strict l x q f ys kn r e None (has t used) h among a found g = elim a [ ]
functor_leads s vars strict l x q f ys kn r e (Some v) free h among a found g = elim a [ ]

-- ---- X = q(Y1, .., Yk), q a predicate

mode_in : (m : Mode) → is_in m ≡ true → m ≡ In
mode_in In h = refl
mode_in Out h = absurd (false≢true h)
mode_in Di h = absurd (false≢true h)
mode_in Uo h = absurd (false≢true h)

-- captured values have the first arguments' types
held_are : (s : Hlds) (vs : Values) (n : ℕ) (args : List (HldsType × Mode)) → value_count vs ≡ n → HaveTypes s vs (types_of (take n args)) → are_in (take n args) ≡ true → AreHeld s vs args (drop n args)
held_are s no_values zero args size typed modes = refl
held_are s no_values (suc n) args size typed modes = absurd (omega (arith, size))
held_are s (also_value v vs) zero args size typed modes = absurd (omega (arith, size))
held_are s (also_value v vs) (suc n) [] size typed modes = elim typed [ ]
held_are s (also_value v vs) (suc n) (a ∷ args) size typed modes =
    let both = and_parts (is_in a.1) (are_in (take n args)) modes in
    (mode_in a.1 both.0, (typed.0, held_are s vs n args (omega (arith, size)) typed.1 both.1))

close_done : (s : Hlds) (vars : List ℕ) (x arity n : ℕ) (r : InstMap) (e : Env) (o : Option (List Value)) (vs : List Value) → o ≡ Some vs
    → Fits s vars r (bound e x (Closure n (gathered_values vs))) → LeadsTo s vars true r (run.close e x arity n o)
close_done s vars x arity n r e o vs is h = rw is (h, refl)

pub take_size : (n : ℕ) (args : List (HldsType × Mode)) → n < length args → n ≡ length (types_of (take n args))
take_size zero args lt = refl
take_size (suc n) [] lt = absurd (omega (arith, lt))
take_size (suc n) (a ∷ args) lt = ap suc (take_size n args (omega (arith, lt)))

closure_typed : (s : Hlds) (n : ℕ) (p : Procedure) (vs : Values) (others : List (HldsType × Mode)) → slice_get s.procedures n ≡ Some p → AreHeld s vs p.args others
    → HasType s (Closure n vs) (left_open others p.det)
closure_typed s n p vs others at held = rw at (others, held, refl)

capture_leads : (s : Hlds) (vars : List ℕ) (l x n : ℕ) (p : Procedure) (ys : List ℕ) (kn r : InstMap) (e : Env)
    → Fits s vars kn e → In' ys vars → length ys < length p.args → slice_get s.procedures n ≡ Some p
    → capture l x (take (length ys) p.args) (drop (length ys) p.args) p.det ys kn ≡ Ok r → LeadsTo s vars true r (run.close e x (length ys) n (values_at e ys))
capture_leads s vars l x n p ys kn r e h among lt at g =
    let held = take (length ys) p.args in
    let others = drop (length ys) p.args in
    let a = ok_where (can_close held others) (TypeClash l) _ r g in
    let b = ok_then (inputs true l (types_of held) ys kn) (λ k. Ok (put k x (has (left_open others p.det) false))) r a.1 in
    let modes = and_parts (are_in held) _ a.0 in
    let are = inputs_are s vars true l (types_of held) ys kn b.0 e h among (take_size (length ys) p.args lt) b.1 in
    let is : r ≡ put kn x (has (left_open others p.det) false) =
    ok_is (Ok (put b.0 x (has (left_open others p.det) false))) r _ b.2 refl ∙ ap (λ (k : InstMap). put k x (has (left_open others p.det) false)) are.same in
    let typed = closure_typed s n p (gathered_values are.values) others at (held_are s (gathered_values are.values) (length ys) p.args are.size are.typed modes.0) in
    close_done s vars x (length ys) n r e (values_at e ys) are.values are.are
    (fits_is s vars r _ _ is (fits_put s vars kn e x (Closure n (gathered_values are.values)) (left_open others p.det) false h typed))

close_leads : (s : Hlds) (vars : List ℕ) (l x n : ℕ) (p : Procedure) (ys : List ℕ) (kn r : InstMap) (e : Env) (o : Option Value) (k : Instantiation)
    → Fits s vars kn e → In' ys vars → Agrees s o k → length ys < length p.args → slice_get s.procedures n ≡ Some p
    → close_known l x p ys k kn ≡ Ok r → LeadsTo s vars true r (run.unify_predicate e x ys o (Some (n, p)))
close_leads s vars l x n p ys kn r e None free h among a lt at g = capture_leads s vars l x n p ys kn r e h among lt at g
close_leads s vars l x n p ys kn r e o (has t used) h among a lt at g = absurd (cc g)
close_leads s vars l x n p ys kn r e (Some v) free h among a lt at g = elim a [ ]

predicate_leads : (s : Hlds) (vars : List ℕ) (l x : ℕ) (q : PredName) (o : Option Procedure) (ys : List ℕ) (kn r : InstMap) (e : Env)
    → Fits s vars kn e → In' (x ∷ ys) vars → predicate_called s q ≡ o → predicate_term s l x q ys o kn ≡ Ok r
    → LeadsTo s vars true r (run.unify_predicate e x ys (value_at e x) (procedure_called s q))
predicate_leads s vars l x q None ys kn r e h among is g = absurd (cc g)
predicate_leads s vars l x q (Some p) ys kn r e h among is g =
    let a = ok_where (nat_lt (length ys) (length p.args)) (Arity l) _ r g in
    let n = predicate_number s q p is in
    subst (λ (m : Option (ℕ × Procedure)). LeadsTo s vars true r (run.unify_predicate e x ys (value_at e x) m)) (sym n.1)
    (close_leads s vars l x n.0 p ys kn r e (value_at e x) (known_at kn x) h (in_rest x ys vars among) (h.each x (in_first x ys vars among))
    (ltb-true (length ys) (length p.args) a.0) (called_at s q (n.0, p) n.1) a.1)

name_leads : (s : Hlds) (vars : List ℕ) (strict : Bool) (l x : ℕ) (q : PredName) (ys : List ℕ) (kn r : InstMap) (e : Env) (f : Option Functor) (b : Bool)
    → Fits s vars kn e → In' (x ∷ ys) vars → functor_called s q (length ys) ≡ f → b ≡ is_some f → named_term s strict l x q ys f kn ≡ Ok r
    → LeadsTo s vars true r (run.unify_name s e x q ys b)
name_leads s vars strict l x q ys kn r e None false h among found is g = predicate_leads s vars l x q (predicate_called s q) ys kn r e h among refl g
name_leads s vars strict l x q ys kn r e (Some f) true h among found is g =
    functor_leads s vars strict l x q f ys kn r e (value_at e x) (known_at kn x) h (in_rest x ys vars among) (h.each x (in_first x ys vars among)) (functor_found_by s q (length ys) f found) g
name_leads s vars strict l x q ys kn r e None true h among found is g = absurd (false≢true (sym is))
name_leads s vars strict l x q ys kn r e (Some f) false h among found is g = absurd (false≢true is)

unify_leads : (s : Hlds) (vars : List ℕ) (strict : Bool) (l x : ℕ) (t : Term) (kn r : InstMap) (e : Env) → Fits s vars kn e → In' (simple_variables (Unifies x t)) vars
    → rules.unify s strict l x t kn ≡ Ok r → LeadsTo s vars true r (run.unify s e x t)
unify_leads s vars strict l x (Var y) kn r e h among g =
    variables_lead s vars strict l x y kn r e (value_at e x) (value_at e y) (known_at kn x) (known_at kn y) h (h.each x (in_first x (y ∷ []) vars among))
    (h.each y (in_first y [] vars (in_rest x (y ∷ []) vars among))) g
unify_leads s vars strict l x (Int n) kn r e h among g = constant_leads s vars l number (Number n) x kn r e (value_at e x) (known_at kn x) h (h.each x (in_first x [] vars among)) tt g
unify_leads s vars strict l x (Str b) kn r e h among g = constant_leads s vars l text (Literal b) x kn r e (value_at e x) (known_at kn x) h (h.each x (in_first x [] vars among)) tt g
unify_leads s vars strict l x (Name q ys) kn r e h among g =
    name_leads s vars strict l x q ys kn r e (functor_called s q (length ys)) (is_functor s q (length ys)) h among refl (functor_is s q (length ys)) g

-- ---- arithmetic, comparisons and writes

in_number : (s : Hlds) (o : Option Value) → IsArgument s In number o → (n : ℤ) × (o ≡ Some (Number n))
in_number s None h = elim h [ ]
in_number s (Some (Number n)) h = (n, refl)
in_number s (Some (Literal b)) h = elim h [ ]
in_number s (Some (Built f vs)) h = elim h [ ]
in_number s (Some (Closure p vs)) h = elim h [ ]

in_text : (s : Hlds) (o : Option Value) → IsArgument s In text o → (b : List ℕ) × (o ≡ Some (Literal b))
in_text s None h = elim h [ ]
in_text s (Some (Literal b)) h = (b, refl)
in_text s (Some (Number n)) h = elim h [ ]
in_text s (Some (Built f vs)) h = elim h [ ]
in_text s (Some (Closure p vs)) h = elim h [ ]

in_state : (s : Hlds) (o : Option Value) → IsArgument s Di world o → (v : Value) × (o ≡ Some v)
in_state s None h = elim h [ ]
in_state s (Some v) h = (v, refl)

out_free : (s : Hlds) (t : HldsType) (o : Option Value) → IsArgument s Out t o → o ≡ None
out_free s t None h = refl
out_free s t (Some v) h = elim h [ ]

uo_free : (s : Hlds) (t : HldsType) (o : Option Value) → IsArgument s Uo t o → o ≡ None
uo_free s t None h = refl
uo_free s t (Some v) h = elim h [ ]

inputs_same : (strict : Bool) (l : ℕ) (t u : HldsType) (a b : ℕ) (kn r : InstMap) → arguments strict l ((t, In) ∷ (u, In) ∷ []) (a ∷ b ∷ []) kn ≡ Ok r → r ≡ kn
inputs_same strict l t u a b kn r g =
    let p = ok_then (input strict l t a kn) (λ k. arguments strict l ((u, In) ∷ []) (b ∷ []) k) r g in
    let q = ok_then (input strict l u b p.0) (λ k. Ok k) r p.2 in
    ok_is (Ok q.0) r q.0 q.2 refl ∙ (input_ok strict l u b p.0 q.0 q.1).0 ∙ (input_ok strict l t a kn p.0 p.1).0

computed_ok : (strict : Bool) (l z a b : ℕ) (kn r : InstMap) → arguments strict l arithmetic (z ∷ a ∷ b ∷ []) kn ≡ Ok r → r ≡ put kn z (has number false)
computed_ok strict l z a b kn r g =
    let p = ok_then (output strict l number z kn) (λ k. arguments strict l comparison (a ∷ b ∷ []) k) r g in
    inputs_same strict l number number a b p.0 r p.2 ∙ (output_ok strict l number z kn p.0 p.1).1

states_ok : (strict : Bool) (l before after : ℕ) (kn r : InstMap) → arguments strict l line_end (before ∷ after ∷ []) kn ≡ Ok r → r ≡ put (hand_on before kn) after (has world false)
states_ok strict l before after kn r g =
    let p = ok_then (argument strict l world Di before kn) (λ k. arguments strict l ((world, Uo) ∷ []) (after ∷ []) k) r g in
    let d = ok_then (input strict l world before kn) (λ k. Ok (hand_on before k)) p.0 p.1 in
    let q = ok_then (output strict l world after p.0) (λ k. Ok k) r p.2 in
    ok_is (Ok q.0) r q.0 q.2 refl ∙ (output_ok strict l world after p.0 q.0 q.1).1
    ∙ ap (λ (k : InstMap). put k after (has world false)) (ok_is (Ok (hand_on before d.0)) p.0 (hand_on before d.0) d.2 refl ∙ ap (hand_on before) (input_ok strict l world before kn d.0 d.1).0)

written_ok : (strict : Bool) (l : ℕ) (t : HldsType) (x before after : ℕ) (kn r : InstMap) → arguments strict l (builtin t) (x ∷ before ∷ after ∷ []) kn ≡ Ok r
    → r ≡ put (hand_on before kn) after (has world false)
written_ok strict l t x before after kn r g =
    let p = ok_then (input strict l t x kn) (λ k. arguments strict l line_end (before ∷ after ∷ []) k) r g in
    states_ok strict l before after p.0 r p.2 ∙ ap (λ (k : InstMap). put (hand_on before k) after (has world false)) (input_ok strict l t x kn p.0 p.1).0

compute_is : (e : Env) (z : ℕ) (op : Op) (o p v : Option Value) (a b : ℤ) → o ≡ Some (Number a) → p ≡ Some (Number b) → v ≡ None → run.compute e z op o p v ≡ goes (bound e z (Number (result_of op a b)))
compute_is e z op o p v a b f g h = rw (f, g, h) refl

compare_is : (e : Env) (c : Cmp) (o p : Option Value) (a b : ℤ) → o ≡ Some (Number a) → p ≡ Some (Number b) → run.compare e c o p ≡ answer e 0 (holds c a b)
compare_is e c o p a b f g = rw (f, g) refl

write_is : (e : Env) (after : ℕ) (bytes : List ℕ) (o p : Option Value) (v : Value) → o ≡ Some v → p ≡ None → run.write e after bytes o p ≡ Go (bound e after (Number (pos 0))) (length bytes) 0 (Some bytes)
write_is e after bytes o p v f g = rw (f, g) refl

write_leads : (s : Hlds) (vars : List ℕ) (before after : ℕ) (kn r : InstMap) (e : Env) (bytes : List ℕ) (o p : Option Value) → Fits s vars kn e
    → IsArgument s Di world o → IsArgument s Uo world p → r ≡ put (hand_on before kn) after (has world false) → LeadsTo s vars true r (run.write e after bytes o p)
write_leads s vars before after kn r e bytes o p h a b is =
    let v = in_state s o a in
    subst (λ (c : Outcome). LeadsTo s vars true r c) (sym (write_is e after bytes o p v.0 v.1 (uo_free s world p b)))
    (fits_is s vars r _ _ is (fits_put s vars (hand_on before kn) e after (Number (pos 0)) world false (fits_handed s vars kn e before h) refl), refl)

write_int_leads : (s : Hlds) (vars : List ℕ) (before after : ℕ) (kn r : InstMap) (e : Env) (i o p : Option Value) → Fits s vars kn e → IsArgument s In number i
    → IsArgument s Di world o → IsArgument s Uo world p → r ≡ put (hand_on before kn) after (has world false) → LeadsTo s vars true r (run.write_int e after i o p)
write_int_leads s vars before after kn r e i o p h c a b is =
    let n = in_number s i c in
    rw n.1 (write_leads s vars before after kn r e _ o p h a b is)

write_text_leads : (s : Hlds) (vars : List ℕ) (before after : ℕ) (kn r : InstMap) (e : Env) (i o p : Option Value) → Fits s vars kn e → IsArgument s In text i
    → IsArgument s Di world o → IsArgument s Uo world p → r ≡ put (hand_on before kn) after (has world false) → LeadsTo s vars true r (run.write_text e after i o p)
write_text_leads s vars before after kn r e i o p h c a b is =
    let n = in_text s i c in
    rw n.1 (write_leads s vars before after kn r e _ o p h a b is)

raise_leads : (s : Hlds) (vars : List ℕ) (reach : Bool) (r : InstMap) (o : Option Value) → IsArgument s In text o → LeadsTo s vars reach r (raise o)
raise_leads s vars reach r o c =
    let n = in_text s o c in
    rw n.1 tt

-- a simple goal that the rules accept, in an environment that fits
pub simple_leads : (s : Hlds) (vars : List ℕ) (strict : Bool) (l : ℕ) (g : Simple) (kn r : InstMap) (e : Env) → IsTidySimple g → Fits s vars kn e → In' (simple_variables g) vars
    → rules.simple s strict l g kn ≡ Ok r → LeadsTo s vars (goes_on g) r (run.simple s e g)
simple_leads s vars strict l Succeeds kn r e tidy h among ok = (fits_is s vars r kn e (ok_is (Ok kn) r kn ok refl) h, refl)
simple_leads s vars strict l Fails kn r e tidy h among ok = tt
simple_leads s vars strict l (Unifies x t) kn r e tidy h among ok = unify_leads s vars strict l x t kn r e h among ok
simple_leads s vars strict l (Computes z a op b) kn r e tidy h among ok =
    let args = handed s strict l arithmetic (z ∷ a ∷ b ∷ []) kn r e (fits_fewer s vars (z ∷ a ∷ b ∷ []) kn e among h) tidy refl ok in
    let m = in_number s (value_at e a) args.1.0 in
    let n = in_number s (value_at e b) args.1.1.0 in
    subst (λ (c : Outcome). LeadsTo s vars true r c) (sym (compute_is e z op (value_at e a) (value_at e b) (value_at e z) m.0 n.0 m.1 n.1 (out_free s number (value_at e z) args.0)))
    (fits_is s vars r _ _ (computed_ok strict l z a b kn r ok) (fits_put s vars kn e z (Number (result_of op m.0 n.0)) number false h tt), refl)
simple_leads s vars strict l (Compares a c b) kn r e tidy h among ok =
    let args = handed s strict l comparison (a ∷ b ∷ []) kn r e (fits_fewer s vars (a ∷ b ∷ []) kn e among h) tidy refl ok in
    let m = in_number s (value_at e a) args.0 in
    let n = in_number s (value_at e b) args.1.0 in
    subst (λ (d : Outcome). LeadsTo s vars true r d) (sym (compare_is e c (value_at e a) (value_at e b) m.0 n.0 m.1 n.1))
    (answer_leads s vars r e 0 (holds c m.0 n.0) (fits_is s vars r kn e (inputs_same strict l number number a b kn r ok) h))
simple_leads s vars strict l (WritesInt x before after) kn r e tidy h among ok =
    let args = handed s strict l (builtin number) (x ∷ before ∷ after ∷ []) kn r e (fits_fewer s vars (x ∷ before ∷ after ∷ []) kn e among h) tidy refl ok in
    write_int_leads s vars before after kn r e (value_at e x) (value_at e before) (value_at e after) h args.0 args.1.0 args.1.1.0 (written_ok strict l number x before after kn r ok)
simple_leads s vars strict l (WritesText x before after) kn r e tidy h among ok =
    let args = handed s strict l (builtin text) (x ∷ before ∷ after ∷ []) kn r e (fits_fewer s vars (x ∷ before ∷ after ∷ []) kn e among h) tidy refl ok in
    write_text_leads s vars before after kn r e (value_at e x) (value_at e before) (value_at e after) h args.0 args.1.0 args.1.1.0 (written_ok strict l text x before after kn r ok)
simple_leads s vars strict l (EndsLine before after) kn r e tidy h among ok =
    let args = handed s strict l line_end (before ∷ after ∷ []) kn r e (fits_fewer s vars (before ∷ after ∷ []) kn e among h) tidy refl ok in
    write_leads s vars before after kn r e (10 ∷ []) (value_at e before) (value_at e after) h args.0 args.1.0 (states_ok strict l before after kn r ok)
simple_leads s vars strict l (Raises x) kn r e tidy h among ok =
    let args = handed s strict l raised (x ∷ []) kn r e (fits_fewer s vars (x ∷ []) kn e among h) (refl, tt) refl ok in
    raise_leads s vars false r (value_at e x) args.0
