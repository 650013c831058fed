-- What is read off the notes of the mode checks is what the definitions say: by induction on the goal, where the notes from
-- the goal's number on begin with the goal's own.
use Rattle.std.proofs.Common.{◌≡◌, refl, sym, ap, ◌∙◌, arith, ℕ, zero, suc, ◌+◌, Bool, true, false, cond, ◌&&◌, ◌||◌, List, [], ◌∷◌, ◌++◌, length, length-append, drop, map, nat_eq, subst, Option, Some, None, slice_get, append_assoc}
use Rattle.std.specs.Prelude.{is_none, is_some}
use Rattle.md_hlds.specs.declared.goal.PredName.{PredName}
use Rattle.md_hlds.specs.declared.goal.Term.{Term}
use Rattle.md_hlds.specs.declared.goal.Term.TheVariants.{Var, Int, Str, Name}
use Rattle.md_hlds.specs.HldsGoal.{Simple, Succeeds, Fails, Unifies, Computes, Compares, WritesInt, WritesText, EndsLine, Raises, HldsGoal, At, GoalExpr, SimpleGoal, CallGoal, HoCallGoal, ConjGoal, DisjGoal, IfGoal, NotGoal, SomeGoal, HldsGoals, nothing, also, goals_within, goals_among}
use Rattle.md_hlds.specs.Hlds.{closure, HldsFunctor, HldsTypeDef, Procedure, Hlds, is_functor, unqualified_functor}
use Rattle.md_hlds.specs.Switch.{Key, IntKey, TextKey, FunctorKey, term_key, variable_key, goal_key, arm_key, prepend_key, keys_of, all_different, if_different, switch_on}
use Rattle.md_inst.specs.Instantiation.{Instantiation, free, has, InstMap, known_at, is_bound}
use Rattle.md_names.specs.declared.named.Named.{Named}
use Rattle.md_names.specs.declared.named.Named.TheVariants.{Nothing}
use Rattle.md_names.specs.Named.{functor_found, named_term, term_name, simple_name, goal_name, name_at}
use Rattle.md_names.proofs.Standing.{functor_there}
use Rattle.md_inst.specs.Named.{Functor, functor_of, functor_called, if_unqualified}
use Rattle.md_modes.proofs.NoteNames.{told, told_of, arms_tell, named_told, size_told}
use Rattle.md_switch.proofs.Tells.{Tells, tells-own, tells-goal, shape_is}
use Rattle.md_det.proofs.Functors.{type_is, call_is}
use Rattle.md_modes.specs.Branches.{outside, some_of}
use Rattle.md_modes.specs.Goals.{Scope, within, variables, goal}
use Rattle.md_modes.specs.Modes.{entry, scope_of}
use Rattle.md_modes.specs.Notes.{Role, constructs, closes, takes_apart, assigns, tests, applies, Note, role_of, role_of_unification, role_of_term, role_of_name, role_of_variables, bound_places, role_of_closure, binds, known_after, notes, inner_notes, each_notes, arm_notes, clause_notes, notes_from, program_notes}
use Rattle.md_modes.specs.Classes.{role_at, role_of_note, state_at, state_of_note, named_at, name_of_note, noted_size, size_of_note, outside_at, outside_of_note, size_at}
use Rattle.md_det.specs.declared.fault.DetFault.{DetFault}
use Rattle.md_det.specs.declared.fault.DetFault.TheVariants.{ManyInCondition, IoInBacktracking}
use Rattle.md_det.specs.declared.finding.Finding.{Finding}
use Rattle.md_det.specs.declared.finding.Switch.{Switch}
use Rattle.md_det.specs.declared.pair.Bound.{Bound}
use Rattle.md_det.specs.declared.pair.Bound.TheVariants.{One}
use Rattle.md_det.specs.declared.pair.Pair.{Pair}
use Rattle.md_det.specs.Bounds.{is_many, product}
use Rattle.md_det.specs.Pairs.{cut, all_alternatives, one_of_all}
use Rattle.md_det.specs.Switches.{no_functor_missing, is_whole, is_alone, switch_with, switch_on_known, switch_of, variable_of}
use Rattle.md_det.specs.Determinism.{sure, apart_pair, is_at, is_none_bound, one_functor, unification_pair, simple_pair, apply_pair, disjunction_pair, goal_pair, each_pair, arm_pairs}
use Rattle.md_det.proofs.Reach.{condition_binds}
use Rattle.md_det.specs.Faults.{fault_if, binds_many, goal_faults, each_faults, arm_faults, first_of, declared_faults, body_pair, procedure_faults, faults_of, det_fault}
use Rattle.md_det.specs.Findings.{findings, inner_findings, each_findings, arm_findings, findings_from, program_findings}
use Rattle.md_det.specs.Judge.{Reading, Judgement, judgement, or_else, fault_where, read_role, read_call, read_simple, read_apply, read_whole, first_goal, is_apart, shaped, read_switch, beside, no_arm, if_missing, found, whole, io_fault, and_then, or_arm, chosen, judge_part, judge_each, judge_arms, state_fault, declared, judge_procedure, and_others, judge_procedures}

abbrev pub reading : Scope → List Note → Reading
reading c ns = record { program = c.program; notes = ns }

-- by the notes, each name stands for what it stands for, and each goal has its size
pub record AreOf (p : Hlds) (ns : List Note) : Type 0 where
  pub names : (k : ℕ) → named_at ns k ≡ name_at p k
  pub sizes : (k : ℕ) → noted_size ns k ≡ size_at p k

-- ---- lists

at_drop : {A : Type 0} (xs : List A) (n : ℕ) (x : A) (r : List A) → drop n xs ≡ x ∷ r → slice_get xs n ≡ Some x
at_drop [] zero x r e = absurd (cc)
at_drop [] (suc n) x r e = absurd (cc)
at_drop (y ∷ ys) zero x r e = cc
at_drop (y ∷ ys) (suc n) x r e = at_drop ys n x r e

drop_one : {A : Type 0} (xs : List A) (n : ℕ) (x : A) (r : List A) → drop n xs ≡ x ∷ r → drop (suc n) xs ≡ r
drop_one [] zero x r e = absurd (cc)
drop_one [] (suc n) x r e = absurd (cc)
drop_one (y ∷ ys) zero x r e = cc
drop_one (y ∷ ys) (suc n) x r e = drop_one ys n x r e

drop_all : {A : Type 0} (xs : List A) (n : ℕ) (ys r : List A) → drop n xs ≡ ys ++ r → drop (n + length ys) xs ≡ r
drop_all xs n [] r e = let m : n + 0 ≡ n = omega arith in rw m e
drop_all xs n (y ∷ ys) r e =
    let m : n + suc (length ys) ≡ suc n + length ys = omega arith in
    rw m (drop_all xs (suc n) ys r (drop_one xs n y (ys ++ r) e))

-- past the notes of a goal, with which as many findings go
past : {A B : Type 0} (xs : List A) (n : ℕ) (ys r : List A) (fs : List B) → drop n xs ≡ ys ++ r → length fs ≡ length ys → drop (n + length fs) xs ≡ r
past xs n ys r fs e same = rw same (drop_all xs n ys r e)

-- ---- faults

first_of-append : (fs gs : List DetFault) → or_else (first_of fs) (first_of gs) ≡ first_of (fs ++ gs)
first_of-append [] gs = refl
first_of-append (f ∷ fs) gs = refl

first_of-if : (b : Bool) (f : DetFault) (fs : List DetFault) → or_else (fault_where b f) (first_of fs) ≡ first_of (fault_if b f ++ fs)
first_of-if true f fs = refl
first_of-if false f fs = refl

only_if : (b : Bool) (f : DetFault) → fault_where b f ≡ first_of (fault_if b f ++ [])
only_if true f = refl
only_if false f = refl

-- ---- as many findings as notes

mutual
  length_findings : (c : Scope) (at : Option ℕ) (q : HldsGoal) (s : InstMap) → length (findings c at q s) ≡ length (notes c q s)
  length_findings c at (At l t) s = ap suc (length_inner c at t s)

  length_inner : (c : Scope) (at : Option ℕ) (t : GoalExpr) (s : InstMap) → length (inner_findings c at t s) ≡ length (inner_notes c t s)
  length_inner c at (SimpleGoal g) s = refl
  length_inner c at (CallGoal site q ys) s = refl
  length_inner c at (HoCallGoal site f ys) s = refl
  length_inner c at (ConjGoal ps) s = length_each c at ps s
  length_inner c at (DisjGoal ps) s = length_arms c (variable_of (switch_of c.program ps s)) ps s
  length_inner c at (IfGoal p t e) s =
      let r = known_after s (goal (within c) p s) in
      rw (
        length-append (findings (within c) None p s) (findings c None t r ++ findings c None e s),
        length-append (findings c None t r) (findings c None e s),
        length-append (notes (within c) p s) (notes c t r ++ notes c e s),
        length-append (notes c t r) (notes c e s),
        length_findings (within c) None p s,
        length_findings c None t r,
        length_findings c None e s,
      ) refl
  length_inner c at (NotGoal p) s = length_findings (within c) None p s
  length_inner c at (SomeGoal vs p) s = length_findings (within c) None p s

  length_each : (c : Scope) (at : Option ℕ) (ps : HldsGoals) (s : InstMap) → length (each_findings c at ps s) ≡ length (each_notes c ps s)
  length_each c at nothing s = refl
  length_each c at (also p ps) s =
      let r = known_after s (goal c p s) in
      rw (
        length-append (findings c at p s) (each_findings c None ps r),
        length-append (notes c p s) (each_notes c ps r),
        length_findings c at p s,
        length_each c None ps r,
      ) refl

  length_arms : (c : Scope) (at : Option ℕ) (ps : HldsGoals) (s : InstMap) → length (arm_findings c at ps s) ≡ length (arm_notes c ps s)
  length_arms c at nothing s = refl
  length_arms c at (also p ps) s =
      rw (
        length-append (findings c at p s) (arm_findings c at ps s),
        length-append (notes c p s) (arm_notes c ps s),
        length_findings c at p s,
        length_arms c at ps s,
      ) refl

-- ---- the bound of a goal, whether or not it begins an arm of a switch

apart_bound : (b : Bool) → (apart_pair b).bound ≡ One
apart_bound true = refl
apart_bound false = refl

role_bound : (p : Hlds) (at : Option ℕ) (x : ℕ) (t : Term) (r : Role) → (unification_pair p at x t r).bound ≡ (unification_pair p None x t r).bound
role_bound p at x t constructs = refl
role_bound p at x t closes = refl
role_bound p at x t (takes_apart bound) = apart_bound _ ∙ sym (apart_bound _)
role_bound p at x t (assigns to) = refl
role_bound p at x t tests = refl
role_bound p at x t (applies u) = refl

simple_bound : (p : Hlds) (at : Option ℕ) (g : Simple) (s : InstMap) → (simple_pair p at g s).bound ≡ (simple_pair p None g s).bound
simple_bound p at Succeeds s = refl
simple_bound p at Fails s = refl
simple_bound p at (Unifies x t) s = role_bound p at x t (role_of_unification p x t s)
simple_bound p at (Computes z a op b) s = refl
simple_bound p at (Compares a cmp b) s = refl
simple_bound p at (WritesInt x before after) s = refl
simple_bound p at (WritesText x before after) s = refl
simple_bound p at (EndsLine before after) s = refl
simple_bound p at (Raises x) s = refl

mutual
  goal_bound : (c : Scope) (at : Option ℕ) (q : HldsGoal) (s : InstMap) → (goal_pair c at q s).bound ≡ (goal_pair c None q s).bound
  goal_bound c at (At l (SimpleGoal g)) s = simple_bound c.program at g s
  goal_bound c at (At l (CallGoal site q ys)) s = refl
  goal_bound c at (At l (HoCallGoal site f ys)) s = refl
  goal_bound c at (At l (ConjGoal ps)) s = each_bound c at ps s
  goal_bound c at (At l (DisjGoal ps)) s = refl
  goal_bound c at (At l (IfGoal p t e)) s = refl
  goal_bound c at (At l (NotGoal p)) s = refl
  goal_bound c at (At l (SomeGoal vs p)) s = refl

  each_bound : (c : Scope) (at : Option ℕ) (ps : HldsGoals) (s : InstMap) → (each_pair c at ps s).bound ≡ (each_pair c None ps s).bound
  each_bound c at nothing s = refl
  each_bound c at (also p ps) s =
      ap (λ b. product b (each_pair c None ps (known_after s (goal c p s))).bound) (goal_bound c at p s)

-- ---- goals without parts

role_is : (ns : List Note) (n : ℕ) (x : Note) (r : List Note) → drop n ns ≡ x ∷ r → role_at ns n ≡ x.role
role_is ns n x r e = ap role_of_note (at_drop ns n x r e)

state_is : (ns : List Note) (n : ℕ) (x : Note) (r : List Note) → drop n ns ≡ x ∷ r → state_at ns n ≡ x.state
state_is ns n x r e = ap state_of_note (at_drop ns n x r e)

-- a term is a functor where the look-up of functors finds one
found_kept : (f : Option (HldsTypeDef × HldsFunctor)) → is_some f ≡ is_some (functor_of f)
found_kept None = refl
found_kept (Some f) = refl

unqualified_is : (p : Hlds) (m : Option (List ℕ)) (name : List ℕ) (arity : ℕ)
    → unqualified_functor p m name arity ≡ is_some (if_unqualified m (functor_of (functor_found name arity p.types)))
unqualified_is p None name arity = functor_there name arity p.types ∙ found_kept (functor_found name arity p.types)
unqualified_is p (Some m) name arity = refl

-- what the name in the goal of that number stands for
name_is : (p : Hlds) (ns : List Note) → AreOf p ns → (n : ℕ) (x : Note) (r : List Note) → drop n ns ≡ x ∷ r → name_at p n ≡ x.named
name_is p ns know n x r e = sym (know.names n) ∙ ap name_of_note (at_drop ns n x r e)

-- whether it binds what occurs outside it
outside_is : (c : Scope) (ns : List Note) (n : ℕ) (q : HldsGoal) (s : InstMap) (rest : List Note) → drop n ns ≡ notes c q s ++ rest
    → outside_at ns n ≡ some_of (outside c.all (variables q)) (binds s (goal c q s))
outside_is c ns n (At l t) s rest e = ap outside_of_note (at_drop ns n _ (inner_notes c t s ++ rest) e)

-- a term that is taken apart is a functor, and its name stands for that
functor_kept : (m : Option (List ℕ)) (name : List ℕ) (arity : ℕ) (p : Hlds) (f : Functor) → if_unqualified m (functor_of (functor_found name arity p.types)) ≡ Some f
    → unqualified_functor p m name arity ≡ true
functor_kept m name arity p f e = unqualified_is p m name arity ∙ ap (λ (o : Option Functor). is_some o) e

role_named : (p : Hlds) (at : Option ℕ) (x : ℕ) (q : PredName) (ys : List ℕ) (k : Instantiation) (s : InstMap) (f : Option Functor) → functor_called p q (length ys) ≡ f
    → read_role p at x (named_term p q (length ys)) (role_of_name ys k s f) ≡ unification_pair p at x (Name q ys) (role_of_name ys k s f)
role_named p at x q ys k s None e = refl
role_named p at x q ys free s (Some f) e = refl
role_named p at x q ys (has t used) s (Some f) e =
    ap (λ o. apart_pair (is_none_bound (bound_places 0 ys s) && (is_at at x || is_alone o)))
    (type_is p q (length ys) (functor_kept q.qualifier q.name (length ys) p f e))

role_var : (p : Hlds) (at : Option ℕ) (x y : ℕ) (j k : Instantiation) → read_role p at x Nothing (role_of_variables x y j k) ≡ unification_pair p at x (Var y) (role_of_variables x y j k)
role_var p at x y free k = refl
role_var p at x y (has t used) free = refl
role_var p at x y (has t used) (has u spent) = refl

role_int : (p : Hlds) (at : Option ℕ) (x : ℕ) (t : Term) (k : Instantiation) (s : InstMap) → one_functor p t ≡ false
    → read_role p at x Nothing (role_of_term [] k s) ≡ unification_pair p at x t (role_of_term [] k s)
role_int p at x t free s e = refl
role_int p at x t (has u used) s e = ap (λ b. apart_pair (is_at at x || b)) (sym e)

read_named : (p : Hlds) (at : Option ℕ) (x : ℕ) (t : Term) (s : InstMap) → read_role p at x (term_name p t) (role_of_unification p x t s) ≡ unification_pair p at x t (role_of_unification p x t s)
read_named p at x (Var y) s = role_var p at x y (known_at s x) (known_at s y)
read_named p at x (Int n) s = role_int p at x (Int n) (known_at s x) s refl
read_named p at x (Str bytes) s = role_int p at x (Str bytes) (known_at s x) s refl
read_named p at x (Name q ys) s = role_named p at x q ys (known_at s x) s (functor_called p q (length ys)) refl

read_plain : (p : Hlds) (at : Option ℕ) (g : Simple) (s : InstMap) → read_simple p at (simple_name p g) (role_of p (SimpleGoal g) s) g ≡ simple_pair p at g s
read_plain p at Succeeds s = refl
read_plain p at Fails s = refl
read_plain p at (Unifies x t) s = read_named p at x t s
read_plain p at (Computes z a op b) s = refl
read_plain p at (Compares a cmp b) s = refl
read_plain p at (WritesInt x before after) s = refl
read_plain p at (WritesText x before after) s = refl
read_plain p at (EndsLine before after) s = refl
read_plain p at (Raises x) s = refl

read_closure : (k : Instantiation) → read_apply (role_of_closure k) ≡ apply_pair k
read_closure free = refl
read_closure (has (closure ts ms d) used) = refl
read_closure (has t used) = refl

-- a judgement, part by part
own_is : (w w' : Option Switch) (p p' : Pair) (f f' : Option DetFault) (fs fs' : List Finding) → w ≡ w' → p ≡ p' → f ≡ f' → fs ≡ fs'
    → whole (found w p f fs) ≡ judgement p' f' (record { switch = w'; pair = p' } ∷ fs')
own_is w w' p p' f f' fs fs' a b c d = rw (a, b, c, d) refl

-- the fault of a goal that names an io state
io_is : (ns : List Note) (n : ℕ) (x : Note) (r : List Note) (c : Scope) (again : Bool) (l : ℕ) → drop n ns ≡ x ∷ r
    → io_fault (reading c ns) n again l ≡ fault_where (again && x.state) (IoInBacktracking l)
io_is ns n x r c again l e = ap (λ b. fault_where (again && b) (IoInBacktracking l)) (state_is ns n x r e)

-- ---- switches

cond_same : {A : Type 0} (b : Bool) (x : A) → cond b x x ≡ x
cond_same true x = refl
cond_same false x = refl

-- the key is of the variable of the unification, and tells whether that is bound
term_apart : (ys : List ℕ) (k : Instantiation) (s : InstMap) → is_apart (Some (role_of_term ys k s)) ≡ is_bound k
term_apart ys free s = refl
term_apart ys (has t used) s = refl

name_key : (b : Bool) (x : ℕ) (j : Key) (k : ℕ × Key) → variable_key x (cond b (Some j) None) ≡ Some k → (b ≡ true) × (x ≡ k.0)
name_key true x j k e = (refl, cc)
name_key false x j k e = absurd (cc)

name_apart : (f : Option Functor) (ys : List ℕ) (k : Instantiation) (s : InstMap) → is_some f ≡ true
    → is_apart (Some (role_of_name ys k s f)) ≡ is_bound k
name_apart None ys k s e = absurd (cc)
name_apart (Some f) ys k s e = term_apart ys k s

unification_apart : (p : Hlds) (x : ℕ) (t : Term) (s : InstMap) (k : ℕ × Key) → variable_key x (term_key p t) ≡ Some k
    → is_apart (Some (role_of_unification p x t s)) ≡ is_bound (known_at s k.0)
unification_apart p x (Var y) s k e = absurd (cc)
unification_apart p x (Int n) s k e = let same : x ≡ k.0 = cc in term_apart [] (known_at s x) s ∙ ap (λ y. is_bound (known_at s y)) same
unification_apart p x (Str bytes) s k e = let same : x ≡ k.0 = cc in term_apart [] (known_at s x) s ∙ ap (λ y. is_bound (known_at s y)) same
unification_apart p x (Name q ys) s k e =
    let named = name_key (is_functor p q (length ys)) x (FunctorKey q.name (length ys)) k e in
    name_apart (functor_called p q (length ys)) ys (known_at s x) s (sym (unqualified_is p q.qualifier q.name (length ys)) ∙ named.0)
    ∙ ap (λ y. is_bound (known_at s y)) named.1

goal_apart : (c : Scope) (ns : List Note) (n : ℕ) (q : HldsGoal) (s : InstMap) (rest : List Note) (k : ℕ × Key) → goal_key c.program q ≡ Some k
    → drop n ns ≡ notes c q s ++ rest → is_apart (role_at ns n) ≡ is_bound (known_at s k.0)
goal_apart c ns n (At l (SimpleGoal (Unifies x t))) s rest k e at =
    ap is_apart (role_is ns n _ rest at) ∙ unification_apart c.program x t s k e
goal_apart c ns n (At l t) s rest k e at = absurd (cc)

arm_apart : (c : Scope) (ns : List Note) (n : ℕ) (q : HldsGoal) (qs : HldsGoals) (s : InstMap) (rest : List Note) (k : ℕ × Key) → arm_key c.program q ≡ Some k
    → drop n ns ≡ notes c q s ++ rest → is_apart (role_at ns (first_goal n (also q qs))) ≡ is_bound (known_at s k.0)
arm_apart c ns n (At l (SimpleGoal g)) qs s rest k e at = goal_apart c ns n (At l (SimpleGoal g)) s rest k e at
arm_apart c ns n (At l (ConjGoal (also p ps))) qs s rest k e at =
    goal_apart c ns (suc n) p s (each_notes c ps (known_after s (goal c p s)) ++ rest) k e
    (drop_one ns n _ _ at ∙ append_assoc (notes c p s) (each_notes c ps (known_after s (goal c p s))) rest)
arm_apart c ns n (At l t) qs s rest k e at = absurd (cc)

-- the switch of this shape by the definition, if its variable is bound
abbrev shaped_as : Hlds → Option (ℕ × List Key) → Option Switch
shaped_as p None = None
shaped_as p (Some shape) = Some (record { var = shape.0; whole = is_whole p shape.1 })

-- a shape with a variable that is bound
different_bound : (p : Hlds) (x : ℕ) (ks : List Key) (b : Bool) (j : Instantiation)
    → cond (is_bound j) (shaped_as p (cond b (Some (x, ks)) None)) None ≡ elim b [ true ↦ switch_on_known p x ks j | false ↦ None ]
different_bound p x ks true free = refl
different_bound p x ks true (has t used) = refl
different_bound p x ks false j = cond_same (is_bound j) None

different_with : (p : Hlds) (x : ℕ) (ks : List Key) (b : Bool) (s : InstMap)
    → elim b [ true ↦ switch_on_known p x ks (known_at s x) | false ↦ None ] ≡ switch_with p (cond b (Some (x, ks)) None) s
different_with p x ks true s = refl
different_with p x ks false s = refl

shape_bound : (p : Hlds) (x : ℕ) (o : Option (List Key)) (s : InstMap)
    → cond (is_bound (known_at s x)) (shaped_as p (if_different x o)) None ≡ switch_with p (if_different x o) s
shape_bound p x None s = cond_same (is_bound (known_at s x)) None
shape_bound p x (Some ks) s = different_bound p x ks (all_different ks) (known_at s x) ∙ different_with p x ks (all_different ks) s

switch_first : (c : Scope) (ns : List Note) (n : ℕ) (q : HldsGoal) (qs : HldsGoals) (s : InstMap) (rest : List Note) (k : Option (ℕ × Key)) → arm_key c.program q ≡ k
    → drop n ns ≡ notes c q s ++ rest
    → cond (is_apart (role_at ns (first_goal n (also q qs)))) (shaped_as c.program (switch_on c.program k (also q qs))) None
    ≡ switch_with c.program (switch_on c.program k (also q qs)) s
switch_first c ns n q qs s rest None e at = cond_same _ None
switch_first c ns n q qs s rest (Some k) e at =
    ap (λ b. cond b (shaped_as c.program (switch_on c.program (Some k) (also q qs))) None) (arm_apart c ns n q qs s rest k e at)
    ∙ shape_bound c.program k.0 (keys_of c.program k.0 (also q qs)) s

-- whether no functor is missing, by the name in the goal that the first arm begins with
functor_whole : (p : Hlds) (q : PredName) (arity : ℕ) (b : Bool) (j : Key) (ks : List Key) → is_functor p q arity ≡ b → cond b (Some (FunctorKey q.name arity)) None ≡ Some j
    → read_whole p (named_term p q arity) (j ∷ ks) ≡ is_whole p (j ∷ ks)
functor_whole p q arity true j ks f e =
    let same : FunctorKey q.name arity ≡ j = cc in
    subst (λ (k : Key). read_whole p (named_term p q arity) (k ∷ ks) ≡ is_whole p (k ∷ ks)) same
    (ap (no_functor_missing (FunctorKey q.name arity ∷ ks)) (type_is p q arity f))
functor_whole p q arity false j ks f e = absurd (cc)

term_whole : (p : Hlds) (t : Term) (j : Key) (ks : List Key) → term_key p t ≡ Some j → read_whole p (term_name p t) (j ∷ ks) ≡ is_whole p (j ∷ ks)
term_whole p (Var y) j ks e = absurd (cc)
term_whole p (Int n) j ks e = let same : IntKey n ≡ j = cc in subst (λ (k : Key). read_whole p Nothing (k ∷ ks) ≡ is_whole p (k ∷ ks)) same refl
term_whole p (Str bytes) j ks e = let same : TextKey bytes ≡ j = cc in subst (λ (k : Key). read_whole p Nothing (k ∷ ks) ≡ is_whole p (k ∷ ks)) same refl
term_whole p (Name q ys) j ks e = functor_whole p q (length ys) (is_functor p q (length ys)) j ks refl e

key_of_variable : (x : ℕ) (o : Option Key) (k : ℕ × Key) → variable_key x o ≡ Some k → o ≡ Some k.1
key_of_variable x None k e = absurd (cc)
key_of_variable x (Some j) k e = let same : j ≡ k.1 = cc in ap Some same

goal_whole : (p : Hlds) (n : ℕ) (q : HldsGoal) (k : ℕ × Key) (ks : List Key) → goal_key p q ≡ Some k → name_at p n ≡ goal_name p q
    → read_whole p (name_at p n) (k.1 ∷ ks) ≡ is_whole p (k.1 ∷ ks)
goal_whole p n (At l (SimpleGoal (Unifies x t))) k ks e is =
    ap (λ m. read_whole p m (k.1 ∷ ks)) is ∙ term_whole p t k.1 ks (key_of_variable x (term_key p t) k e)
goal_whole p n (At l t) k ks e is = absurd (cc)

arm_whole : (p : Hlds) (n : ℕ) (q : HldsGoal) (qs : HldsGoals) (k : ℕ × Key) (ks : List Key) → arm_key p q ≡ Some k → Tells p n (goals_within q)
    → read_whole p (name_at p (first_goal n (also q qs))) (k.1 ∷ ks) ≡ is_whole p (k.1 ∷ ks)
arm_whole p n (At l (SimpleGoal g)) qs k ks e h = goal_whole p n (At l (SimpleGoal g)) k ks e h.0
arm_whole p n (At l (ConjGoal (also q ps))) qs k ks e h =
    goal_whole p (suc n) q k ks e (tells-own p (suc n) q (tells-goal p (suc n) q (goals_among ps) h.2).0).0
arm_whole p n (At l t) qs k ks e h = absurd (cc)

-- a shape, and what it is by the definition
different_whole : (p : Hlds) (m : Named) (x : ℕ) (ks : List Key) (b : Bool) → read_whole p m ks ≡ is_whole p ks
    → shaped p m (cond b (Some (x, ks)) None) ≡ shaped_as p (cond b (Some (x, ks)) None)
different_whole p m x ks true e = ap (λ w. Some (record { var = x; whole = w })) e
different_whole p m x ks false e = refl

keyed_whole : (p : Hlds) (m : Named) (x : ℕ) (j : Key) (ks : List Key) (b : Bool) → read_whole p m (j ∷ ks) ≡ is_whole p (j ∷ ks)
    → shaped p m (if_different x (cond b (Some (j ∷ ks)) None)) ≡ shaped_as p (if_different x (cond b (Some (j ∷ ks)) None))
keyed_whole p m x j ks true e = different_whole p m x (j ∷ ks) (all_different (j ∷ ks)) e
keyed_whole p m x j ks false e = refl

prepended_whole : (p : Hlds) (m : Named) (k : ℕ × Key) (o : Option (List Key)) → ((ks : List Key) → read_whole p m (k.1 ∷ ks) ≡ is_whole p (k.1 ∷ ks))
    → shaped p m (if_different k.0 (prepend_key k.0 (Some k) o)) ≡ shaped_as p (if_different k.0 (prepend_key k.0 (Some k) o))
prepended_whole p m k None e = refl
prepended_whole p m k (Some ks) e = keyed_whole p m k.0 k.1 ks (nat_eq k.0 k.0) (e ks)

shape_whole : (p : Hlds) (n : ℕ) (q : HldsGoal) (qs : HldsGoals) (o : Option (ℕ × Key)) → arm_key p q ≡ o → Tells p n (goals_within q)
    → shaped p (name_at p (first_goal n (also q qs))) (switch_on p o (also q qs)) ≡ shaped_as p (switch_on p o (also q qs))
shape_whole p n q qs None e h = refl
shape_whole p n q qs (Some k) e h =
    ap (λ (a : Option (ℕ × Key)). shaped p (name_at p (first_goal n (also q qs))) (if_different k.0 (prepend_key k.0 a (keys_of p k.0 qs)))) e
    ∙ (prepended_whole p (name_at p (first_goal n (also q qs))) k (keys_of p k.0 qs) (λ ks. arm_whole p n q qs k ks e h)
    ∙ ap (λ (a : Option (ℕ × Key)). shaped_as p (if_different k.0 (prepend_key k.0 a (keys_of p k.0 qs)))) (sym e))

-- the goals of these notes have what they tell
tells_by : (p : Hlds) (ns : List Note) → AreOf p ns → (n : ℕ) (xs rest : List Note) (gs : List HldsGoal) → drop n ns ≡ xs ++ rest → map told xs ≡ map (told_of p) gs → Tells p n gs
tells_by p ns know n xs rest [] e h = tt
tells_by p ns know n [] rest (g ∷ gs) e h = absurd (cc)
tells_by p ns know n (x ∷ xs) rest (g ∷ gs) e h =
    let here : told x ≡ told_of p g = cc in
    let later : map told xs ≡ map (told_of p) gs = cc in
    let at = at_drop ns n x (xs ++ rest) e in (
      sym (know.names n) ∙ (ap name_of_note at ∙ ap (λ (t : Named × ℕ). t.0) here),
      sym (know.sizes n) ∙ (ap size_of_note at ∙ ap (λ (t : Named × ℕ). t.1) here),
      tells_by p ns know (suc n) xs rest gs (drop_one ns n x (xs ++ rest) e) later,
    )

switch_is : (c : Scope) (ns : List Note) → AreOf c.program ns → (n : ℕ) (ps : HldsGoals) (s : InstMap) (rest : List Note) → drop n ns ≡ arm_notes c ps s ++ rest
    → read_switch (reading c ns) n ps ≡ switch_of c.program ps s
switch_is c ns know n nothing s rest at = cond_same _ None
switch_is c ns know n (also q qs) s rest at =
    let p = c.program in
    let tells = tells_by p ns know n (arm_notes c (also q qs) s) rest (goals_among (also q qs)) at (arms_tell c (also q qs) s) in
    ap (λ o. cond (is_apart (role_at ns (first_goal n (also q qs)))) (shaped p (name_at p (first_goal n (also q qs))) o) None) (shape_is p n (also q qs) tells)
    ∙ (ap (λ w. cond (is_apart (role_at ns (first_goal n (also q qs)))) w None)
    (shape_whole p n q qs (arm_key p q) refl (tells-goal p n q (goals_among qs) tells).0)
    ∙ switch_first c ns n q qs s (arm_notes c qs s ++ rest) (arm_key p q) refl (at ∙ append_assoc (notes c q s) (arm_notes c qs s) rest))

-- the arms' pairs, of a switch or of none
abbrev pub arms_pair : Option ℕ → List Pair → Pair
arms_pair None arms = all_alternatives arms
arms_pair (Some x) arms = one_of_all arms

arms_more : (at : Option ℕ) (p : Pair) (ps : List Pair) → beside at p (arms_pair at ps) ≡ arms_pair at (p ∷ ps)
arms_more None p ps = refl
arms_more (Some x) p ps = refl

arms_none : (at : Option ℕ) → no_arm at ≡ arms_pair at []
arms_none None = refl
arms_none (Some x) = refl

disjunction_is : (w : Option Switch) (ps : List Pair) → if_missing w (arms_pair (variable_of w) ps) ≡ disjunction_pair w ps
disjunction_is None ps = refl
disjunction_is (Some w) ps = refl

-- ---- goals

abbrev pub goal_judgement : Scope → Option ℕ → Bool → HldsGoal → InstMap → Judgement
goal_judgement c at again q s = judgement (goal_pair c at q s) (first_of (goal_faults c again q s)) (findings c at q s)

abbrev each_judgement : Scope → Option ℕ → Bool → HldsGoals → InstMap → Judgement
each_judgement c at again ps s = judgement (each_pair c at ps s) (first_of (each_faults c again ps s)) (each_findings c at ps s)

abbrev arms_judgement : Scope → Option ℕ → Bool → HldsGoals → InstMap → Judgement
arms_judgement c at again ps s = judgement (arms_pair at (arm_pairs c at ps s)) (first_of (arm_faults c again ps s)) (arm_findings c at ps s)

both_is : (p p' : Pair) (f g : List DetFault) (fs : List Finding) → p ≡ p'
    → judgement p (or_else (first_of f) (first_of g)) fs ≡ judgement p' (first_of (f ++ g)) fs
both_is p p' f g fs e = rw (e, first_of-append f g) refl

mutual
  pub judged_part : (c : Scope) (ns : List Note) → AreOf c.program ns → (n : ℕ) (at : Option ℕ) (again : Bool) (q : HldsGoal) (s : InstMap) (rest : List Note)
      → drop n ns ≡ notes c q s ++ rest → judge_part (reading c ns) n at again q ≡ goal_judgement c at again q s
  judged_part c ns know n at again (At l (SimpleGoal g)) s rest e =
      own_is None None _ _ _ _ [] [] refl
      (ap (λ r. read_simple c.program at (name_at c.program n) r g) (role_is ns n _ rest e)
      ∙ (ap (λ m. read_simple c.program at m (role_of c.program (SimpleGoal g) s) g) (name_is c.program ns know n _ rest e) ∙ read_plain c.program at g s))
      (io_is ns n _ rest c again l e ∙ only_if _ (IoInBacktracking l)) refl
  judged_part c ns know n at again (At l (CallGoal site q ys)) s rest e =
      own_is None None _ _ _ _ [] [] refl (ap (read_call c.program) (name_is c.program ns know n _ rest e) ∙ call_is c.program q) (io_is ns n _ rest c again l e ∙ only_if _ (IoInBacktracking l)) refl
  judged_part c ns know n at again (At l (HoCallGoal site f ys)) s rest e =
      own_is None None _ _ _ _ [] [] refl (ap read_apply (role_is ns n _ rest e) ∙ read_closure (known_at s f))
      (io_is ns n _ rest c again l e ∙ only_if _ (IoInBacktracking l)) refl
  judged_part c ns know n at again (At l (ConjGoal ps)) s rest e =
      let j = judged_each c ns know (suc n) at again ps s rest (drop_one ns n _ _ e) in
      own_is None None _ _ _ _ _ _ refl (ap (λ (x : Judgement). x.pair) j) (ap (λ (x : Judgement). x.fault) j) (ap (λ (x : Judgement). x.findings) j)
  judged_part c ns know n at again (At l (DisjGoal ps)) s rest e =
      let later = drop_one ns n _ _ e in
      let w = switch_of c.program ps s in
      let j = judged_arms c ns know (suc n) (variable_of w) (again || is_none w) ps s rest later in
      let r = reading c ns in
      ap (λ (v : Option Switch). whole (found v (if_missing v (judge_arms r (suc n) (variable_of v) (again || is_none v) ps).pair)
      (judge_arms r (suc n) (variable_of v) (again || is_none v) ps).fault (judge_arms r (suc n) (variable_of v) (again || is_none v) ps).findings))
      (switch_is c ns know (suc n) ps s rest later)
      ∙ own_is w w _ _ _ _ _ _ refl (ap (λ (x : Judgement). if_missing w x.pair) j ∙ disjunction_is w (arm_pairs c (variable_of w) ps s))
      (ap (λ (x : Judgement). x.fault) j) (ap (λ (x : Judgement). x.findings) j)
  judged_part c ns know n at again (At l (IfGoal p t e)) s rest start =
      let r = known_after s (goal (within c) p s) in
      let a = notes (within c) p s in let b = notes c t r in let d = notes c e s in
      let first : drop (suc n) ns ≡ a ++ (b ++ (d ++ rest))
      = drop_one ns n _ _ start ∙ (append_assoc a (b ++ d) rest ∙ ap (λ (xs : List Note). a ++ xs) (append_assoc b d rest)) in
      let fs = findings (within c) None p s in
      let gs = findings c None t r in
      let second = past ns (suc n) a (b ++ (d ++ rest)) fs first (length_findings (within c) None p s) in
      let third = past ns (suc n + length fs) b (d ++ rest) gs second (length_findings c None t r) in
      let j = judged_part (within c) ns know (suc n) None again p s (b ++ (d ++ rest)) first in
      let k = judged_part c ns know (suc n + length fs) None again t r (d ++ rest) second in
      let m = judged_part c ns know (suc n + length fs + length gs) None again e s rest third in
      let x = reading c ns in
      ap (λ (j : Judgement). whole (chosen x n l j (judge_part x (suc n + length j.findings) None again t)
      (judge_part x (suc n + length j.findings + length (judge_part x (suc n + length j.findings) None again t).findings) None again e))) j
      ∙ (ap (λ (k : Judgement). whole (chosen x n l (goal_judgement (within c) None again p s) k (judge_part x (suc n + length fs + length k.findings) None again e))) k
      ∙ (ap (λ (m : Judgement). whole (chosen x n l (goal_judgement (within c) None again p s) (goal_judgement c None again t r) m)) m
      ∙ own_is None None _ _ _ _ _ _ refl refl
      (ap (λ b. or_else (fault_where (is_many (goal_pair (within c) None p s).bound && b) (ManyInCondition l))
      (or_else (first_of (goal_faults (within c) again p s)) (or_else (first_of (goal_faults c again t r)) (first_of (goal_faults c again e s)))))
      (outside_is (within c) ns (suc n) p s (b ++ (d ++ rest)) first)
      ∙ (ap (λ x. or_else (fault_where x (ManyInCondition l)) (or_else (first_of (goal_faults (within c) again p s)) (or_else (first_of (goal_faults c again t r)) (first_of (goal_faults c again e s)))))
      (condition_binds (within c) (outside c.all (variables p)) p s)
      ∙ (ap (λ o. or_else (fault_where (binds_many c p s) (ManyInCondition l)) (or_else (first_of (goal_faults (within c) again p s)) o))
      (first_of-append (goal_faults c again t r) (goal_faults c again e s))
      ∙ (ap (or_else (fault_where (binds_many c p s) (ManyInCondition l))) (first_of-append (goal_faults (within c) again p s) (goal_faults c again t r ++ goal_faults c again e s))
      ∙ first_of-if (binds_many c p s) (ManyInCondition l) _))))
      refl))
  judged_part c ns know n at again (At l (NotGoal p)) s rest e =
      let j = judged_part (within c) ns know (suc n) None again p s rest (drop_one ns n _ _ e) in
      own_is None None _ _ _ _ _ _ refl refl
      (ap (λ (x : Judgement). or_else (io_fault (reading c ns) n again l) x.fault) j
      ∙ (ap (λ o. or_else o (first_of (goal_faults (within c) again p s))) (io_is ns n _ _ c again l e)
      ∙ first_of-if _ (IoInBacktracking l) (goal_faults (within c) again p s)))
      (ap (λ (x : Judgement). x.findings) j)
  judged_part c ns know n at again (At l (SomeGoal vs p)) s rest e =
      let j = judged_part (within c) ns know (suc n) None again p s rest (drop_one ns n _ _ e) in
      own_is None None _ _ _ _ _ _ refl (ap (λ (x : Judgement). cut x.pair) j)
      (ap (λ (x : Judgement). or_else (io_fault (reading c ns) n again l) x.fault) j
      ∙ (ap (λ o. or_else o (first_of (goal_faults (within c) again p s))) (io_is ns n _ _ c again l e)
      ∙ first_of-if _ (IoInBacktracking l) (goal_faults (within c) again p s)))
      (ap (λ (x : Judgement). x.findings) j)

  judged_each : (c : Scope) (ns : List Note) → AreOf c.program ns → (n : ℕ) (at : Option ℕ) (again : Bool) (ps : HldsGoals) (s : InstMap) (rest : List Note)
      → drop n ns ≡ each_notes c ps s ++ rest → judge_each (reading c ns) n at again ps ≡ each_judgement c at again ps s
  judged_each c ns know n at again nothing s rest e = refl
  judged_each c ns know n at again (also p ps) s rest e =
      let r = known_after s (goal c p s) in
      let a = notes c p s in let b = each_notes c ps r in
      let first : drop n ns ≡ a ++ (b ++ rest) = e ∙ append_assoc a b rest in
      let fs = findings c at p s in
      let j = judged_part c ns know n at again p s (b ++ rest) first in
      let many = again || is_many (goal_pair c None p s).bound in
      let k = judged_each c ns know (n + length fs) None many ps r rest (past ns n a (b ++ rest) fs first (length_findings c at p s)) in
      let x = reading c ns in
      ap (λ (j : Judgement). and_then j (judge_each x (n + length j.findings) None (again || is_many j.pair.bound) ps)) j
      ∙ (ap (λ (d : Bound). and_then (goal_judgement c at again p s) (judge_each x (n + length fs) None (again || is_many d) ps)) (goal_bound c at p s)
      ∙ (ap (λ (k : Judgement). and_then (goal_judgement c at again p s) k) k
      ∙ both_is _ _ (goal_faults c again p s) (each_faults c many ps r) _ refl))

  judged_arms : (c : Scope) (ns : List Note) → AreOf c.program ns → (n : ℕ) (at : Option ℕ) (again : Bool) (ps : HldsGoals) (s : InstMap) (rest : List Note)
      → drop n ns ≡ arm_notes c ps s ++ rest → judge_arms (reading c ns) n at again ps ≡ arms_judgement c at again ps s
  judged_arms c ns know n at again nothing s rest e = ap (λ p. judgement p None []) (arms_none at)
  judged_arms c ns know n at again (also p ps) s rest e =
      let a = notes c p s in let b = arm_notes c ps s in
      let first : drop n ns ≡ a ++ (b ++ rest) = e ∙ append_assoc a b rest in
      let fs = findings c at p s in
      let j = judged_part c ns know n at again p s (b ++ rest) first in
      let k = judged_arms c ns know (n + length fs) at again ps s rest (past ns n a (b ++ rest) fs first (length_findings c at p s)) in
      let x = reading c ns in
      ap (λ (j : Judgement). or_arm at j (judge_arms x (n + length j.findings) at again ps)) j
      ∙ (ap (λ (k : Judgement). or_arm at (goal_judgement c at again p s) k) k
      ∙ both_is _ _ (goal_faults c again p s) (arm_faults c again ps s) _ (arms_more at (goal_pair c at p s) (arm_pairs c at ps s)))

-- ---- predicates

-- what a predicate is judged to be
abbrev pub procedure_judgement : Hlds → Procedure → Judgement
procedure_judgement p q = judgement (body_pair p q) (first_of (procedure_faults p q)) (findings (scope_of p q) None q.body (entry q))

pub judged_procedure : (p : Hlds) (ns : List Note) → AreOf p ns → (n : ℕ) (q : Procedure) (rest : List Note) → drop n ns ≡ clause_notes p q ++ rest
    → judge_procedure p ns n q ≡ procedure_judgement p q
judged_procedure p ns know n q rest e =
    ap (declared q) (judged_part (scope_of p q) ns know n None false q.body (entry q) rest e)
    ∙ (ap (λ o. judgement (body_pair p q) (or_else (state_fault q) (or_else (first_of (goal_faults (scope_of p q) false q.body (entry q))) o)) (findings (scope_of p q) None q.body (entry q)))
    (alone _ _)
    ∙ (ap (λ o. judgement (body_pair p q) (or_else (state_fault q) o) (findings (scope_of p q) None q.body (entry q)))
    (first_of-append (goal_faults (scope_of p q) false q.body (entry q)) (declared_faults q (body_pair p q)))
    ∙ ap (λ o. judgement (body_pair p q) o (findings (scope_of p q) None q.body (entry q))) (first_of-if _ _ _)))
  where
    alone : (b : Bool) (f : DetFault) → fault_where b f ≡ first_of (fault_if b f)
    alone true f = refl
    alone false f = refl

judged_from : (p : Hlds) (ns : List Note) → AreOf p ns → (n : ℕ) (qs : List Procedure) → drop n ns ≡ notes_from p qs
    → judge_procedures p ns n qs ≡ judgement sure (first_of (faults_of p qs)) (findings_from p qs)
judged_from p ns know n [] e = refl
judged_from p ns know n (q ∷ qs) e =
    let fs = findings (scope_of p q) None q.body (entry q) in
    let j = judged_procedure p ns know n q (notes_from p qs) e in
    let k = judged_from p ns know (n + length fs) qs (past ns n (clause_notes p q) (notes_from p qs) fs e (length_findings (scope_of p q) None q.body (entry q))) in
    ap (λ (j : Judgement). and_others j (judge_procedures p ns (n + length j.findings) qs)) j
    ∙ (ap (λ (k : Judgement). and_others (procedure_judgement p q) k) k
    ∙ both_is sure sure (procedure_faults p q) (faults_of p qs) _ refl)

-- a program is judged as the definitions say
pub judged_program : (p : Hlds) → judge_procedures p (program_notes p) 0 p.procedures ≡ judgement sure (det_fault p) (program_findings p)
unfolding program_notes det_fault program_findings
judged_program p =
    let know : AreOf p (program_notes p) = record { names = λ k. named_told p k; sizes = λ k. size_told p k } in
    judged_from p (program_notes p) know 0 p.procedures refl
