-- At a turn that fits, which variables of the goal have values is what the checks note.
use Rattle.std.proofs.Common.{◌≡◌, refl, sym, ap, ◌∙◌, subst, arith, ℕ, suc, ◌+◌, ◌<◌, Bool, true, false, not, cond, nat_eq, List, [], ◌∷◌, length, drop, Option, Some, None, Ok, is_some, slice_get}
use Rattle.std.proofs.lemmas.Bool.{eqb-true}
use Rattle.md_hlds.specs.declared.types.Mode.{Mode}
use Rattle.md_hlds.specs.declared.types.Det.{Det}
use Rattle.md_hlds.specs.declared.goal.Term.{Term}
use Rattle.md_hlds.specs.declared.goal.Term.TheVariants.{Var, Int, Str, Name}
use Rattle.md_hlds.specs.declared.goal.PredName.{PredName}
use Rattle.md_hlds.specs.HldsGoal.{Simple, Succeeds, Fails, Unifies, Computes, Compares, WritesInt, WritesText, EndsLine, Raises, HldsGoal, At, GoalExpr, SimpleGoal, CallGoal, HoCallGoal, Numbered}
use Rattle.md_hlds.specs.Hlds.{HldsType, HldsTypes, number, text, world, named, closure, listed_types, gathered_types, Procedure, Hlds, procedure_called, goal_at}
use Rattle.md_hlds.specs.Value.{Value, Values, Number, Literal, Built, Closure, no_values, also_value, listed_values, Env, value_at}
use Rattle.md_inst.specs.Instantiation.{Instantiation, free, has, InstMap, known_at, is_bound, times}
use Rattle.md_inst.specs.Named.{Functor, functor_called, predicate_called}
use Rattle.md_inst.specs.declared.fault.ModeFault.TheVariants.{IoUsed, Arity}
use Rattle.md_inst.specs.Arguments.{is_spent, arguments}
use Rattle.md_inst.specs.Simple as rules
use Rattle.md_inst.specs.Simple.{goes_on, call_checked, atomic, builtin, arithmetic, comparison, line_end, raised, pairs, types_of, modes_of, left_open, apply_sort, apply_known}
use Rattle.md_modes.specs.Branches.{After}
use Rattle.md_modes.specs.Goals.{goal, variables, expr_variables, simple_variables}
use Rattle.md_modes.specs.Notes.{Role, takes_apart, applies, role_of_variables, role_of_term, role_of_name, role_of_unification, role_of_sort, role_of_closure, role_of, program_notes}
use Rattle.md_modes.specs.Classes.{role_at}
use Rattle.law_safety.specs.Values.{HasType, AreHeld, IsClosureOf, Agrees, Fits}
use Rattle.law_safety.specs.Turns.{AreDistinct, IsTidy, IsTidySimple, IsTidyExpr}
use Rattle.law_safety.specs.Roles.{arguments_of, HaveValues, IsComparable, IsMet}
use Rattle.law_safety.specs.Known.{place, FitsAt}
use Rattle.law_safety.specs.Unfolding.{expr_in}
use Rattle.law_safety.proofs.Environments.{fits_fewer}
use Rattle.law_safety.proofs.Verdicts.{ok_where, ok_unless, ok_reached}
use Rattle.law_safety.proofs.Handing.{In', first_times, more_times, in_first, in_rest, handed}
use Rattle.law_safety.proofs.Functors.{predicate_number}
use Rattle.law_safety.proofs.Calls.{without_size}
use Rattle.law_safety.proofs.Safe.{Proper, in_left, fits_left}
use Rattle.law_safety.proofs.RoleLemmas.{unification_met}
use Rattle.law_safety.proofs.NotedGoals.{noted}
use Rattle.law_safety.proofs.TurnsFit.{named_call}
use Rattle.md_hlds.specs.Simple.{simple}
use Rattle.law_fits.specs.Fast.{told, outcome, fast_simple}
use Rattle.law_fits.proofs.FastLemmas.{simple_by_slots}
use Rattle.law_fits.specs.Reads.{is_given, is_valued, args_of_called, args_of_sort, args_of_role, unification_reads, simple_reads, expr_reads, reads_at}
use Rattle.law_fits.specs.Handing.{HandsNamed, HandsOpen}
use Rattle.law_fits.proofs.ReadLemmas.{first_or_later, arguments_read, places_read, values_read}

-- ---- unifications

pub bound_or_free : (s : Hlds) (o : Option Value) (k : Instantiation) → Agrees s o k → is_some o ≡ is_bound k
bound_or_free s None free h = refl
bound_or_free s None (has t used) h = elim h [ ]
bound_or_free s (Some v) free h = elim h [ ]
bound_or_free s (Some v) (has t used) h = refl

-- of two variables the second, or the first
second_or_first : (e : Env) (x z y : ℕ) (b : Bool) → nat_eq y z ≡ b → 0 < times y (x ∷ z ∷ []) → is_some (value_at e z) ≡ false → is_some (value_at e x) ≡ true → is_some (value_at e y) ≡ not b
second_or_first e x z y true is there last first = ap (λ w. is_some (value_at e w)) (eqb-true y z is) ∙ last
second_or_first e x z y false is there last first = among (nat_eq y x) refl
  where
    among : (c : Bool) → nat_eq y x ≡ c → is_some (value_at e y) ≡ true
    among true same = ap (λ w. is_some (value_at e w)) (eqb-true y x same) ∙ first
    among false other =
        let gone : times y (x ∷ z ∷ []) ≡ 0 = rw (other, is) refl in absurd (omega (arith, there, gone))

first_or_second : (e : Env) (x z y : ℕ) (b : Bool) → nat_eq y x ≡ b → 0 < times y (x ∷ z ∷ []) → is_some (value_at e x) ≡ false → is_some (value_at e z) ≡ true → is_some (value_at e y) ≡ not b
first_or_second e x z y true is there first last = ap (λ w. is_some (value_at e w)) (eqb-true y x is) ∙ first
first_or_second e x z y false is there first last = among (nat_eq y z) refl
  where
    among : (c : Bool) → nat_eq y z ≡ c → is_some (value_at e y) ≡ true
    among true same = ap (λ w. is_some (value_at e w)) (eqb-true y z same) ∙ last
    among false other =
        let gone : times y (x ∷ z ∷ []) ≡ 0 = rw (is, other) refl in absurd (omega (arith, there, gone))

both_read : (e : Env) (x z y : ℕ) → 0 < times y (x ∷ z ∷ []) → is_some (value_at e x) ≡ true → is_some (value_at e z) ≡ true → is_some (value_at e y) ≡ true
both_read e x z y there first last = among (nat_eq y x) (nat_eq y z) refl refl
  where
    among : (b c : Bool) → nat_eq y x ≡ b → nat_eq y z ≡ c → is_some (value_at e y) ≡ true
    among true c same other = ap (λ w. is_some (value_at e w)) (eqb-true y x same) ∙ first
    among false true other same = ap (λ w. is_some (value_at e w)) (eqb-true y z same) ∙ last
    among false false is other =
        let gone : times y (x ∷ z ∷ []) ≡ 0 = rw (is, other) refl in absurd (omega (arith, there, gone))

variables_read : (s : Hlds) (strict : Bool) (l x z : ℕ) (e : Env) (k j : Instantiation) (kn r : InstMap) (y : ℕ)
    → Agrees s (value_at e x) k → Agrees s (value_at e z) j → rules.unify_known strict l x z k j kn ≡ Ok r → 0 < times y (x ∷ z ∷ [])
    → is_some (value_at e y) ≡ unification_reads x (Var z) (role_of_variables x z k j) y
variables_read s strict l x z e free free kn r y a b ok there = absurd (cc ok)
variables_read s strict l x z e (has t used) free kn r y a b ok there =
    second_or_first e x z y (nat_eq y z) refl there (bound_or_free s (value_at e z) free b) (bound_or_free s (value_at e x) (has t used) a)
variables_read s strict l x z e free (has t used) kn r y a b ok there =
    first_or_second e x z y (nat_eq y x) refl there (bound_or_free s (value_at e x) free a) (bound_or_free s (value_at e z) (has t used) b)
variables_read s strict l x z e (has t used) (has u spent) kn r y a b ok there =
    both_read e x z y there (bound_or_free s (value_at e x) (has t used) a) (bound_or_free s (value_at e z) (has u spent) b)

comparable_some : (s : Hlds) (t : Term) (o : Option Value) → IsComparable s t o → is_some o ≡ true
comparable_some s t (Some v) h = refl
comparable_some s (Var y) None h = elim h [ ]
comparable_some s (Int n) None h = elim h [ ]
comparable_some s (Str b) None h = elim h [ ]
comparable_some s (Name q ys) None h = elim h [ ]

-- one variable that has no value, and others that have
binds_one : (e : Env) (x : ℕ) (ys : List ℕ) (y : ℕ) (b : Bool) → nat_eq y x ≡ b → value_at e x ≡ None → HaveValues e ys → 0 < times y (x ∷ ys) → is_some (value_at e y) ≡ not b
binds_one e x ys y true is none values there = ap (λ w. is_some (value_at e w)) (eqb-true y x is) ∙ ap (λ o. is_some o) none
binds_one e x ys y false is none values there =
    let fewer : times y (x ∷ ys) ≡ times y ys = rw is refl in
    values_read ys e values.0 y values.1 (omega (arith, there, fewer))

takes_read : (s : Hlds) (e : Env) (x : ℕ) (t : Term) (bound : List ℕ) (y : ℕ) → IsMet s e x t (takes_apart bound) → 0 < times y (x ∷ arguments_of t)
    → is_some (value_at e y) ≡ unification_reads x t (takes_apart bound) y
takes_read s e x t bound y h there =
    first_or_later e x y true (is_valued 0 bound (arguments_of t) y) (nat_eq y x) refl (comparable_some s t (value_at e x) h.0)
    (λ other. let fewer : times y (x ∷ arguments_of t) ≡ times y (arguments_of t) = rw other refl in
    places_read 0 (arguments_of t) e y (omega (arith, there, fewer)) ∙ ap (λ b. is_valued 0 b (arguments_of t) y) (sym h.1))

term_read : (s : Hlds) (e : Env) (x : ℕ) (t : Term) (ys : List ℕ) (k : Instantiation) (kn : InstMap) (y : ℕ) → IsMet s e x t (role_of_term ys k kn) → 0 < times y (x ∷ arguments_of t)
    → is_some (value_at e y) ≡ unification_reads x t (role_of_term ys k kn) y
term_read s e x t ys free kn y h there = binds_one e x (arguments_of t) y (nat_eq y x) refl h.0 h.1 there
term_read s e x t ys (has u used) kn y h there = takes_read s e x t _ y h there

name_read : (s : Hlds) (e : Env) (x : ℕ) (q : PredName) (ys : List ℕ) (k : Instantiation) (kn : InstMap) (o : Option Functor) (y : ℕ) → IsMet s e x (Name q ys) (role_of_name ys k kn o) → 0 < times y (x ∷ ys)
    → is_some (value_at e y) ≡ unification_reads x (Name q ys) (role_of_name ys k kn o) y
name_read s e x q ys k kn (Some f) y h there = term_read s e x (Name q ys) ys k kn y h there
name_read s e x q ys k kn None y h there = binds_one e x ys y (nat_eq y x) refl h.0 h.1 there

unification_read : (s : Hlds) (vars : List ℕ) (strict : Bool) (l x : ℕ) (t : Term) (e : Env) (kn r : InstMap) (y : ℕ) → Fits s vars kn e → In' (simple_variables (Unifies x t)) vars
    → rules.unify s strict l x t kn ≡ Ok r → 0 < times y (simple_variables (Unifies x t)) → is_some (value_at e y) ≡ unification_reads x t (role_of_unification s x t kn) y
unification_read s vars strict l x (Var z) e kn r y fits among ok there =
    variables_read s strict l x z e (known_at kn x) (known_at kn z) kn r y (fits.each x (in_first x (z ∷ []) vars among)) (fits.each z (in_first z [] vars (in_rest x (z ∷ []) vars among))) ok there
unification_read s vars strict l x (Int n) e kn r y fits among ok there =
    term_read s e x (Int n) [] (known_at kn x) kn y (unification_met s vars strict l x (Int n) e kn r fits among ok) there
unification_read s vars strict l x (Str b) e kn r y fits among ok there =
    term_read s e x (Str b) [] (known_at kn x) kn y (unification_met s vars strict l x (Str b) e kn r fits among ok) there
unification_read s vars strict l x (Name q ys) e kn r y fits among ok there =
    name_read s e x q ys (known_at kn x) kn (functor_called s q (length ys)) y (unification_met s vars strict l x (Name q ys) e kn r fits among ok) there

-- ---- simple goals

handed_read : (s : Hlds) (strict : Bool) (l : ℕ) (args : List (HldsType × Mode)) (xs : List ℕ) (kn r : InstMap) (e : Env) (y : ℕ)
    → Fits s xs kn e → AreDistinct xs → length xs ≡ length args → arguments strict l args xs kn ≡ Ok r → 0 < times y xs → is_some (value_at e y) ≡ is_given args xs y
handed_read s strict l args xs kn r e y fits distinct size ok there = arguments_read s args xs e y (handed s strict l args xs kn r e fits distinct size ok) there

simple_read : (s : Hlds) (strict : Bool) (l : ℕ) (g : Simple) (kn r : InstMap) (e : Env) (y : ℕ) → Fits s (simple_variables g) kn e → IsTidySimple g → rules.simple s strict l g kn ≡ Ok r
    → 0 < times y (simple_variables g) → is_some (value_at e y) ≡ simple_reads (role_of s (SimpleGoal g) kn) g y
simple_read s strict l Succeeds kn r e y fits tidy ok there = absurd (omega (arith, there))
simple_read s strict l Fails kn r e y fits tidy ok there = absurd (omega (arith, there))
simple_read s strict l (Unifies x t) kn r e y fits tidy ok there = unification_read s (simple_variables (Unifies x t)) strict l x t e kn r y fits (λ x there. there) ok there
simple_read s strict l (Computes z a op b) kn r e y fits tidy ok there = handed_read s strict l arithmetic (z ∷ a ∷ b ∷ []) kn r e y fits tidy refl ok there
simple_read s strict l (Compares a c b) kn r e y fits tidy ok there = handed_read s strict l comparison (a ∷ b ∷ []) kn r e y fits tidy refl ok there
simple_read s strict l (WritesInt x before after) kn r e y fits tidy ok there = handed_read s strict l (builtin number) (x ∷ before ∷ after ∷ []) kn r e y fits tidy refl ok there
simple_read s strict l (WritesText x before after) kn r e y fits tidy ok there = handed_read s strict l (builtin text) (x ∷ before ∷ after ∷ []) kn r e y fits tidy refl ok there
simple_read s strict l (EndsLine before after) kn r e y fits tidy ok there = handed_read s strict l line_end (before ∷ after ∷ []) kn r e y fits tidy refl ok there
simple_read s strict l (Raises x) kn r e y fits tidy ok there = handed_read s strict l raised (x ∷ []) kn r e y fits (refl, tt) refl ok there

-- ---- calls

named_here : (s : Hlds) (strict : Bool) (l : ℕ) (name : PredName) (o : Option Procedure) (ys : List ℕ) (kn r : InstMap) (e : Env) → Proper s
    → predicate_called s name ≡ o → AreDistinct ys → call_checked strict l ys o kn ≡ Ok r → Fits s ys kn e → HandsNamed s e name ys
named_here s strict l name None ys kn r e proper is distinct ok fits = absurd (cc ok)
named_here s strict l name (Some p) ys kn r e proper is distinct ok fits =
    let n = predicate_number s name p is in
    let c = named_call s strict l name (Some p) (n.0, p) ys kn r e is n.1 distinct ok fits in
    record { procedure = (n.0, p); called = n.1; at = c.at; size = c.size; heads = c.size ∙ sym (proper.heads n.0 p c.at); args = c.args }

listed_gathered : (ts : List HldsType) → listed_types (gathered_types ts) ≡ ts
listed_gathered [] = refl
listed_gathered (t ∷ ts) = ap (λ (us : List HldsType). t ∷ us) (listed_gathered ts)

pairs_back : (args : List (HldsType × Mode)) → pairs (types_of args) (modes_of args) ≡ args
pairs_back [] = refl
pairs_back (a ∷ args) = ap (λ (b : List (HldsType × Mode)). a ∷ b) (pairs_back args)

pub open_args : (args : List (HldsType × Mode)) (det : Det) → args_of_sort (left_open args det) ≡ args
open_args args det = ap (λ (ts : List HldsType). pairs ts (modes_of args)) (listed_gathered (types_of args)) ∙ pairs_back args

pub held_rest : (s : Hlds) (held : Values) (args others : List (HldsType × Mode)) → AreHeld s held args others → others ≡ drop (length (listed_values held)) args
held_rest s no_values args others h = sym h
held_rest s (also_value v vs) [] others h = elim h [ ]
held_rest s (also_value v vs) (a ∷ args) others h = held_rest s vs args others h.1.1

-- a value of a closure's type
record IsOpen (s : Hlds) (t : HldsType) (o : Option Value) : Type 0 where
  number : ℕ
  held : Values
  procedure : Procedure
  is : o ≡ Some (Closure number held)
  at : slice_get s.procedures number ≡ Some procedure
  captured : AreHeld s held procedure.args (drop (length (listed_values held)) procedure.args)
  type : left_open (drop (length (listed_values held)) procedure.args) procedure.det ≡ t

open_procedure : (s : Hlds) (q : ℕ) (held : Values) (t : HldsType) (o : Option Procedure) → slice_get s.procedures q ≡ o → IsClosureOf o t (λ args others. AreHeld s held args others) → IsOpen s t (Some (Closure q held))
open_procedure s q held t None at h = elim h [ ]
open_procedure s q held t (Some p) at h =
    let rest = held_rest s held p.args h.0 h.1 in
    record {
      number = q;
      held = held;
      procedure = p;
      is = refl;
      at = at;
      captured = subst (λ (b : List (HldsType × Mode)). AreHeld s held p.args b) rest h.1;
      type = ap (λ (b : List (HldsType × Mode)). left_open b p.det) (sym rest) ∙ h.2;
    }

open_value : (s : Hlds) (v : Value) (ts : HldsTypes) (ms : List Mode) (d : Det) → HasType s v (closure ts ms d) → IsOpen s (closure ts ms d) (Some v)
open_value s (Closure q held) ts ms d h = open_procedure s q held (closure ts ms d) (slice_get s.procedures q) refl h
open_value s (Number n) ts ms d h = elim h [ ]
open_value s (Literal b) ts ms d h = elim h [ ]
open_value s (Built f vs) ts ms d h = elim h [ ]

types_size : (args : List (HldsType × Mode)) → length (types_of args) ≡ length args
types_size [] = refl
types_size (a ∷ args) = ap suc (types_size args)

-- a call of a closure whose type leaves these arguments open
apply_open : (strict : Bool) (l : ℕ) (ys : List ℕ) (args : List (HldsType × Mode)) (d : Det) (kn r : InstMap) → apply_sort strict l ys (left_open args d) kn ≡ Ok r
    → (length ys ≡ length args) × (arguments strict l args ys kn ≡ Ok r)
apply_open strict l ys args d kn r ok =
    let a = ok_where (nat_eq (length ys) (length (listed_types (gathered_types (types_of args))))) (Arity l) (arguments strict l (pairs (listed_types (gathered_types (types_of args))) (modes_of args)) ys kn) r ok in (
      eqb-true (length ys) (length (listed_types (gathered_types (types_of args)))) a.0 ∙ ap (λ (us : List HldsType). length us) (listed_gathered (types_of args)) ∙ types_size args,
      subst (λ (b : List (HldsType × Mode)). arguments strict l b ys kn ≡ Ok r) (open_args args d) a.1,
    )

-- what is taken of a call by a closure of this type
record Opens (s : Hlds) (strict : Bool) (l : ℕ) (ys : List ℕ) (t : HldsType) (kn r : InstMap) (o : Option Value) : Type 0 where
  found : IsOpen s t o
  size : length ys ≡ length (drop (length (listed_values found.held)) found.procedure.args)
  accepted : arguments strict l (drop (length (listed_values found.held)) found.procedure.args) ys kn ≡ Ok r
  role : role_of_sort t ≡ Some (applies t)

opens : (s : Hlds) (strict : Bool) (l : ℕ) (ys : List ℕ) (v : Value) (ts : HldsTypes) (ms : List Mode) (d : Det) (kn r : InstMap) → HasType s v (closure ts ms d) → apply_sort strict l ys (closure ts ms d) kn ≡ Ok r
    → Opens s strict l ys (closure ts ms d) kn r (Some v)
opens s strict l ys v ts ms d kn r h ok =
    let o = open_value s v ts ms d h in
    let a = apply_open strict l ys (drop (length (listed_values o.held)) o.procedure.args) o.procedure.det kn r (subst (λ (t : HldsType). apply_sort strict l ys t kn ≡ Ok r) (sym o.type) ok) in
    record { found = o; size = a.0; accepted = a.1; role = refl }

sort_opens : (s : Hlds) (strict : Bool) (l : ℕ) (ys : List ℕ) (v : Value) (t : HldsType) (kn r : InstMap) → HasType s v t → apply_sort strict l ys t kn ≡ Ok r → Opens s strict l ys t kn r (Some v)
sort_opens s strict l ys v (closure ts ms d) kn r h ok = opens s strict l ys v ts ms d kn r h ok
sort_opens s strict l ys v number kn r h ok = absurd (cc ok)
sort_opens s strict l ys v text kn r h ok = absurd (cc ok)
sort_opens s strict l ys v world kn r h ok = absurd (cc ok)
sort_opens s strict l ys v (named n) kn r h ok = absurd (cc ok)

open_here : (s : Hlds) (strict : Bool) (l n x : ℕ) (ys : List ℕ) (t : HldsType) (kn r : InstMap) (e : Env) (o : Option Value) → Proper s → value_at e x ≡ o → role_at (program_notes s) n ≡ role_of_sort t
    → AreDistinct ys → Fits s ys kn e → Opens s strict l ys t kn r o → HandsOpen s e n x ys
open_here s strict l n x ys t kn r e o proper is role distinct fits h =
    let c = h.found in
    let others = drop (length (listed_values c.held)) c.procedure.args in
    let heads = proper.heads c.number c.procedure c.at in
    let size = without_size s c.held c.procedure.args others c.procedure.head c.captured heads in
    let long : length (listed_values c.held) + length ys ≡ length c.procedure.head = let a = size.1 in let b = h.size in omega (arith, a, b) in
    record {
      number = c.number;
      held = c.held;
      procedure = c.procedure;
      is = is ∙ c.is;
      at = c.at;
      size = long ∙ heads;
      heads = long;
      captured = c.captured;
      args = handed s strict l others ys kn r e fits distinct h.size h.accepted;
      noted = role ∙ h.role ∙ ap (λ (u : HldsType). Some (applies u)) (sym c.type);
    }

known_opens : (s : Hlds) (strict : Bool) (l n x : ℕ) (ys : List ℕ) (k : Instantiation) (kn r : InstMap) (e : Env) (o : Option Value) → Proper s → value_at e x ≡ o → role_at (program_notes s) n ≡ role_of_closure k
    → AreDistinct ys → Fits s ys kn e → Agrees s o k → apply_known strict l ys k kn ≡ Ok r → HandsOpen s e n x ys
known_opens s strict l n x ys free kn r e o proper is role distinct fits agrees ok = absurd (cc ok)
known_opens s strict l n x ys (has t used) kn r e None proper is role distinct fits agrees ok = elim agrees [ ]
known_opens s strict l n x ys (has t used) kn r e (Some v) proper is role distinct fits agrees ok =
    open_here s strict l n x ys t kn r e (Some v) proper is role distinct fits
    (sort_opens s strict l ys v t kn r agrees (ok_unless (is_spent strict t used) (IoUsed l) (apply_sort strict l ys t kn) r ok).1)

-- ---- turns

-- what is taken of a turn that fits, by the goal's expression
pub record TurnOf (s : Hlds) (e : Env) (n l : ℕ) (t : GoalExpr) : Type 0 where
  pub q : ℕ × Procedure
  pub strict : Bool
  pub kn : InstMap
  pub after : After
  pub tidy : IsTidyExpr t
  pub accepted : goal (place s q.1 strict) (At l t) kn ≡ Ok after
  pub fits : Fits s (expr_variables t) kn e
  pub found : goal_at s n ≡ Some (At l t)
  pub role : role_at (program_notes s) n ≡ role_of s t kn

pub at_turn : (s : Hlds) (e : Env) (g : Numbered) (goals : List Numbered) (l : ℕ) (t : GoalExpr) → g.goal ≡ At l t → FitsAt s e g goals → TurnOf s e g.number l t
at_turn s e g goals l t is h =
    let note = noted s h.procedure h.strict g.number g.goal h.known h.at h.before in
    record {
      q = h.procedure;
      strict = h.strict;
      kn = h.known;
      after = h.after;
      tidy = subst (λ (p : HldsGoal). IsTidy p) is h.tidy;
      accepted = subst (λ (p : HldsGoal). goal (place s h.procedure.1 h.strict) p h.known ≡ Ok h.after) is h.accepted;
      fits = subst (λ (p : HldsGoal). Fits s (variables p) h.known e) is (fits_left s (variables g.goal) _ h.known e h.fits);
      found = subst (λ (p : HldsGoal). goal_at s g.number ≡ Some p) is note.goal;
      role = subst (λ (p : HldsGoal). role_at (program_notes s) g.number ≡ role_of s (expr_in p) h.known) is note.role;
    }

reads_by : (s : Hlds) (n l : ℕ) (t : GoalExpr) (r : Option Role) (y : ℕ) → goal_at s n ≡ Some (At l t) → role_at (program_notes s) n ≡ r → reads_at s n y ≡ expr_reads s r t y
reads_by s n l t r y found role = rw (found, role) refl

simple_turn : (s : Hlds) (e : Env) (n l : ℕ) (g : Simple) (y : ℕ) → TurnOf s e n l (SimpleGoal g) → 0 < times y (simple_variables g) → is_some (value_at e y) ≡ reads_at s n y
simple_turn s e n l g y h there =
    let o = ok_reached (goes_on g) (rules.simple s h.strict l g h.kn) h.after h.accepted in
    simple_read s h.strict l g h.kn h.after.known e y h.fits h.tidy o.0 there ∙ sym (reads_by s n l (SimpleGoal g) (role_of s (SimpleGoal g) h.kn) y h.found h.role)

-- which variables a simple goal reads is what the checks note
pub simple_reads_noted : (s : Hlds) (e : Env) (g : Numbered) (goals : List Numbered) (l : ℕ) (t : Simple) (y : ℕ) → FitsAt s e g goals → g.goal ≡ At l (SimpleGoal t) → 0 < times y (simple_variables t)
    → is_some (value_at e y) ≡ reads_at s g.number y
simple_reads_noted s e g goals l t y h is there = simple_turn s e g.number l t y (at_turn s e g goals l (SimpleGoal t) is h) there

-- what a call hands over
pub named_hands : (s : Hlds) → Proper s → (e : Env) (g : Numbered) (goals : List Numbered) (l site : ℕ) (name : PredName) (ys : List ℕ) → FitsAt s e g goals → g.goal ≡ At l (CallGoal site name ys) → HandsNamed s e name ys
named_hands s proper e g goals l site name ys h is =
    let a = at_turn s e g goals l (CallGoal site name ys) is h in
    let o = ok_reached true (atomic s a.strict l (CallGoal site name ys) a.kn) a.after a.accepted in
    named_here s a.strict l name (predicate_called s name) ys a.kn a.after.known e proper refl a.tidy o.0 a.fits

pub open_hands : (s : Hlds) → Proper s → (e : Env) (g : Numbered) (goals : List Numbered) (l site x : ℕ) (ys : List ℕ) → FitsAt s e g goals → g.goal ≡ At l (HoCallGoal site x ys) → HandsOpen s e g.number x ys
open_hands s proper e g goals l site x ys h is =
    let a = at_turn s e g goals l (HoCallGoal site x ys) is h in
    let o = ok_reached true (atomic s a.strict l (HoCallGoal site x ys) a.kn) a.after a.accepted in
    known_opens s a.strict l g.number x ys (known_at a.kn x) a.kn a.after.known e (value_at e x) proper refl a.role a.tidy
    (fits_fewer s (x ∷ ys) ys a.kn e (λ y there. more_times y x ys there) a.fits) (a.fits.each x (first_times x ys)) o.0

called_read : (s : Hlds) (e : Env) (name : PredName) (ys : List ℕ) (y : ℕ) → HandsNamed s e name ys → 0 < times y ys → is_some (value_at e y) ≡ is_given (args_of_called (procedure_called s name)) ys y
called_read s e name ys y h there = rw h.called (arguments_read s h.procedure.1.args ys e y h.args there)

pub named_reads_noted : (s : Hlds) → Proper s → (e : Env) (g : Numbered) (goals : List Numbered) (l site : ℕ) (name : PredName) (ys : List ℕ) (y : ℕ) → FitsAt s e g goals → g.goal ≡ At l (CallGoal site name ys)
    → 0 < times y ys → is_some (value_at e y) ≡ reads_at s g.number y
named_reads_noted s proper e g goals l site name ys y h is there =
    let a = at_turn s e g goals l (CallGoal site name ys) is h in
    called_read s e name ys y (named_hands s proper e g goals l site name ys h is) there ∙ sym (reads_by s g.number l (CallGoal site name ys) None y a.found a.role)

opened_read : (s : Hlds) (e : Env) (n x : ℕ) (ys : List ℕ) (y : ℕ) → HandsOpen s e n x ys → 0 < times y (x ∷ ys) → is_some (value_at e y) ≡ cond (nat_eq y x) true (is_given (args_of_role (role_at (program_notes s) n)) ys y)
opened_read s e n x ys y h there =
    let others = drop (length (listed_values h.held)) h.procedure.args in
    let sort : args_of_role (role_at (program_notes s) n) ≡ others = ap (λ r. args_of_role r) h.noted ∙ open_args others h.procedure.det in
    rw sort (first_or_later e x y true (is_given others ys y) (nat_eq y x) refl (ap (λ o. is_some o) h.is)
    (λ other. let fewer : times y (x ∷ ys) ≡ times y ys = rw other refl in arguments_read s others ys e y h.args (omega (arith, there, fewer))))

pub open_reads_noted : (s : Hlds) → Proper s → (e : Env) (g : Numbered) (goals : List Numbered) (l site x : ℕ) (ys : List ℕ) (y : ℕ) → FitsAt s e g goals → g.goal ≡ At l (HoCallGoal site x ys)
    → 0 < times y (x ∷ ys) → is_some (value_at e y) ≡ reads_at s g.number y
open_reads_noted s proper e g goals l site x ys y h is there =
    let a = at_turn s e g goals l (HoCallGoal site x ys) is h in
    opened_read s e g.number x ys y (open_hands s proper e g goals l site x ys h is) there ∙ sym (reads_by s g.number l (HoCallGoal site x ys) (role_at (program_notes s) g.number) y a.found refl)

-- ---- simple goals by slots

told_by : (o : Option Value) (v : Value) → ((w : Value) → o ≡ Some w → v ≡ w) → o ≡ told (is_some o) v
told_by None v h = refl
told_by (Some w) v h = ap (λ u. Some u) (sym (h w refl))

pub turn_by_slots : (s : Hlds) (slots : ℕ → Value) (e : Env) (g : Numbered) (goals : List Numbered) (l : ℕ) (t : Simple) → FitsAt s e g goals → g.goal ≡ At l (SimpleGoal t)
    → ((y : ℕ) → 0 < times y (simple_variables t) → (v : Value) → value_at e y ≡ Some v → slots y ≡ v) → simple s e t ≡ outcome e (fast_simple s (reads_at s g.number) slots t)
turn_by_slots s slots e g goals l t h is hold =
    simple_by_slots s (reads_at s g.number) slots t e (at_turn s e g goals l (SimpleGoal t) is h).tidy
    (λ y there. told_by (value_at e y) (slots y) (λ v is. hold y there v is) ∙ ap (λ b. told b (slots y)) (simple_reads_noted s e g goals l t y h is there))

-- each variable of a goal has what the mode rules know of it
pub variables_agree : (s : Hlds) (e : Env) (g : Numbered) (goals : List Numbered) (h : FitsAt s e g goals) (y : ℕ) → 0 < times y (variables g.goal) → Agrees s (value_at e y) (known_at h.known y)
variables_agree s e g goals h y there = h.fits.each y (in_left (variables g.goal) _ y there)
