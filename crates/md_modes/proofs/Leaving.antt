-- What a goal that is no conjunction and no branch leaves as it was.
use Rattle.std.proofs.Common.{◌≡◌, refl, sym, ◌∙◌, ℕ, Bool, true, false, ◌&&◌, List, [], ◌∷◌, length, take, drop, nat_eq, nat_lt, Option, Some, None, Ok, Err, cond}
use Rattle.std.specs.Prelude.{⊤}
use Rattle.md_hlds.specs.declared.types.Mode.{Mode}
use Rattle.md_hlds.specs.declared.types.Mode.TheVariants.{In, Out, Di, Uo}
use Rattle.md_hlds.specs.declared.types.Det.{Det}
use Rattle.md_hlds.specs.declared.goal.Term.{Term}
use Rattle.md_hlds.specs.declared.goal.Term.TheVariants.{Var, Int, Str, Name}
use Rattle.md_hlds.specs.declared.goal.PredName.{PredName}
use Rattle.md_hlds.specs.HldsGoal.{Simple, Succeeds, Fails, Unifies, Computes, Compares, WritesInt, WritesText, EndsLine, Raises, GoalExpr, SimpleGoal, CallGoal, HoCallGoal, ConjGoal, DisjGoal, IfGoal, NotGoal, SomeGoal}
use Rattle.md_hlds.specs.Hlds.{HldsType, number, text, world, named, closure, listed_types, Procedure, Hlds}
use Rattle.md_inst.specs.declared.fault.ModeFault.{ModeFault}
use Rattle.md_inst.specs.declared.fault.ModeFault.TheVariants.{Arity, TypeClash, IoUsed}
use Rattle.md_inst.specs.Verdict.{Verdict, ◌>>=◌, ◌>>◌}
use Rattle.md_inst.specs.HldsTypes.{same_sort, is_world}
use Rattle.md_inst.specs.Instantiation.{Instantiation, free, has, InstMap, known_at, put, handed_on, hand_on, times}
use Rattle.md_inst.specs.Named.{Functor, functor_called, predicate_called}
use Rattle.md_inst.specs.Arguments.{is_spent, input_known, input, output_known, given_known, given, argument, arguments, inputs, givens}
use Rattle.md_inst.specs.Simple.{atomic, assign, test, unify_known, make, functor_known, types_of, left_open, can_close, capture, close_known, predicate_term, named_term, unify, call_checked, pairs, apply_sort, apply_known, builtin, arithmetic, comparison, line_end, raised, simple}
use Rattle.md_modes.specs.Goals.{term_variables, simple_variables}
use Rattle.md_modes.specs.Tally.{atomic_variables}
use Rattle.md_modes.specs.Views.{Leaves}
use Rattle.md_modes.proofs.InstantiationLemmas.{length-put, known_at-put_other, Among, Occurs, among_first, among_rest, occurs_first, occurs_second}

-- ---- one step and then another

pub leaves_self : (vs : List ℕ) (s : InstMap) → Leaves vs s s
leaves_self vs s = record { size = refl; same = λ x none. refl }

pub leaves_then : (vs : List ℕ) (s r q : InstMap) → Leaves vs s r → Leaves vs r q → Leaves vs s q
leaves_then vs s r q h g = record { size = g.size ∙ h.size; same = λ x none. g.same x none ∙ h.same x none }

pub leaves_back : (vs : List ℕ) (s r : InstMap) → Leaves vs s r → Leaves vs r s
leaves_back vs s r h = record { size = sym h.size; same = λ x none. sym (h.same x none) }

pub leaves_among : (vs ws : List ℕ) (s r : InstMap) → ((x : ℕ) → times x ws ≡ 0 → times x vs ≡ 0) → Leaves vs s r → Leaves ws s r
leaves_among vs ws s r among h = record { size = h.size; same = λ x none. h.same x (among x none) }

pub put_leaves : (vs : List ℕ) (s : InstMap) (x : ℕ) (k : Instantiation) → Occurs x vs → Leaves vs s (put s x k)
put_leaves vs s x k occurs = record { size = length-put s x k; same = λ y none. known_at-put_other s x y k (occurs y none) }

-- a check without a fault leaves all but these variables as they were
abbrev pub CheckLeaves : List ℕ → InstMap → Verdict InstMap → Type 0
CheckLeaves vs s (Ok r) = Leaves vs s r
CheckLeaves vs s (Err e) = ⊤

pub check_among : (vs ws : List ℕ) (s : InstMap) (v : Verdict InstMap) → Among vs ws → CheckLeaves vs s v → CheckLeaves ws s v
check_among vs ws s (Ok r) among h = leaves_among vs ws s r among h
check_among vs ws s (Err e) among h = tt

check_later : (vs : List ℕ) (s r : InstMap) (v : Verdict InstMap) → Leaves vs s r → CheckLeaves vs r v → CheckLeaves vs s v
check_later vs s r (Ok q) h g = leaves_then vs s r q h g
check_later vs s r (Err e) h g = tt

check_then : (vs : List ℕ) (s : InstMap) (v : Verdict InstMap) (f : InstMap → Verdict InstMap)
    → CheckLeaves vs s v → ((r : InstMap) → CheckLeaves vs r (f r)) → CheckLeaves vs s (v >>= f)
check_then vs s (Ok r) f h g = check_later vs s r (f r) h (g r)
check_then vs s (Err e) f h g = tt

-- a fault where the test holds
check_unless : (vs : List ℕ) (s : InstMap) (b : Bool) (e : ModeFault) (v : Verdict InstMap) → CheckLeaves vs s v → CheckLeaves vs s (cond b (Err e) v)
check_unless vs s true e v h = tt
check_unless vs s false e v h = h

check_where : (vs : List ℕ) (s : InstMap) (b : Bool) (e : ModeFault) (v : Verdict InstMap) → CheckLeaves vs s v → CheckLeaves vs s (cond b v (Err e))
check_where vs s true e v h = h
check_where vs s false e v h = tt

check_tested : (vs : List ℕ) (s : InstMap) (v : Verdict (Unit {0})) → CheckLeaves vs s (v >> Ok s)
check_tested vs s (Ok u) = leaves_self vs s
check_tested vs s (Err e) = tt

-- ---- arguments

input_known_leaves : (vs : List ℕ) (strict : Bool) (l : ℕ) (t : HldsType) (k : Instantiation) (s : InstMap) → CheckLeaves vs s (input_known strict l t k s)
input_known_leaves vs strict l t free s = tt
input_known_leaves vs strict l t (has u used) s =
    check_unless vs s (is_spent strict u used) (IoUsed l) (cond (same_sort u t) (Ok s) (Err (TypeClash l)))
    (check_where vs s (same_sort u t) (TypeClash l) (Ok s) (leaves_self vs s))

input_leaves : (vs : List ℕ) (strict : Bool) (l : ℕ) (t : HldsType) (x : ℕ) (s : InstMap) → CheckLeaves vs s (input strict l t x s)
input_leaves vs strict l t x s = input_known_leaves vs strict l t (known_at s x) s

output_leaves : (strict : Bool) (l : ℕ) (t : HldsType) (x : ℕ) (k : Instantiation) (s : InstMap) → CheckLeaves (x ∷ []) s (output_known strict l t x k s)
output_leaves strict l t x free s =
    check_unless (x ∷ []) s (is_world t && strict) (IoUsed l) (Ok (put s x (has t false))) (put_leaves (x ∷ []) s x (has t false) (occurs_first x []))
output_leaves strict l t x (has u used) s = tt

given_leaves : (l : ℕ) (t : HldsType) (x : ℕ) (k : Instantiation) (s : InstMap) → CheckLeaves (x ∷ []) s (given_known l t x k s)
given_leaves l t x free s = put_leaves (x ∷ []) s x (has t false) (occurs_first x [])
given_leaves l t x (has u used) s = check_where (x ∷ []) s (same_sort u t) (TypeClash l) (Ok s) (leaves_self (x ∷ []) s)

argument_leaves : (strict : Bool) (l : ℕ) (t : HldsType) (m : Mode) (x : ℕ) (s : InstMap) → CheckLeaves (x ∷ []) s (argument strict l t m x s)
argument_leaves strict l t In x s = input_leaves (x ∷ []) strict l t x s
argument_leaves strict l t Di x s =
    check_then (x ∷ []) s (input strict l t x s) (λ r. Ok (hand_on x r)) (input_leaves (x ∷ []) strict l t x s)
    (λ r. put_leaves (x ∷ []) r x (handed_on (known_at r x)) (occurs_first x []))
argument_leaves strict l t Out x s = output_leaves strict l t x (known_at s x) s
argument_leaves strict l t Uo x s = output_leaves strict l t x (known_at s x) s

arguments_leave : (strict : Bool) (l : ℕ) (args : List (HldsType × Mode)) (xs : List ℕ) (s : InstMap) → CheckLeaves xs s (arguments strict l args xs s)
arguments_leave strict l (a ∷ args) (x ∷ xs) s =
    check_then (x ∷ xs) s (argument strict l a.0 a.1 x s) (λ r. arguments strict l args xs r)
    (check_among (x ∷ []) (x ∷ xs) s (argument strict l a.0 a.1 x s) (among_first x xs) (argument_leaves strict l a.0 a.1 x s))
    (λ r. check_among xs (x ∷ xs) r (arguments strict l args xs r) (among_rest x xs) (arguments_leave strict l args xs r))
arguments_leave strict l (a ∷ args) [] s = leaves_self [] s
arguments_leave strict l [] xs s = leaves_self xs s

inputs_leave : (vs : List ℕ) (strict : Bool) (l : ℕ) (ts : List HldsType) (xs : List ℕ) (s : InstMap) → CheckLeaves vs s (inputs strict l ts xs s)
inputs_leave vs strict l (t ∷ ts) (x ∷ xs) s =
    check_then vs s (input strict l t x s) (λ r. inputs strict l ts xs r) (input_leaves vs strict l t x s) (λ r. inputs_leave vs strict l ts xs r)
inputs_leave vs strict l (t ∷ ts) [] s = leaves_self vs s
inputs_leave vs strict l [] xs s = leaves_self vs s

givens_leave : (l : ℕ) (ts : List HldsType) (xs : List ℕ) (s : InstMap) → CheckLeaves xs s (givens l ts xs s)
givens_leave l (t ∷ ts) (x ∷ xs) s =
    check_then (x ∷ xs) s (given l t x s) (λ r. givens l ts xs r)
    (check_among (x ∷ []) (x ∷ xs) s (given l t x s) (among_first x xs) (given_leaves l t x (known_at s x) s))
    (λ r. check_among xs (x ∷ xs) r (givens l ts xs r) (among_rest x xs) (givens_leave l ts xs r))
givens_leave l (t ∷ ts) [] s = leaves_self [] s
givens_leave l [] xs s = leaves_self xs s

-- ---- unifications

assign_leaves : (vs : List ℕ) (strict : Bool) (l from to : ℕ) (t : HldsType) (used : Bool) (s : InstMap) → Occurs from vs → Occurs to vs → CheckLeaves vs s (assign strict l from to t used s)
assign_leaves vs strict l from to t used s f g =
    check_unless vs s (is_spent strict t used) (IoUsed l) (Ok (put (hand_on from s) to (has t false)))
    (leaves_then vs s (hand_on from s) (put (hand_on from s) to (has t false)) (put_leaves vs s from (handed_on (known_at s from)) f) (put_leaves vs (hand_on from s) to (has t false) g))

unify_known_leaves : (strict : Bool) (l x y : ℕ) (k j : Instantiation) (s : InstMap) → CheckLeaves (x ∷ y ∷ []) s (unify_known strict l x y k j s)
unify_known_leaves strict l x y free free s = tt
unify_known_leaves strict l x y (has t used) free s = assign_leaves (x ∷ y ∷ []) strict l x y t used s (occurs_first x (y ∷ [])) (occurs_second x y [])
unify_known_leaves strict l x y free (has t used) s = assign_leaves (x ∷ y ∷ []) strict l y x t used s (occurs_second x y []) (occurs_first x (y ∷ []))
unify_known_leaves strict l x y (has t used) (has u spent) s = check_tested (x ∷ y ∷ []) s (test l t u)

make_leaves : (strict : Bool) (l x : ℕ) (f : Functor) (ys : List ℕ) (s : InstMap) → CheckLeaves (x ∷ ys) s (make strict l x f ys s)
make_leaves strict l x f ys s =
    check_then (x ∷ ys) s (inputs strict l f.args ys s) (λ r. Ok (put r x (has f.makes false))) (inputs_leave (x ∷ ys) strict l f.args ys s)
    (λ r. put_leaves (x ∷ ys) r x (has f.makes false) (occurs_first x ys))

functor_leaves : (strict : Bool) (l x : ℕ) (f : Functor) (ys : List ℕ) (k : Instantiation) (s : InstMap) → CheckLeaves (x ∷ ys) s (functor_known strict l x f ys k s)
functor_leaves strict l x f ys free s = make_leaves strict l x f ys s
functor_leaves strict l x f ys (has t used) s =
    check_where (x ∷ ys) s (same_sort t f.makes) (TypeClash l) (givens l f.args ys s)
    (check_among ys (x ∷ ys) s (givens l f.args ys s) (among_rest x ys) (givens_leave l f.args ys s))

capture_leaves : (l x : ℕ) (held others : List (HldsType × Mode)) (det : Det) (ys : List ℕ) (s : InstMap) → CheckLeaves (x ∷ ys) s (capture l x held others det ys s)
capture_leaves l x held others det ys s =
    check_where (x ∷ ys) s (can_close held others) (TypeClash l) (inputs true l (types_of held) ys s >>= (λ r. Ok (put r x (has (left_open others det) false))))
    (check_then (x ∷ ys) s (inputs true l (types_of held) ys s) (λ r. Ok (put r x (has (left_open others det) false))) (inputs_leave (x ∷ ys) true l (types_of held) ys s)
    (λ r. put_leaves (x ∷ ys) r x (has (left_open others det) false) (occurs_first x ys)))

close_known_leaves : (l x : ℕ) (q : Procedure) (ys : List ℕ) (k : Instantiation) (s : InstMap) → CheckLeaves (x ∷ ys) s (close_known l x q ys k s)
close_known_leaves l x q ys (has t used) s = tt
close_known_leaves l x q ys free s = capture_leaves l x (take (length ys) q.args) (drop (length ys) q.args) q.det ys s

predicate_leaves : (p : Hlds) (l x : ℕ) (q : PredName) (ys : List ℕ) (o : Option Procedure) (s : InstMap) → CheckLeaves (x ∷ ys) s (predicate_term p l x q ys o s)
predicate_leaves p l x q ys (Some r) s =
    check_where (x ∷ ys) s (nat_lt (length ys) (length r.args)) (Arity l) (close_known l x r ys (known_at s x) s) (close_known_leaves l x r ys (known_at s x) s)
predicate_leaves p l x q ys None s = tt

named_leaves : (p : Hlds) (strict : Bool) (l x : ℕ) (q : PredName) (ys : List ℕ) (o : Option Functor) (s : InstMap) → CheckLeaves (x ∷ ys) s (named_term p strict l x q ys o s)
named_leaves p strict l x q ys (Some f) s = functor_leaves strict l x f ys (known_at s x) s
named_leaves p strict l x q ys None s = predicate_leaves p l x q ys (predicate_called p q) s

unify_leaves : (p : Hlds) (strict : Bool) (l x : ℕ) (t : Term) (s : InstMap) → CheckLeaves (x ∷ term_variables t) s (unify p strict l x t s)
unify_leaves p strict l x (Var y) s = unify_known_leaves strict l x y (known_at s x) (known_at s y) s
unify_leaves p strict l x (Int n) s = given_leaves l number x (known_at s x) s
unify_leaves p strict l x (Str bytes) s = given_leaves l text x (known_at s x) s
unify_leaves p strict l x (Name q ys) s = named_leaves p strict l x q ys (functor_called p q (length ys)) s

-- ---- calls

call_leaves : (strict : Bool) (l : ℕ) (ys : List ℕ) (o : Option Procedure) (s : InstMap) → CheckLeaves ys s (call_checked strict l ys o s)
call_leaves strict l ys None s = tt
call_leaves strict l ys (Some q) s = check_where ys s (nat_eq (length ys) (length q.args)) (Arity l) (arguments strict l q.args ys s) (arguments_leave strict l q.args ys s)

apply_sort_leaves : (strict : Bool) (l : ℕ) (ys : List ℕ) (t : HldsType) (s : InstMap) → CheckLeaves ys s (apply_sort strict l ys t s)
apply_sort_leaves strict l ys (closure ts ms d) s =
    check_where ys s (nat_eq (length ys) (length (listed_types ts))) (Arity l) (arguments strict l (pairs (listed_types ts) ms) ys s)
    (arguments_leave strict l (pairs (listed_types ts) ms) ys s)
apply_sort_leaves strict l ys number s = tt
apply_sort_leaves strict l ys text s = tt
apply_sort_leaves strict l ys world s = tt
apply_sort_leaves strict l ys (named n) s = tt

apply_known_leaves : (strict : Bool) (l : ℕ) (ys : List ℕ) (k : Instantiation) (s : InstMap) → CheckLeaves ys s (apply_known strict l ys k s)
apply_known_leaves strict l ys free s = tt
apply_known_leaves strict l ys (has t used) s = check_unless ys s (is_spent strict t used) (IoUsed l) (apply_sort strict l ys t s) (apply_sort_leaves strict l ys t s)

simple_leaves : (p : Hlds) (strict : Bool) (l : ℕ) (g : Simple) (s : InstMap) → CheckLeaves (simple_variables g) s (simple p strict l g s)
simple_leaves p strict l Succeeds s = leaves_self [] s
simple_leaves p strict l Fails s = leaves_self [] s
simple_leaves p strict l (Unifies x t) s = unify_leaves p strict l x t s
simple_leaves p strict l (Computes z a op b) s = arguments_leave strict l arithmetic (z ∷ a ∷ b ∷ []) s
simple_leaves p strict l (Compares a cmp b) s = arguments_leave strict l comparison (a ∷ b ∷ []) s
simple_leaves p strict l (WritesInt x before after) s = arguments_leave strict l (builtin number) (x ∷ before ∷ after ∷ []) s
simple_leaves p strict l (WritesText x before after) s = arguments_leave strict l (builtin text) (x ∷ before ∷ after ∷ []) s
simple_leaves p strict l (EndsLine before after) s = arguments_leave strict l line_end (before ∷ after ∷ []) s
simple_leaves p strict l (Raises x) s = arguments_leave strict l raised (x ∷ []) s

-- a goal that is no conjunction and no branch
pub atomic_leaves : (p : Hlds) (strict : Bool) (l : ℕ) (t : GoalExpr) (s : InstMap) → CheckLeaves (atomic_variables t) s (atomic p strict l t s)
atomic_leaves p strict l (SimpleGoal g) s = simple_leaves p strict l g s
atomic_leaves p strict l (CallGoal site q ys) s = call_leaves strict l ys (predicate_called p q) s
atomic_leaves p strict l (HoCallGoal site f ys) s =
    check_among ys (f ∷ ys) s (apply_known strict l ys (known_at s f) s) (among_rest f ys) (apply_known_leaves strict l ys (known_at s f) s)
atomic_leaves p strict l (ConjGoal ps) s = leaves_self [] s
atomic_leaves p strict l (DisjGoal ps) s = leaves_self [] s
atomic_leaves p strict l (IfGoal c t e) s = leaves_self [] s
atomic_leaves p strict l (NotGoal c) s = leaves_self [] s
atomic_leaves p strict l (SomeGoal vs c) s = leaves_self [] s
