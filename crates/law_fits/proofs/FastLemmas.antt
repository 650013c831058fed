-- What a simple goal does with slots is what it does in an environment that they tell.
use Rattle.std.proofs.Common.{◌≡◌, refl, ap, ◌∙◌, arith, ℕ, ◌+◌, Bool, true, false, ◌&&◌, cond, nat_eq, List, [], ◌∷◌, length, map, Option, Some, None}
use Rattle.std.specs.Fmt.{signed_decimal}
use Rattle.std.specs.Str.{bytes_eq}
use Rattle.md_hlds.specs.declared.goal.Term.{Term}
use Rattle.md_hlds.specs.declared.goal.Term.TheVariants.{Var, Int, Str, Name}
use Rattle.md_hlds.specs.declared.goal.Op.{Op}
use Rattle.md_hlds.specs.declared.goal.Cmp.{Cmp}
use Rattle.md_hlds.specs.declared.goal.PredName.{PredName}
use Rattle.md_hlds.specs.HldsGoal.{Simple, Succeeds, Fails, Unifies, Computes, Compares, WritesInt, WritesText, EndsLine, Raises}
use Rattle.md_hlds.specs.Hlds.{Hlds, Procedure, procedure_called, is_functor}
use Rattle.md_hlds.specs.Value.{Value, Number, Literal, Built, Closure, listed_values, value_count, compared, Env, value_at, values_at, prepend_value, bound}
use Rattle.md_hlds.specs.Simple.{Outcome, No, answer, unify_values, unify_constant, build, take_part, take_apart, same_functor, unify_functor, close, unify_predicate, unify_name, unify, holds, compute, compare, write, write_int, write_text, raise, simple}
use Rattle.md_inst.specs.Instantiation.{times}
use Rattle.md_modes.specs.Goals.{simple_variables}
use Rattle.law_safety.specs.Turns.{AreDistinct, IsTidySimple}
use Rattle.law_safety.proofs.Environments.{value_at-bound_other}
use Rattle.law_safety.proofs.Handing.{more_times, first_times}
use Rattle.law_fits.specs.Fast.{Effect, Puts, Misses, Bursts, Sticks, outcome, told, Tells, all_have, tested, fast_variables, fast_constant, fast_build, also_puts, fast_part, fast_parts, fast_same, fast_take, fast_functor, fast_close, fast_predicate, fast_name, fast_unify, fast_compute, fast_compare, fast_write, fast_write_int, fast_write_text, fast_raise, fast_simple}

-- ---- variables

tells_first : (bits : ℕ → Bool) (slots : ℕ → Value) (y : ℕ) (ys : List ℕ) (e : Env) → Tells bits slots (y ∷ ys) e → value_at e y ≡ told (bits y) (slots y)
tells_first bits slots y ys e h = h y (first_times y ys)

tells_rest : (bits : ℕ → Bool) (slots : ℕ → Value) (y : ℕ) (ys : List ℕ) (e : Env) → Tells bits slots (y ∷ ys) e → Tells bits slots ys e
tells_rest bits slots y ys e h = λ x there. h x (more_times x y ys there)

-- a write elsewhere leaves what they tell
tells_after : (bits : ℕ → Bool) (slots : ℕ → Value) (y : ℕ) (v : Value) (ys : List ℕ) (e : Env) → times y ys ≡ 0 → Tells bits slots ys e → Tells bits slots ys (bound e y v)
tells_after bits slots y v ys e none h =
    λ x there. value_at-bound_other e y x v (λ same. let gone : times x ys ≡ 0 = ap (λ z. times z ys) same ∙ none in absurd (omega (arith, there, gone))) ∙ h x there

-- ---- unifications

answer_fast : (e : Env) (extra : ℕ) (b : Bool) → answer e extra b ≡ outcome e (tested extra b)
answer_fast e extra true = refl
answer_fast e extra false = refl

variables_fast : (e : Env) (x y : ℕ) (b c : Bool) (v w : Value) → unify_values e x y (told b v) (told c w) ≡ outcome e (fast_variables x y b c v w)
variables_fast e x y true true v w = answer_fast e (compared v w).pairs (compared v w).equal
variables_fast e x y true false v w = refl
variables_fast e x y false true v w = refl
variables_fast e x y false false v w = refl

constant_fast : (e : Env) (x : ℕ) (c : Value) (b : Bool) (v : Value) → unify_constant e x c (told b v) ≡ outcome e (fast_constant x c b v)
constant_fast e x c true v = answer_fast e 0 (compared v c).equal
constant_fast e x c false v = refl

-- the values of all arguments, where each has one
abbrev all_told : Bool → List Value → Option (List Value)
all_told true vs = Some vs
all_told false vs = None

one_more : (b c : Bool) (v : Value) (vs : List Value) → prepend_value (told b v) (all_told c vs) ≡ all_told (b && c) (v ∷ vs)
one_more true true v vs = refl
one_more true false v vs = refl
one_more false true v vs = refl
one_more false false v vs = refl

values_told : (bits : ℕ → Bool) (slots : ℕ → Value) (ys : List ℕ) (e : Env) → Tells bits slots ys e → values_at e ys ≡ all_told (all_have bits ys) (map slots ys)
values_told bits slots [] e h = refl
values_told bits slots (y ∷ ys) e h =
    rw (tells_first bits slots y ys e h, values_told bits slots ys e (tells_rest bits slots y ys e h)) (one_more (bits y) (all_have bits ys) (slots y) (map slots ys))

build_fast : (e : Env) (x arity : ℕ) (f : List ℕ) (b : Bool) (vs : List Value) → build e x arity f (all_told b vs) ≡ outcome e (fast_build x arity f b vs)
build_fast e x arity f true vs = refl
build_fast e x arity f false vs = refl

close_fast : (e : Env) (x arity procedure : ℕ) (b : Bool) (vs : List Value) → close e x arity procedure (all_told b vs) ≡ outcome e (fast_close x arity procedure b vs)
close_fast e x arity procedure true vs = refl
close_fast e x arity procedure false vs = refl

also_bound : (e : Env) (y : ℕ) (v : Value) (f : Effect) → outcome (bound e y v) f ≡ outcome e (also_puts (y, v) f)
also_bound e y v (Puts values extra words out) = refl
also_bound e y v (Misses extra) = refl
also_bound e y v (Bursts bytes) = refl
also_bound e y v Sticks = refl

compared_fast : (e : Env) (rest : Env → ℕ → Outcome) (more : ℕ → Effect) (n : ℕ) (b : Bool) → rest e n ≡ outcome e (more n) → cond b (rest e n) (No n) ≡ outcome e (cond b (more n) (Misses n))
compared_fast e rest more n true h = h
compared_fast e rest more n false h = refl

part_fast : (e : Env) (rest : Env → ℕ → Outcome) (more : ℕ → Effect) (extra y : ℕ) (v : Value) (b : Bool) (w : Value)
    → ((n : ℕ) → rest e n ≡ outcome e (more n)) → rest (bound e y v) extra ≡ outcome (bound e y v) (more extra)
    → take_part rest e extra y v (told b w) ≡ outcome e (fast_part more extra y v b w)
part_fast e rest more extra y v true w same later = compared_fast e rest more (extra + (compared w v).pairs) (compared w v).equal (same (extra + (compared w v).pairs))
part_fast e rest more extra y v false w same later = later ∙ also_bound e y v (more extra)

parts_fast : (bits : ℕ → Bool) (slots : ℕ → Value) (ys : List ℕ) (vs : List Value) (e : Env) (extra : ℕ) → AreDistinct ys → Tells bits slots ys e
    → take_apart ys vs e extra ≡ outcome e (fast_parts bits slots ys vs extra)
parts_fast bits slots [] [] e extra distinct h = refl
parts_fast bits slots [] (v ∷ vs) e extra distinct h = refl
parts_fast bits slots (y ∷ ys) [] e extra distinct h = refl
parts_fast bits slots (y ∷ ys) (v ∷ vs) e extra distinct h =
    let rest = tells_rest bits slots y ys e h in
    ap (λ o. take_part (take_apart ys vs) e extra y v o) (tells_first bits slots y ys e h)
    ∙ part_fast e (take_apart ys vs) (λ n. fast_parts bits slots ys vs n) extra y v (bits y) (slots y)
    (λ n. parts_fast bits slots ys vs e n distinct.1 rest)
    (parts_fast bits slots ys vs (bound e y v) extra distinct.1 (tells_after bits slots y v ys e distinct.0 rest))

same_fast : (bits : ℕ → Bool) (slots : ℕ → Value) (ys : List ℕ) (parts : List Value) (e : Env) (b : Bool) → AreDistinct ys → Tells bits slots ys e
    → same_functor e ys parts b ≡ outcome e (fast_same bits slots ys parts b)
same_fast bits slots ys parts e true distinct h = parts_fast bits slots ys parts e 0 distinct h
same_fast bits slots ys parts e false distinct h = refl

take_fast : (bits : ℕ → Bool) (slots : ℕ → Value) (x : ℕ) (f ys : List ℕ) (v : Value) (e : Env) → AreDistinct ys → Tells bits slots ys e
    → unify_functor e x f ys (Some v) ≡ outcome e (fast_take bits slots f ys v)
take_fast bits slots x f ys (Built g parts) e distinct h = same_fast bits slots ys (listed_values parts) e (bytes_eq f g && nat_eq (length ys) (value_count parts)) distinct h
take_fast bits slots x f ys (Number n) e distinct h = refl
take_fast bits slots x f ys (Literal b) e distinct h = refl
take_fast bits slots x f ys (Closure q vs) e distinct h = refl

functor_fast : (bits : ℕ → Bool) (slots : ℕ → Value) (x : ℕ) (f ys : List ℕ) (b : Bool) (e : Env) → AreDistinct ys → Tells bits slots ys e
    → unify_functor e x f ys (told b (slots x)) ≡ outcome e (fast_functor bits slots x f ys b)
functor_fast bits slots x f ys true e distinct h = take_fast bits slots x f ys (slots x) e distinct h
functor_fast bits slots x f ys false e distinct h =
    ap (λ o. build e x (length ys) f o) (values_told bits slots ys e h) ∙ build_fast e x (length ys) f (all_have bits ys) (map slots ys)

predicate_fast : (bits : ℕ → Bool) (slots : ℕ → Value) (x : ℕ) (ys : List ℕ) (b : Bool) (o : Option (ℕ × Procedure)) (e : Env) → Tells bits slots ys e
    → unify_predicate e x ys (told b (slots x)) o ≡ outcome e (fast_predicate bits slots x ys b o)
predicate_fast bits slots x ys true None e h = refl
predicate_fast bits slots x ys true (Some q) e h = refl
predicate_fast bits slots x ys false None e h = refl
predicate_fast bits slots x ys false (Some q) e h =
    ap (λ o. close e x (length ys) q.0 o) (values_told bits slots ys e h) ∙ close_fast e x (length ys) q.0 (all_have bits ys) (map slots ys)

name_fast : (s : Hlds) (bits : ℕ → Bool) (slots : ℕ → Value) (x : ℕ) (q : PredName) (ys : List ℕ) (b : Bool) (e : Env) → AreDistinct ys → Tells bits slots (x ∷ ys) e
    → unify_name s e x q ys b ≡ outcome e (fast_name s bits slots x q ys b)
name_fast s bits slots x q ys true e distinct h =
    ap (λ o. unify_functor e x q.name ys o) (tells_first bits slots x ys e h) ∙ functor_fast bits slots x q.name ys (bits x) e distinct (tells_rest bits slots x ys e h)
name_fast s bits slots x q ys false e distinct h =
    ap (λ o. unify_predicate e x ys o (procedure_called s q)) (tells_first bits slots x ys e h) ∙ predicate_fast bits slots x ys (bits x) (procedure_called s q) e (tells_rest bits slots x ys e h)

-- ---- the other goals

write_fast : (e : Env) (after : ℕ) (bytes : List ℕ) (f g : Bool) (v w : Value) → write e after bytes (told f v) (told g w) ≡ outcome e (fast_write after bytes f g)
write_fast e after bytes true true v w = refl
write_fast e after bytes true false v w = refl
write_fast e after bytes false true v w = refl
write_fast e after bytes false false v w = refl

write_int_fast : (e : Env) (after : ℕ) (b f g : Bool) (u v w : Value) → write_int e after (told b u) (told f v) (told g w) ≡ outcome e (fast_write_int after b f g u)
write_int_fast e after true f g (Number n) v w = write_fast e after (signed_decimal n) f g v w
write_int_fast e after true f g (Literal b) v w = refl
write_int_fast e after true f g (Built n vs) v w = refl
write_int_fast e after true f g (Closure n vs) v w = refl
write_int_fast e after false f g u v w = refl

write_text_fast : (e : Env) (after : ℕ) (b f g : Bool) (u v w : Value) → write_text e after (told b u) (told f v) (told g w) ≡ outcome e (fast_write_text after b f g u)
write_text_fast e after true f g (Literal b) v w = write_fast e after b f g v w
write_text_fast e after true f g (Number b) v w = refl
write_text_fast e after true f g (Built n vs) v w = refl
write_text_fast e after true f g (Closure n vs) v w = refl
write_text_fast e after false f g u v w = refl

raise_fast : (e : Env) (b : Bool) (v : Value) → raise (told b v) ≡ outcome e (fast_raise b v)
raise_fast e true (Literal b) = refl
raise_fast e true (Number b) = refl
raise_fast e true (Built n vs) = refl
raise_fast e true (Closure n vs) = refl
raise_fast e false v = refl

-- the variable for the result has a value already
computes_none : (e : Env) (z : ℕ) (op : Op) (u v w : Value) → compute e z op (Some u) (Some v) (Some w) ≡ outcome e Sticks
computes_none e z op (Number a) (Number b) w = refl
computes_none e z op (Number a) (Literal b) w = refl
computes_none e z op (Number a) (Built n vs) w = refl
computes_none e z op (Number a) (Closure n vs) w = refl
computes_none e z op (Literal a) v w = refl
computes_none e z op (Built n vs) v w = refl
computes_none e z op (Closure n vs) v w = refl

compute_fast : (e : Env) (z : ℕ) (op : Op) (f g h : Bool) (u v w : Value) → compute e z op (told f u) (told g v) (told h w) ≡ outcome e (fast_compute z op f g h u v)
compute_fast e z op true true true u v w = computes_none e z op u v w
compute_fast e z op true true false (Number a) (Number b) w = refl
compute_fast e z op true true false (Number a) (Literal b) w = refl
compute_fast e z op true true false (Number a) (Built n vs) w = refl
compute_fast e z op true true false (Number a) (Closure n vs) w = refl
compute_fast e z op true true false (Literal a) v w = refl
compute_fast e z op true true false (Built n vs) v w = refl
compute_fast e z op true true false (Closure n vs) v w = refl
compute_fast e z op true false h (Number a) v w = refl
compute_fast e z op true false h (Literal a) v w = refl
compute_fast e z op true false h (Built n vs) v w = refl
compute_fast e z op true false h (Closure n vs) v w = refl
compute_fast e z op false g h u v w = refl

compare_fast : (e : Env) (cmp : Cmp) (f g : Bool) (u v : Value) → compare e cmp (told f u) (told g v) ≡ outcome e (fast_compare cmp f g u v)
compare_fast e cmp true true (Number a) (Number b) = answer_fast e 0 (holds cmp a b)
compare_fast e cmp true true (Number a) (Literal b) = refl
compare_fast e cmp true true (Number a) (Built n vs) = refl
compare_fast e cmp true true (Number a) (Closure n vs) = refl
compare_fast e cmp true true (Literal a) v = refl
compare_fast e cmp true true (Built n vs) v = refl
compare_fast e cmp true true (Closure n vs) v = refl
compare_fast e cmp true false (Number a) v = refl
compare_fast e cmp true false (Literal a) v = refl
compare_fast e cmp true false (Built n vs) v = refl
compare_fast e cmp true false (Closure n vs) v = refl
compare_fast e cmp false g u v = refl

-- ---- any simple goal

tells_three : (bits : ℕ → Bool) (slots : ℕ → Value) (x y z : ℕ) (e : Env) → Tells bits slots (x ∷ y ∷ z ∷ []) e
    → (value_at e x ≡ told (bits x) (slots x)) × (value_at e y ≡ told (bits y) (slots y)) × (value_at e z ≡ told (bits z) (slots z))
tells_three bits slots x y z e h =
    let rest = tells_rest bits slots x (y ∷ z ∷ []) e h in
    (tells_first bits slots x (y ∷ z ∷ []) e h, tells_first bits slots y (z ∷ []) e rest, tells_first bits slots z [] e (tells_rest bits slots y (z ∷ []) e rest))

unify_fast : (s : Hlds) (bits : ℕ → Bool) (slots : ℕ → Value) (x : ℕ) (t : Term) (e : Env) → IsTidySimple (Unifies x t) → Tells bits slots (simple_variables (Unifies x t)) e
    → unify s e x t ≡ outcome e (fast_unify s bits slots x t)
unify_fast s bits slots x (Var y) e tidy h =
    rw (tells_first bits slots x (y ∷ []) e h, tells_first bits slots y [] e (tells_rest bits slots x (y ∷ []) e h)) (variables_fast e x y (bits x) (bits y) (slots x) (slots y))
unify_fast s bits slots x (Int n) e tidy h = rw (tells_first bits slots x [] e h) (constant_fast e x (Number n) (bits x) (slots x))
unify_fast s bits slots x (Str b) e tidy h = rw (tells_first bits slots x [] e h) (constant_fast e x (Literal b) (bits x) (slots x))
unify_fast s bits slots x (Name q ys) e tidy h = name_fast s bits slots x q ys (is_functor s q (length ys)) e tidy h

pub simple_by_slots : (s : Hlds) (bits : ℕ → Bool) (slots : ℕ → Value) (g : Simple) (e : Env) → IsTidySimple g → Tells bits slots (simple_variables g) e
    → simple s e g ≡ outcome e (fast_simple s bits slots g)
simple_by_slots s bits slots Succeeds e tidy h = refl
simple_by_slots s bits slots Fails e tidy h = refl
simple_by_slots s bits slots (Unifies x t) e tidy h = unify_fast s bits slots x t e tidy h
simple_by_slots s bits slots (Computes z a op b) e tidy h =
    let t = tells_three bits slots z a b e h in
    rw (t.0, t.1, t.2) (compute_fast e z op (bits a) (bits b) (bits z) (slots a) (slots b) (slots z))
simple_by_slots s bits slots (Compares a cmp b) e tidy h =
    rw (tells_first bits slots a (b ∷ []) e h, tells_first bits slots b [] e (tells_rest bits slots a (b ∷ []) e h)) (compare_fast e cmp (bits a) (bits b) (slots a) (slots b))
simple_by_slots s bits slots (WritesInt x before after) e tidy h =
    let t = tells_three bits slots x before after e h in
    rw (t.0, t.1, t.2) (write_int_fast e after (bits x) (bits before) (bits after) (slots x) (slots before) (slots after))
simple_by_slots s bits slots (WritesText x before after) e tidy h =
    let t = tells_three bits slots x before after e h in
    rw (t.0, t.1, t.2) (write_text_fast e after (bits x) (bits before) (bits after) (slots x) (slots before) (slots after))
simple_by_slots s bits slots (EndsLine before after) e tidy h =
    rw (tells_first bits slots before (after ∷ []) e h, tells_first bits slots after [] e (tells_rest bits slots before (after ∷ []) e h))
    (write_fast e after (10 ∷ []) (bits before) (bits after) (slots before) (slots after))
simple_by_slots s bits slots (Raises x) e tidy h = rw (tells_first bits slots x [] e h) (raise_fast e (bits x) (slots x))
