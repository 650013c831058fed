-- What a simple goal writes by slots: variables of the goal that have no value.
use Rattle.std.proofs.Common.{◌≡◌, refl, sym, ap, ◌∙◌, inl, inr, arith, ℕ, ◌+◌, ◌<◌, Bool, true, false, ◌&&◌, cond, nat_eq, List, [], ◌∷◌, length, map, Option, Some, None}
use Rattle.std.proofs.lemmas.Bool.{eqb-true}
use Rattle.std.specs.Fmt.{signed_decimal}
use Rattle.std.specs.Str.{bytes_eq}
use Rattle.md_hlds.specs.declared.goal.Term.{Term}
use Rattle.md_hlds.specs.declared.goal.Term.TheVariants.{Var, Int, Str, Name}
use Rattle.md_hlds.specs.declared.goal.Op.{Op}
use Rattle.md_hlds.specs.declared.goal.Cmp.{Cmp}
use Rattle.md_hlds.specs.declared.goal.PredName.{PredName}
use Rattle.md_hlds.specs.HldsGoal.{Simple, Succeeds, Fails, Unifies, Computes, Compares, WritesInt, WritesText, EndsLine, Raises}
use Rattle.md_hlds.specs.Hlds.{Hlds, Procedure, procedure_called, is_functor}
use Rattle.md_hlds.specs.Value.{Value, Number, Literal, Built, Closure, listed_values, value_count, compared, Env, value_at, bound}
use Rattle.md_hlds.specs.Simple.{holds}
use Rattle.md_inst.specs.Instantiation.{times}
use Rattle.md_modes.specs.Goals as modes
use Rattle.law_safety.specs.Turns.{AreDistinct, IsTidySimple}
use Rattle.law_safety.proofs.Environments.{value_at-bound_other}
use Rattle.law_safety.proofs.Handing.{more_times, first_times}
use Rattle.law_frames.specs.Ways.{IsAmong, simple_variables}
use Rattle.law_frames.specs.Stores.{AreFresh}
use Rattle.law_fits.specs.Fast.{Effect, Puts, Misses, Bursts, Sticks, told, Tells, all_have, tested, fast_variables, fast_constant, fast_build, also_puts, fast_part, fast_parts, fast_same, fast_take, fast_functor, fast_close, fast_predicate, fast_name, fast_unify, fast_compute, fast_compare, fast_write, fast_write_int, fast_write_text, fast_raise, fast_simple}

-- ---- variables

pub same_variables : (g : Simple) → modes.simple_variables g ≡ simple_variables g
same_variables Succeeds = refl
same_variables Fails = refl
same_variables (Unifies x (Var y)) = refl
same_variables (Unifies x (Int n)) = refl
same_variables (Unifies x (Str b)) = refl
same_variables (Unifies x (Name q ys)) = refl
same_variables (Computes z a op b) = refl
same_variables (Compares a c b) = refl
same_variables (WritesInt x before after) = refl
same_variables (WritesText x before after) = refl
same_variables (EndsLine before after) = refl
same_variables (Raises x) = refl

pub among_times : (y : ℕ) (xs : List ℕ) → 0 < times y xs → IsAmong y xs
among_times y [] h = absurd (omega (arith, h))
among_times y (x ∷ xs) h = by_value (nat_eq y x) refl (λ more. among_times y xs more)
  where
    by_value : (b : Bool) → nat_eq y x ≡ b → (0 < times y xs → IsAmong y xs) → IsAmong y (x ∷ xs)
    by_value true is later = inl (sym (eqb-true y x is))
    by_value false is later = inr (later (let fewer : times y (x ∷ xs) ≡ times y xs = rw is refl in omega (arith, h, fewer)))

-- ---- effects

-- what is written is of these variables
abbrev pub AllAmong : List ℕ → List (ℕ × Value) → Type 0
AllAmong vars [] = Unit {0}
AllAmong vars (b ∷ bs) = IsAmong b.0 vars × AllAmong vars bs

-- it is written into variables of these, none of which has a value
abbrev pub WritesFresh : List ℕ → Env → Effect → Type 0
WritesFresh vars e (Puts values extra words out) = AreFresh values e × AllAmong vars values
WritesFresh vars e (Misses extra) = Unit {0}
WritesFresh vars e (Bursts bytes) = Unit {0}
WritesFresh vars e Sticks = Unit {0}

tells_first : (bits : ℕ → Bool) (slots : ℕ → Value) (y : ℕ) (ys : List ℕ) (e : Env) → Tells bits slots (y ∷ ys) e → value_at e y ≡ told (bits y) (slots y)
tells_first bits slots y ys e h = h y (first_times y ys)

tells_rest : (bits : ℕ → Bool) (slots : ℕ → Value) (y : ℕ) (ys : List ℕ) (e : Env) → Tells bits slots (y ∷ ys) e → Tells bits slots ys e
tells_rest bits slots y ys e h = λ x there. h x (more_times x y ys there)

tells_after : (bits : ℕ → Bool) (slots : ℕ → Value) (y : ℕ) (v : Value) (ys : List ℕ) (e : Env) → times y ys ≡ 0 → Tells bits slots ys e → Tells bits slots ys (bound e y v)
tells_after bits slots y v ys e none h =
    λ x there. value_at-bound_other e y x v (λ same. let gone : times x ys ≡ 0 = ap (λ z. times z ys) same ∙ none in absurd (omega (arith, there, gone))) ∙ h x there

tested_fresh : (vars : List ℕ) (e : Env) (extra : ℕ) (b : Bool) → WritesFresh vars e (tested extra b)
tested_fresh vars e extra true = (tt, tt)
tested_fresh vars e extra false = tt

variables_fresh : (e : Env) (x y : ℕ) (b c : Bool) (v w : Value) → value_at e x ≡ told b v → value_at e y ≡ told c w → WritesFresh (x ∷ y ∷ []) e (fast_variables x y b c v w)
variables_fresh e x y true true v w f g = tested_fresh (x ∷ y ∷ []) e (compared v w).pairs (compared v w).equal
variables_fresh e x y true false v w f g = ((g, tt), (inr (inl refl), tt))
variables_fresh e x y false true v w f g = ((f, tt), (inl refl, tt))
variables_fresh e x y false false v w f g = tt

constant_fresh : (e : Env) (x : ℕ) (c : Value) (b : Bool) (v : Value) → value_at e x ≡ told b v → WritesFresh (x ∷ []) e (fast_constant x c b v)
constant_fresh e x c true v f = tested_fresh (x ∷ []) e 0 (compared v c).equal
constant_fresh e x c false v f = ((f, tt), (inl refl, tt))

build_fresh : (e : Env) (x arity : ℕ) (f ys : List ℕ) (b : Bool) (vs : List Value) → value_at e x ≡ None → WritesFresh (x ∷ ys) e (fast_build x arity f b vs)
build_fresh e x arity f ys true vs none = ((none, tt), (inl refl, tt))
build_fresh e x arity f ys false vs none = tt

close_fresh : (e : Env) (x arity procedure : ℕ) (ys : List ℕ) (b : Bool) (vs : List Value) → value_at e x ≡ None → WritesFresh (x ∷ ys) e (fast_close x arity procedure b vs)
close_fresh e x arity procedure ys true vs none = ((none, tt), (inl refl, tt))
close_fresh e x arity procedure ys false vs none = tt

also_fresh : (vars : List ℕ) (e : Env) (y : ℕ) (v : Value) (f : Effect) → value_at e y ≡ None → IsAmong y vars → WritesFresh vars (bound e y v) f → WritesFresh vars e (also_puts (y, v) f)
also_fresh vars e y v (Puts values extra words out) none among h = ((none, h.0), (among, h.1))
also_fresh vars e y v (Misses extra) none among h = tt
also_fresh vars e y v (Bursts bytes) none among h = tt
also_fresh vars e y v Sticks none among h = tt

where_fresh : (vars : List ℕ) (e : Env) (rest : ℕ → Effect) (n : ℕ) (b : Bool) → WritesFresh vars e (rest n) → WritesFresh vars e (cond b (rest n) (Misses n))
where_fresh vars e rest n true h = h
where_fresh vars e rest n false h = tt

part_fresh : (vars : List ℕ) (e : Env) (rest : ℕ → Effect) (extra y : ℕ) (v : Value) (b : Bool) (w : Value) → value_at e y ≡ told b w → IsAmong y vars
    → ((n : ℕ) → WritesFresh vars e (rest n)) → WritesFresh vars (bound e y v) (rest extra) → WritesFresh vars e (fast_part rest extra y v b w)
part_fresh vars e rest extra y v true w is among same later = where_fresh vars e rest (extra + (compared w v).pairs) (compared w v).equal (same (extra + (compared w v).pairs))
part_fresh vars e rest extra y v false w is among same later = also_fresh vars e y v (rest extra) is among later

-- these variables are among those
abbrev AreAmong : List ℕ → List ℕ → Type 0
AreAmong ys vars = (y : ℕ) → IsAmong y ys → IsAmong y vars

parts_fresh : (vars : List ℕ) (bits : ℕ → Bool) (slots : ℕ → Value) (ys : List ℕ) (vs : List Value) (e : Env) (extra : ℕ) → AreDistinct ys → Tells bits slots ys e → AreAmong ys vars
    → WritesFresh vars e (fast_parts bits slots ys vs extra)
parts_fresh vars bits slots [] [] e extra distinct h among = (tt, tt)
parts_fresh vars bits slots [] (v ∷ vs) e extra distinct h among = (tt, tt)
parts_fresh vars bits slots (y ∷ ys) [] e extra distinct h among = (tt, tt)
parts_fresh vars bits slots (y ∷ ys) (v ∷ vs) e extra distinct h among =
    let rest = tells_rest bits slots y ys e h in
    part_fresh vars e (λ n. fast_parts bits slots ys vs n) extra y v (bits y) (slots y) (tells_first bits slots y ys e h) (among y (inl refl))
    (λ n. parts_fresh vars bits slots ys vs e n distinct.1 rest (λ z there. among z (inr there)))
    (parts_fresh vars bits slots ys vs (bound e y v) extra distinct.1 (tells_after bits slots y v ys e distinct.0 rest) (λ z there. among z (inr there)))

same_fresh : (vars : List ℕ) (bits : ℕ → Bool) (slots : ℕ → Value) (ys : List ℕ) (parts : List Value) (e : Env) (b : Bool) → AreDistinct ys → Tells bits slots ys e → AreAmong ys vars
    → WritesFresh vars e (fast_same bits slots ys parts b)
same_fresh vars bits slots ys parts e true distinct h among = parts_fresh vars bits slots ys parts e 0 distinct h among
same_fresh vars bits slots ys parts e false distinct h among = tt

take_fresh : (vars : List ℕ) (bits : ℕ → Bool) (slots : ℕ → Value) (f ys : List ℕ) (v : Value) (e : Env) → AreDistinct ys → Tells bits slots ys e → AreAmong ys vars
    → WritesFresh vars e (fast_take bits slots f ys v)
take_fresh vars bits slots f ys (Built g parts) e distinct h among = same_fresh vars bits slots ys (listed_values parts) e (bytes_eq f g && nat_eq (length ys) (value_count parts)) distinct h among
take_fresh vars bits slots f ys (Number n) e distinct h among = tt
take_fresh vars bits slots f ys (Literal b) e distinct h among = tt
take_fresh vars bits slots f ys (Closure q vs) e distinct h among = tt

functor_fresh : (bits : ℕ → Bool) (slots : ℕ → Value) (x : ℕ) (f ys : List ℕ) (b : Bool) (e : Env) → AreDistinct ys → Tells bits slots ys e → value_at e x ≡ told b (slots x)
    → WritesFresh (x ∷ ys) e (fast_functor bits slots x f ys b)
functor_fresh bits slots x f ys true e distinct h is = take_fresh (x ∷ ys) bits slots f ys (slots x) e distinct h (λ y there. inr there)
functor_fresh bits slots x f ys false e distinct h is = build_fresh e x (length ys) f ys (all_have bits ys) (map slots ys) is

predicate_fresh : (bits : ℕ → Bool) (slots : ℕ → Value) (x : ℕ) (ys : List ℕ) (b : Bool) (o : Option (ℕ × Procedure)) (e : Env) → value_at e x ≡ told b (slots x) → WritesFresh (x ∷ ys) e (fast_predicate bits slots x ys b o)
predicate_fresh bits slots x ys true None e is = tt
predicate_fresh bits slots x ys true (Some q) e is = tt
predicate_fresh bits slots x ys false None e is = tt
predicate_fresh bits slots x ys false (Some q) e is = close_fresh e x (length ys) q.0 ys (all_have bits ys) (map slots ys) is

name_fresh : (s : Hlds) (bits : ℕ → Bool) (slots : ℕ → Value) (x : ℕ) (q : PredName) (ys : List ℕ) (b : Bool) (e : Env) → AreDistinct ys → Tells bits slots (x ∷ ys) e → WritesFresh (x ∷ ys) e (fast_name s bits slots x q ys b)
name_fresh s bits slots x q ys true e distinct h = functor_fresh bits slots x q.name ys (bits x) e distinct (tells_rest bits slots x ys e h) (tells_first bits slots x ys e h)
name_fresh s bits slots x q ys false e distinct h = predicate_fresh bits slots x ys (bits x) (procedure_called s q) e (tells_first bits slots x ys e h)

unify_fresh : (s : Hlds) (bits : ℕ → Bool) (slots : ℕ → Value) (x : ℕ) (t : Term) (e : Env) → IsTidySimple (Unifies x t) → Tells bits slots (modes.simple_variables (Unifies x t)) e
    → WritesFresh (simple_variables (Unifies x t)) e (fast_unify s bits slots x t)
unify_fresh s bits slots x (Var y) e tidy h = variables_fresh e x y (bits x) (bits y) (slots x) (slots y) (tells_first bits slots x (y ∷ []) e h) (tells_first bits slots y [] e (tells_rest bits slots x (y ∷ []) e h))
unify_fresh s bits slots x (Int n) e tidy h = constant_fresh e x (Number n) (bits x) (slots x) (tells_first bits slots x [] e h)
unify_fresh s bits slots x (Str b) e tidy h = constant_fresh e x (Literal b) (bits x) (slots x) (tells_first bits slots x [] e h)
unify_fresh s bits slots x (Name q ys) e tidy h = name_fresh s bits slots x q ys (is_functor s q (length ys)) e tidy h

-- ---- the other goals

compute_fresh : (e : Env) (vars : List ℕ) (z : ℕ) (op : Op) (f g h : Bool) (u v w : Value) → value_at e z ≡ told h w → IsAmong z vars → WritesFresh vars e (fast_compute z op f g h u v)
compute_fresh e vars z op true true true (Number a) (Number b) w is among = tt
compute_fresh e vars z op true true true (Number a) (Literal b) w is among = tt
compute_fresh e vars z op true true true (Number a) (Built n vs) w is among = tt
compute_fresh e vars z op true true true (Number a) (Closure n vs) w is among = tt
compute_fresh e vars z op true true true (Literal a) v w is among = tt
compute_fresh e vars z op true true true (Built n vs) v w is among = tt
compute_fresh e vars z op true true true (Closure n vs) v w is among = tt
compute_fresh e vars z op true true false (Number a) (Number b) w is among = ((is, tt), (among, tt))
compute_fresh e vars z op true true false (Number a) (Literal b) w is among = tt
compute_fresh e vars z op true true false (Number a) (Built n vs) w is among = tt
compute_fresh e vars z op true true false (Number a) (Closure n vs) w is among = tt
compute_fresh e vars z op true true false (Literal a) v w is among = tt
compute_fresh e vars z op true true false (Built n vs) v w is among = tt
compute_fresh e vars z op true true false (Closure n vs) v w is among = tt
compute_fresh e vars z op true false h u v w is among = tt
compute_fresh e vars z op false g h u v w is among = tt

compare_fresh : (e : Env) (vars : List ℕ) (cmp : Cmp) (f g : Bool) (u v : Value) → WritesFresh vars e (fast_compare cmp f g u v)
compare_fresh e vars cmp true true (Number a) (Number b) = tested_fresh vars e 0 (holds cmp a b)
compare_fresh e vars cmp true true (Number a) (Literal b) = tt
compare_fresh e vars cmp true true (Number a) (Built n vs) = tt
compare_fresh e vars cmp true true (Number a) (Closure n vs) = tt
compare_fresh e vars cmp true true (Literal a) v = tt
compare_fresh e vars cmp true true (Built n vs) v = tt
compare_fresh e vars cmp true true (Closure n vs) v = tt
compare_fresh e vars cmp true false u v = tt
compare_fresh e vars cmp false g u v = tt

write_fresh : (e : Env) (vars : List ℕ) (after : ℕ) (bytes : List ℕ) (f g : Bool) (w : Value) → value_at e after ≡ told g w → IsAmong after vars → WritesFresh vars e (fast_write after bytes f g)
write_fresh e vars after bytes true true w is among = tt
write_fresh e vars after bytes true false w is among = ((is, tt), (among, tt))
write_fresh e vars after bytes false true w is among = tt
write_fresh e vars after bytes false false w is among = tt

write_int_fresh : (e : Env) (vars : List ℕ) (after : ℕ) (b f g : Bool) (u w : Value) → value_at e after ≡ told g w → IsAmong after vars → WritesFresh vars e (fast_write_int after b f g u)
write_int_fresh e vars after true f g (Number n) w is among = write_fresh e vars after (signed_decimal n) f g w is among
write_int_fresh e vars after true f g (Literal b) w is among = tt
write_int_fresh e vars after true f g (Built n vs) w is among = tt
write_int_fresh e vars after true f g (Closure n vs) w is among = tt
write_int_fresh e vars after false f g u w is among = tt

write_text_fresh : (e : Env) (vars : List ℕ) (after : ℕ) (b f g : Bool) (u w : Value) → value_at e after ≡ told g w → IsAmong after vars → WritesFresh vars e (fast_write_text after b f g u)
write_text_fresh e vars after true f g (Literal b) w is among = write_fresh e vars after b f g w is among
write_text_fresh e vars after true f g (Number b) w is among = tt
write_text_fresh e vars after true f g (Built n vs) w is among = tt
write_text_fresh e vars after true f g (Closure n vs) w is among = tt
write_text_fresh e vars after false f g u w is among = tt

raise_fresh : (e : Env) (vars : List ℕ) (b : Bool) (v : Value) → WritesFresh vars e (fast_raise b v)
raise_fresh e vars true (Literal b) = tt
raise_fresh e vars true (Number b) = tt
raise_fresh e vars true (Built n vs) = tt
raise_fresh e vars true (Closure n vs) = tt
raise_fresh e vars false v = tt

pub simple_fresh : (s : Hlds) (bits : ℕ → Bool) (slots : ℕ → Value) (g : Simple) (e : Env) → IsTidySimple g → Tells bits slots (modes.simple_variables g) e → WritesFresh (simple_variables g) e (fast_simple s bits slots g)
simple_fresh s bits slots Succeeds e tidy h = (tt, tt)
simple_fresh s bits slots Fails e tidy h = tt
simple_fresh s bits slots (Unifies x t) e tidy h = unify_fresh s bits slots x t e tidy h
simple_fresh s bits slots (Computes z a op b) e tidy h = compute_fresh e (z ∷ a ∷ b ∷ []) z op (bits a) (bits b) (bits z) (slots a) (slots b) (slots z) (tells_first bits slots z (a ∷ b ∷ []) e h) (inl refl)
simple_fresh s bits slots (Compares a cmp b) e tidy h = compare_fresh e (a ∷ b ∷ []) cmp (bits a) (bits b) (slots a) (slots b)
simple_fresh s bits slots (WritesInt x before after) e tidy h =
    write_int_fresh e (x ∷ before ∷ after ∷ []) after (bits x) (bits before) (bits after) (slots x) (slots after)
    (tells_first bits slots after [] e (tells_rest bits slots before (after ∷ []) e (tells_rest bits slots x (before ∷ after ∷ []) e h))) (inr (inr (inl refl)))
simple_fresh s bits slots (WritesText x before after) e tidy h =
    write_text_fresh e (x ∷ before ∷ after ∷ []) after (bits x) (bits before) (bits after) (slots x) (slots after)
    (tells_first bits slots after [] e (tells_rest bits slots before (after ∷ []) e (tells_rest bits slots x (before ∷ after ∷ []) e h))) (inr (inr (inl refl)))
simple_fresh s bits slots (EndsLine before after) e tidy h =
    write_fresh e (before ∷ after ∷ []) after (10 ∷ []) (bits before) (bits after) (slots after) (tells_first bits slots after [] e (tells_rest bits slots before (after ∷ []) e h)) (inr (inl refl))
simple_fresh s bits slots (Raises x) e tidy h = raise_fresh e (x ∷ []) (bits x) (slots x)
