-- What a simple goal gives in an environment: it goes by which variables have a value, and never by a mode.
use Rattle.std.specs.Prelude.{ℕ, ◌+◌, ℤ, pos, Bool, true, false, ◌&&◌, List, [], ◌∷◌, length, Option, Some, None, cond, nat_eq}
use Rattle.std.specs.Int.{w64, int_wrapping_add, int_wrapping_sub, int_wrapping_mul}
use Rattle.std.specs.Ordering.{int_cmp, is_lt, is_le, is_gt, is_ge}
use Rattle.std.specs.Fmt.{signed_decimal}
use Rattle.std.specs.Str.{bytes_eq}
use Rattle.md_hlds.specs.declared.goal.Term.{Term}
use Rattle.md_hlds.specs.declared.goal.Term.TheVariants.{Var, Int, Str, Name}
use Rattle.md_hlds.specs.declared.goal.Op.{Op}
use Rattle.md_hlds.specs.declared.goal.Op.TheVariants.{Add, Sub, Mul}
use Rattle.md_hlds.specs.declared.goal.Cmp.{Cmp}
use Rattle.md_hlds.specs.declared.goal.Cmp.TheVariants.{Lt, Le, Gt, Ge}
use Rattle.md_hlds.specs.declared.goal.PredName.{PredName}
use Rattle.md_hlds.specs.HldsGoal.{Simple, Succeeds, Fails, Unifies, Computes, Compares, WritesInt, WritesText, EndsLine, Raises}
use Rattle.md_hlds.specs.Hlds.{Hlds, Procedure, procedure_called, is_functor}
use Rattle.md_hlds.specs.Value.{Value, Number, Literal, Built, Closure, listed_values, gathered_values, value_count, Compared, compared, Env, value_at, values_at, bound}

-- What a simple goal does. Its weight is suc extra.
pub data Outcome : Type 0 where
  -- it succeeds: the environment after it, the words that it allocates (0 where it allocates nothing), what it writes
  Go : (e : Env) (extra words : ℕ) (out : Option (List ℕ)) → Outcome
  -- it has no solution
  No : (extra : ℕ) → Outcome
  -- it throws these bytes, at a weight of 1
  Throws : (bytes : List ℕ) → Outcome
  -- no rule applies
  Stop : Outcome

-- it succeeds, at a weight of 1, and neither allocates nor writes
abbrev pub goes : Env → Outcome
goes e = Go e 0 0 None

-- the end of a comparison after some extra pairs
abbrev pub answer : Env → ℕ → Bool → Outcome
answer e extra equal = cond equal (Go e extra 0 None) (No extra)

abbrev pub compare_values : Env → Compared → Outcome
compare_values e c = answer e c.pairs c.equal

-- X = Y
abbrev pub unify_values : Env → (x y : ℕ) → Option Value → Option Value → Outcome
unify_values e x y (Some v) (Some w) = compare_values e (compared v w)
unify_values e x y (Some v) None = goes (bound e y v)
unify_values e x y None (Some w) = goes (bound e x w)
unify_values e x y None None = Stop

-- X = an integer or a literal
abbrev pub unify_constant : Env → ℕ → Value → Option Value → Outcome
unify_constant e x c None = goes (bound e x c)
unify_constant e x c (Some v) = answer e 0 (compared v c).equal

-- X = f(Y1, .., Yn), where X has no value
abbrev pub build : Env → (x arity : ℕ) → List ℕ → Option (List Value) → Outcome
build e x arity f (Some vs) = Go (bound e x (Built f (gathered_values vs))) arity arity None
build e x arity f None = Stop

abbrev pub take_compared : (Env → ℕ → Outcome) → Env → ℕ → Compared → Outcome
take_compared rest e extra c = cond c.equal (rest e (extra + c.pairs)) (No (extra + c.pairs))

-- a part of X, and the variable in its place: one without a value gets the part, another is compared with it
abbrev pub take_part : (Env → ℕ → Outcome) → Env → ℕ → ℕ → Value → Option Value → Outcome
take_part rest e extra y v None = rest (bound e y v) extra
take_part rest e extra y v (Some w) = take_compared rest e extra (compared w v)

-- X = f(Y1, .., Yn), where X has this functor
abbrev pub take_apart : List ℕ → List Value → Env → ℕ → Outcome
take_apart (y ∷ ys) (v ∷ vs) e extra = take_part (take_apart ys vs) e extra y v (value_at e y)
take_apart ys vs e extra = Go e extra 0 None

abbrev pub same_functor : Env → List ℕ → List Value → Bool → Outcome
same_functor e ys parts true = take_apart ys parts e 0
same_functor e ys parts false = No 0

-- X = f(Y1, .., Yn) for a functor f
abbrev pub unify_functor : Env → ℕ → List ℕ → List ℕ → Option Value → Outcome
unify_functor e x f ys None = build e x (length ys) f (values_at e ys)
unify_functor e x f ys (Some (Built g parts)) = same_functor e ys (listed_values parts) (bytes_eq f g && nat_eq (length ys) (value_count parts))
unify_functor e x f ys (Some v) = Stop

-- X = q(Y1, .., Yk) for a predicate q
abbrev pub close : Env → (x arity procedure : ℕ) → Option (List Value) → Outcome
close e x arity procedure (Some vs) = Go (bound e x (Closure procedure (gathered_values vs))) (arity + 3) (arity + 3) None
close e x arity procedure None = Stop

abbrev pub unify_predicate : Env → ℕ → List ℕ → Option Value → Option (ℕ × Procedure) → Outcome
unify_predicate e x ys None (Some q) = close e x (length ys) q.0 (values_at e ys)
unify_predicate e x ys v q = Stop

abbrev pub unify_name : Hlds → Env → ℕ → PredName → List ℕ → Bool → Outcome
unify_name s e x q ys true = unify_functor e x q.name ys (value_at e x)
unify_name s e x q ys false = unify_predicate e x ys (value_at e x) (procedure_called s q)

abbrev pub unify : Hlds → Env → ℕ → Term → Outcome
unify s e x (Var y) = unify_values e x y (value_at e x) (value_at e y)
unify s e x (Int n) = unify_constant e x (Number n) (value_at e x)
unify s e x (Str bytes) = unify_constant e x (Literal bytes) (value_at e x)
unify s e x (Name q ys) = unify_name s e x q ys (is_functor s q (length ys))

-- arithmetic wraps at 64 bits
abbrev pub result_of : Op → ℤ → ℤ → ℤ
result_of Add a b = int_wrapping_add w64 a b
result_of Sub a b = int_wrapping_sub w64 a b
result_of Mul a b = int_wrapping_mul w64 a b

abbrev pub holds : Cmp → ℤ → ℤ → Bool
holds Lt a b = is_lt (int_cmp a b)
holds Le a b = is_le (int_cmp a b)
holds Gt a b = is_gt (int_cmp a b)
holds Ge a b = is_ge (int_cmp a b)

abbrev pub compute : Env → ℕ → Op → Option Value → Option Value → Option Value → Outcome
compute e z op (Some (Number a)) (Some (Number b)) None = goes (bound e z (Number (result_of op a b)))
compute e z op a b v = Stop

abbrev pub compare : Env → Cmp → Option Value → Option Value → Outcome
compare e cmp (Some (Number a)) (Some (Number b)) = answer e 0 (holds cmp a b)
compare e cmp a b = Stop

-- the bytes are written, and the second io variable gets the state
abbrev pub write : Env → ℕ → List ℕ → Option Value → Option Value → Outcome
write e after bytes (Some v) None = Go (bound e after (Number (pos 0))) (length bytes) 0 (Some bytes)
write e after bytes v w = Stop

abbrev pub write_int : Env → ℕ → Option Value → Option Value → Option Value → Outcome
write_int e after (Some (Number n)) v w = write e after (signed_decimal n) v w
write_int e after x v w = Stop

abbrev pub write_text : Env → ℕ → Option Value → Option Value → Option Value → Outcome
write_text e after (Some (Literal bytes)) v w = write e after bytes v w
write_text e after x v w = Stop

-- an exception with the bytes of a literal
abbrev pub raise : Option Value → Outcome
raise (Some (Literal bytes)) = Throws bytes
raise v = Stop

abbrev pub simple : Hlds → Env → Simple → Outcome
simple s e Succeeds = goes e
simple s e Fails = No 0
simple s e (Unifies x t) = unify s e x t
simple s e (Computes z a op b) = compute e z op (value_at e a) (value_at e b) (value_at e z)
simple s e (Compares a cmp b) = compare e cmp (value_at e a) (value_at e b)
simple s e (WritesInt x before after) = write_int e after (value_at e x) (value_at e before) (value_at e after)
simple s e (WritesText x before after) = write_text e after (value_at e x) (value_at e before) (value_at e after)
simple s e (EndsLine before after) = write e after (10 ∷ []) (value_at e before) (value_at e after)
simple s e (Raises x) = raise (value_at e x)
