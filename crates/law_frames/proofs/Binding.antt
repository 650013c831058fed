-- What a simple goal does to an environment: variables of the goal that had no value get values, one after the other.
use Rattle.std.proofs.Common.{◌≡◌, refl, subst, ℕ, ◌+◌, Bool, true, false, ◌&&◌, cond, nat_eq, length, List, [], ◌∷◌, Option, Some, None, bytes_eq, inl, inr}
use Rattle.md_hlds.specs.declared.goal.Term.{Term}
use Rattle.md_hlds.specs.declared.goal.Term.TheVariants.{Var, Int, Str, Name}
use Rattle.md_hlds.specs.declared.goal.Op.{Op}
use Rattle.md_hlds.specs.declared.goal.Cmp.{Cmp}
use Rattle.md_hlds.specs.declared.goal.PredName.{PredName}
use Rattle.md_hlds.specs.HldsGoal.{Simple, Succeeds, Fails, Unifies, Computes, Compares, WritesInt, WritesText, EndsLine, Raises, At, SimpleGoal}
use Rattle.md_hlds.specs.Hlds.{Hlds, Procedure, procedure_called, is_functor}
use Rattle.md_hlds.specs.Value.{Value, Number, Literal, Built, Closure, listed_values, value_count, Compared, compared, Env, value_at, values_at, bound}
use Rattle.md_hlds.specs.Simple.{Outcome, Go, No, Throws, Stop, answer, compare_values, unify_values, unify_constant, build, take_compared, take_part, take_apart, same_functor, unify_functor, close, unify_predicate, unify_name, unify, result_of, compute, compare, write, write_int, write_text, raise, holds}
use Rattle.md_hlds.specs.Simple as run
use Rattle.law_frames.specs.Ways.{IsAmong, simple_variables}
use Rattle.law_frames.specs.Stores.{bind_all, AreFresh, AreMentioned}

-- these variables get values
abbrev AreAmong : List (ℕ × Value) → List ℕ → Type 0
AreAmong [] xs = Unit {0}
AreAmong (b ∷ bs) xs = IsAmong b.0 xs × AreAmong bs xs

record Bound (e : Env) (xs : List ℕ) (d : Env) : Type 0 where
  bs : List (ℕ × Value)
  is : d ≡ bind_all bs e
  fresh : AreFresh bs e
  among : AreAmong bs xs

abbrev Binds : Env → List ℕ → Outcome → Type 0
Binds e xs (Go d extra words out) = Bound e xs d
Binds e xs (No extra) = Unit {0}
Binds e xs (Throws bytes) = Unit {0}
Binds e xs Stop = Unit {0}

nothing_bound : (e : Env) (xs : List ℕ) → Bound e xs e
nothing_bound e xs = record { bs = []; is = refl; fresh = tt; among = tt }

one_bound : (e : Env) (xs : List ℕ) (x : ℕ) (v : Value) → value_at e x ≡ None → IsAmong x xs → Bound e xs (bound e x v)
one_bound e xs x v none among = record { bs = (x, v) ∷ []; is = refl; fresh = (none, tt); among = (among, tt) }

answers : (e : Env) (xs : List ℕ) (extra : ℕ) (equal : Bool) → Binds e xs (answer e extra equal)
answers e xs extra true = nothing_bound e xs
answers e xs extra false = tt

by_values : (e : Env) (x y : ℕ) (v w : Option Value) → value_at e x ≡ v → value_at e y ≡ w → Binds e (x ∷ y ∷ []) (unify_values e x y v w)
by_values e x y (Some v) (Some w) has also' = answers e (x ∷ y ∷ []) (compared v w).pairs (compared v w).equal
by_values e x y (Some v) None has also' = one_bound e (x ∷ y ∷ []) y v also' (inr (inl refl))
by_values e x y None (Some w) has also' = one_bound e (x ∷ y ∷ []) x w has (inl refl)
by_values e x y None None has also' = tt

by_constant : (e : Env) (x : ℕ) (c : Value) (v : Option Value) → value_at e x ≡ v → Binds e (x ∷ []) (unify_constant e x c v)
by_constant e x c None has = one_bound e (x ∷ []) x c has (inl refl)
by_constant e x c (Some v) has = answers e (x ∷ []) 0 (compared v c).equal

by_build : (e : Env) (x arity : ℕ) (f ys : List ℕ) (vs : Option (List Value)) → value_at e x ≡ None → Binds e (x ∷ ys) (build e x arity f vs)
by_build e x arity f ys (Some vs) none = one_bound e (x ∷ ys) x _ none (inl refl)
by_build e x arity f ys None none = tt

by_close : (e : Env) (x arity procedure : ℕ) (ys : List ℕ) (vs : Option (List Value)) → value_at e x ≡ None → Binds e (x ∷ ys) (close e x arity procedure vs)
by_close e x arity procedure ys (Some vs) none = one_bound e (x ∷ ys) x _ none (inl refl)
by_close e x arity procedure ys None none = tt

-- among more variables
among_more : (x : ℕ) (bs : List (ℕ × Value)) (xs : List ℕ) → AreAmong bs xs → AreAmong bs (x ∷ xs)
among_more x [] xs among = tt
among_more x (b ∷ bs) xs among = (inr among.0, among_more x bs xs among.1)

binds_more : (e : Env) (x : ℕ) (xs : List ℕ) (o : Outcome) → Binds e xs o → Binds e (x ∷ xs) o
binds_more e x xs (Go d extra words out) b = record { bs = b.bs; is = b.is; fresh = b.fresh; among = among_more x b.bs xs b.among }
binds_more e x xs (No extra) b = tt
binds_more e x xs (Throws bytes) b = tt
binds_more e x xs Stop b = tt

-- after one variable has got a value
binds_after : (e : Env) (y : ℕ) (v : Value) (ys : List ℕ) (o : Outcome) → value_at e y ≡ None → Binds (bound e y v) ys o → Binds e (y ∷ ys) o
binds_after e y v ys (Go d extra words out) none b = record { bs = (y, v) ∷ b.bs; is = b.is; fresh = (none, b.fresh); among = (inl refl, among_more y b.bs ys b.among) }
binds_after e y v ys (No extra) none b = tt
binds_after e y v ys (Throws bytes) none b = tt
binds_after e y v ys Stop none b = tt

by_compared : (rest : Env → ℕ → Outcome) (e : Env) (xs : List ℕ) (extra : ℕ) (c : Compared) → ((extra : ℕ) → Binds e xs (rest e extra)) → Binds e xs (take_compared rest e extra c)
by_compared rest e xs extra c more = by_test c.equal
  where
    by_test : (b : Bool) → Binds e xs (cond b (rest e (extra + c.pairs)) (No (extra + c.pairs)))
    by_test true = more (extra + c.pairs)
    by_test false = tt

by_part : (rest : Env → ℕ → Outcome) (e : Env) (ys : List ℕ) (extra y : ℕ) (v : Value) (o : Option Value) → value_at e y ≡ o → ((e : Env) (extra : ℕ) → Binds e ys (rest e extra)) → Binds e (y ∷ ys) (take_part rest e extra y v o)
by_part rest e ys extra y v None has more = binds_after e y v ys (rest (bound e y v) extra) has (more (bound e y v) extra)
by_part rest e ys extra y v (Some w) has more = binds_more e y ys (take_compared rest e extra (compared w v)) (by_compared rest e ys extra (compared w v) (λ extra. more e extra))

by_parts : (ys : List ℕ) (vs : List Value) (e : Env) (extra : ℕ) → Binds e ys (take_apart ys vs e extra)
by_parts (y ∷ ys) (v ∷ vs) e extra = by_part (take_apart ys vs) e ys extra y v (value_at e y) refl (λ e extra. by_parts ys vs e extra)
by_parts [] vs e extra = nothing_bound e []
by_parts (y ∷ ys) [] e extra = nothing_bound e (y ∷ ys)

by_functor : (e : Env) (x : ℕ) (ys : List ℕ) (parts : List Value) (same : Bool) → Binds e (x ∷ ys) (same_functor e ys parts same)
by_functor e x ys parts true = binds_more e x ys (take_apart ys parts e 0) (by_parts ys parts e 0)
by_functor e x ys parts false = tt

by_name : (e : Env) (x : ℕ) (f ys : List ℕ) (v : Option Value) → value_at e x ≡ v → Binds e (x ∷ ys) (unify_functor e x f ys v)
by_name e x f ys None has = by_build e x (length ys) f ys (values_at e ys) has
by_name e x f ys (Some (Built g parts)) has = by_functor e x ys (listed_values parts) (bytes_eq f g && nat_eq (length ys) (value_count parts))
by_name e x f ys (Some (Number n)) has = tt
by_name e x f ys (Some (Literal bytes)) has = tt
by_name e x f ys (Some (Closure q held)) has = tt

by_predicate : (e : Env) (x : ℕ) (ys : List ℕ) (v : Option Value) (q : Option (ℕ × Procedure)) → value_at e x ≡ v → Binds e (x ∷ ys) (unify_predicate e x ys v q)
by_predicate e x ys None (Some q) has = by_close e x (length ys) q.0 ys (values_at e ys) has
by_predicate e x ys None None has = tt
by_predicate e x ys (Some v) (Some q) has = tt
by_predicate e x ys (Some v) None has = tt

by_kind : (s : Hlds) (e : Env) (x : ℕ) (q : PredName) (ys : List ℕ) (functor : Bool) → Binds e (x ∷ ys) (unify_name s e x q ys functor)
by_kind s e x q ys true = by_name e x q.name ys (value_at e x) refl
by_kind s e x q ys false = by_predicate e x ys (value_at e x) (procedure_called s q) refl

by_term : (s : Hlds) (e : Env) (x : ℕ) (t : Term) → Binds e (simple_variables (Unifies x t)) (unify s e x t)
by_term s e x (Var y) = by_values e x y (value_at e x) (value_at e y) refl refl
by_term s e x (Int n) = by_constant e x (Number n) (value_at e x) refl
by_term s e x (Str bytes) = by_constant e x (Literal bytes) (value_at e x) refl
by_term s e x (Name q ys) = by_kind s e x q ys (is_functor s q (length ys))

by_compute : (e : Env) (z a b : ℕ) (op : Op) (u v w : Option Value) → value_at e z ≡ w → Binds e (z ∷ a ∷ b ∷ []) (compute e z op u v w)
by_compute e z a b op (Some (Number m)) (Some (Number n)) None has = one_bound e (z ∷ a ∷ b ∷ []) z _ has (inl refl)
by_compute e z a b op u v w has = tt

by_compare : (e : Env) (xs : List ℕ) (cmp : Cmp) (u v : Option Value) → Binds e xs (compare e cmp u v)
by_compare e xs cmp (Some (Number m)) (Some (Number n)) = answers e xs 0 (holds cmp m n)
by_compare e xs cmp u v = tt

by_write : (e : Env) (xs : List ℕ) (after : ℕ) (bytes : List ℕ) (v w : Option Value) → value_at e after ≡ w → IsAmong after xs → Binds e xs (write e after bytes v w)
by_write e xs after bytes (Some v) None has among = one_bound e xs after _ has among
by_write e xs after bytes v w has among = tt

by_write_int : (e : Env) (xs : List ℕ) (after : ℕ) (u v w : Option Value) → value_at e after ≡ w → IsAmong after xs → Binds e xs (write_int e after u v w)
by_write_int e xs after (Some (Number n)) v w has among = by_write e xs after _ v w has among
by_write_int e xs after u v w has among = tt

by_write_text : (e : Env) (xs : List ℕ) (after : ℕ) (u v w : Option Value) → value_at e after ≡ w → IsAmong after xs → Binds e xs (write_text e after u v w)
by_write_text e xs after (Some (Literal bytes)) v w has among = by_write e xs after bytes v w has among
by_write_text e xs after u v w has among = tt

by_raise : (e : Env) (xs : List ℕ) (v : Option Value) → Binds e xs (raise v)
by_raise e xs (Some (Literal bytes)) = tt
by_raise e xs v = tt

by_simple : (s : Hlds) (e : Env) (g : Simple) → Binds e (simple_variables g) (run.simple s e g)
by_simple s e Succeeds = nothing_bound e []
by_simple s e Fails = tt
by_simple s e (Unifies x t) = by_term s e x t
by_simple s e (Computes z a op b) = by_compute e z a b op (value_at e a) (value_at e b) (value_at e z) refl
by_simple s e (Compares a cmp b) = by_compare e (a ∷ b ∷ []) cmp (value_at e a) (value_at e b)
by_simple s e (WritesInt x before after) = by_write_int e (x ∷ before ∷ after ∷ []) after (value_at e x) (value_at e before) (value_at e after) refl (inr (inr (inl refl)))
by_simple s e (WritesText x before after) = by_write_text e (x ∷ before ∷ after ∷ []) after (value_at e x) (value_at e before) (value_at e after) refl (inr (inr (inl refl)))
by_simple s e (EndsLine before after) = by_write e (before ∷ after ∷ []) after (10 ∷ []) (value_at e before) (value_at e after) refl (inr (inl refl))
by_simple s e (Raises x) = by_raise e (x ∷ []) (value_at e x)

mentioned : (l : ℕ) (g : Simple) (bs : List (ℕ × Value)) → AreAmong bs (simple_variables g) → AreMentioned bs (At l (SimpleGoal g))
mentioned l g [] among = tt
mentioned l g (b ∷ bs) among = (among.0, mentioned l g bs among.1)

-- a goal that succeeds writes the slots of these variables
pub record Written (l : ℕ) (g : Simple) (e d : Env) : Type 0 where
  pub bs : List (ℕ × Value)
  pub is : d ≡ bind_all bs e
  pub fresh : AreFresh bs e
  pub mentioned : AreMentioned bs (At l (SimpleGoal g))

pub simple_writes : (s : Hlds) (l : ℕ) (g : Simple) (e d : Env) (extra words : ℕ) (out : Option (List ℕ)) → run.simple s e g ≡ Go d extra words out → Written l g e d
simple_writes s l g e d extra words out is =
    let b : Bound e (simple_variables g) d = subst (Binds e (simple_variables g)) is (by_simple s e g) in record { bs = b.bs; is = b.is; fresh = b.fresh; mentioned = mentioned l g b.bs b.among }
