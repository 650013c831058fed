-- What a name stands for: types and functors. (Predicates: `procedure_called` of md_hlds.)
use Rattle.std.specs.Prelude.{ℕ, suc, Bool, true, false, ◌&&◌, ◌||◌, List, [], ◌∷◌, length, Option, Some, None, cond, nat_eq}
use Rattle.std.specs.Str.{bytes_eq}
use Rattle.md_hlds.specs.declared.goal.PredName.{PredName}
use Rattle.md_hlds.specs.declared.goal.Term.{Term}
use Rattle.md_hlds.specs.declared.goal.Term.TheVariants.{Var, Int, Str, Name}
use Rattle.md_hlds.specs.HldsGoal.{Simple, Unifies, HldsGoal, At, GoalExpr, SimpleGoal, CallGoal}
use Rattle.md_hlds.specs.Hlds.{HldsFunctor, HldsTypeDef, Hlds, Procedure, procedure_called, goal_at}
use Rattle.md_names.specs.declared.named.Named.{Named}
use Rattle.md_names.specs.declared.named.Named.TheVariants.{Functor, Predicate, Nothing}

-- a type of that name is declared
abbrev pub is_type : List ℕ → List HldsTypeDef → Bool
is_type name [] = false
is_type name (t ∷ ts) = bytes_eq name t.name || is_type name ts

-- a functor has that name, whatever its arity
abbrev pub has_name : List ℕ → List HldsFunctor → Bool
has_name name [] = false
has_name name (f ∷ fs) = bytes_eq name f.name || has_name name fs

abbrev pub some_has_name : List ℕ → List HldsTypeDef → Bool
some_has_name name [] = false
some_has_name name (t ∷ ts) = has_name name t.functors || some_has_name name ts

-- the functor of that name and arity among those of a type
abbrev pub construct_among : List ℕ → ℕ → List HldsFunctor → Option HldsFunctor
construct_among name arity [] = None
construct_among name arity (f ∷ fs) =
    cond (bytes_eq name f.name && nat_eq arity (length f.args)) (Some f) (construct_among name arity fs)

-- a functor with its type, where there is one, and otherwise what was found elsewhere
abbrev pub found_in : {T : Type 0} → T → Option HldsFunctor → Option (T × HldsFunctor) → Option (T × HldsFunctor)
found_in t (Some f) others = Some (t, f)
found_in t None others = others

-- the first functor of that name and arity, with its type
abbrev pub functor_found : List ℕ → ℕ → List HldsTypeDef → Option (HldsTypeDef × HldsFunctor)
functor_found name arity [] = None
functor_found name arity (t ∷ ts) = found_in t (construct_among name arity t.functors) (functor_found name arity ts)

-- the same with the number of the type, of which the first has the number n
abbrev pub functor_placed : List ℕ → ℕ → ℕ → List HldsTypeDef → Option ((ℕ × HldsTypeDef) × HldsFunctor)
functor_placed name arity n [] = None
functor_placed name arity n (t ∷ ts) = found_in (n, t) (construct_among name arity t.functors) (functor_placed name arity (suc n) ts)

-- ---- names in goals

abbrev pub named_predicate : Option (ℕ × Procedure) → Named
named_predicate None = Nothing
named_predicate (Some q) = Predicate q.0

-- what the name of a call stands for
abbrev pub named_call : Hlds → PredName → Named
named_call s q = named_predicate (procedure_called s q)

-- a functor, where one was found, and otherwise something else
abbrev pub functor_or : Option ((ℕ × HldsTypeDef) × HldsFunctor) → Named → Named
functor_or None other = other
functor_or (Some f) other = Functor f.0.0

abbrev pub if_qualified : Option (List ℕ) → (qualified plain : Named) → Named
if_qualified None qualified plain = plain
if_qualified (Some m) qualified plain = qualified

-- what a name with so many arguments stands for in a term: an unqualified one is a functor where a type declares it, and any
-- other a predicate
abbrev pub named_term : Hlds → PredName → ℕ → Named
named_term s q arity = if_qualified q.qualifier (named_call s q) (functor_or (functor_placed q.name arity 0 s.types) (named_call s q))

-- what the name in a term stands for; a variable, an integer and a string have none
abbrev pub term_name : Hlds → Term → Named
term_name s (Var y) = Nothing
term_name s (Int n) = Nothing
term_name s (Str bytes) = Nothing
term_name s (Name q ys) = named_term s q (length ys)

abbrev pub simple_name : Hlds → Simple → Named
simple_name s (Unifies x t) = term_name s t
simple_name s g = Nothing

-- what the name in a goal stands for: that of the term of a unification, or that of a call
abbrev pub expr_name : Hlds → GoalExpr → Named
expr_name s (SimpleGoal g) = simple_name s g
expr_name s (CallGoal site q ys) = named_call s q
expr_name s t = Nothing

abbrev pub goal_name : Hlds → HldsGoal → Named
goal_name s (At l t) = expr_name s t

abbrev pub name_of : Hlds → Option HldsGoal → Named
name_of s None = Nothing
name_of s (Some p) = goal_name s p

-- what the name in the goal of this number stands for
abbrev pub name_at : Hlds → ℕ → Named
name_at s n = name_of s (goal_at s n)

abbrev pub is_functor_name : Named → Bool
is_functor_name (Functor k) = true
is_functor_name (Predicate q) = false
is_functor_name Nothing = false
