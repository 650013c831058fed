-- Functors and predicates by their names.
use Rattle.std.proofs.Common.{◌≡◌, refl, sym, ap, ◌∙◌, subst, arith, ℕ, suc, ◌+◌, Bool, true, false, ◌&&◌, cond, nat_eq, List, [], ◌∷◌, length, Option, Some, None, is_some, slice_get, bytes_eq}
use Rattle.std.proofs.lemmas.Bool.{and_parts, eqb-true}
use Rattle.md_hlds.specs.declared.goal.PredName.{PredName}
use Rattle.md_hlds.specs.Hlds.{HldsFunctor, HldsTypeDef, Procedure, Hlds, find_procedure, procedure_called, is_called, is_functor, unqualified_functor}
use Rattle.md_names.specs.Named.{construct_among, found_in, functor_found}
use Rattle.md_inst.specs.Named.{Functor, functor_with, functor_of, if_unqualified, functor_called, without_number, predicate_called}
use Rattle.md_names.proofs.Standing.{functor_there}

-- ---- functors

is_functor_of : (o : Option (HldsTypeDef × HldsFunctor)) → is_some o ≡ is_some (functor_of o)
is_functor_of None = refl
is_functor_of (Some f) = refl

unqualified : (s : Hlds) (q : Option (List ℕ)) (name : List ℕ) (arity : ℕ)
    → unqualified_functor s q name arity ≡ is_some (if_unqualified q (functor_of (functor_found name arity s.types)))
unqualified s None name arity = functor_there name arity s.types ∙ is_functor_of (functor_found name arity s.types)
unqualified s (Some m) name arity = refl

-- a name is one of a functor where the look-up finds one
pub functor_is : (s : Hlds) (q : PredName) (arity : ℕ) → is_functor s q arity ≡ is_some (functor_called s q arity)
functor_is s q arity = unqualified s q.qualifier q.name arity

-- the functor that was found
pub record IsFunctor (s : Hlds) (q : PredName) (arity : ℕ) (f : Functor) : Type 0 where
  pub with : HldsTypeDef × HldsFunctor
  pub found : functor_found q.name arity s.types ≡ Some with
  pub is : functor_with with ≡ f

found_with : (o : Option (HldsTypeDef × HldsFunctor)) (f : Functor) → functor_of o ≡ Some f → (w : HldsTypeDef × HldsFunctor) × (o ≡ Some w) × (functor_with w ≡ f)
found_with None f h = absurd (cc h)
found_with (Some w) f h = (w, refl, cc h)

found_unqualified : (q : Option (List ℕ)) (o : Option (HldsTypeDef × HldsFunctor)) (f : Functor) → if_unqualified q (functor_of o) ≡ Some f → (w : HldsTypeDef × HldsFunctor) × (o ≡ Some w) × (functor_with w ≡ f)
found_unqualified None o f h = found_with o f h
found_unqualified (Some m) o f h = absurd (cc h)

pub functor_found_by : (s : Hlds) (q : PredName) (arity : ℕ) (f : Functor) → functor_called s q arity ≡ Some f → IsFunctor s q arity f
functor_found_by s q arity f h =
    let w = found_unqualified q.qualifier (functor_found q.name arity s.types) f h in
    record { with = w.0; found = w.1; is = w.2 }

-- ---- arity

among_step : (arity : ℕ) (name : List ℕ) (g f : HldsFunctor) (b : Bool) (o : Option HldsFunctor) → (bytes_eq name g.name && nat_eq arity (length g.args)) ≡ b
    → (o ≡ Some f → length f.args ≡ arity) → cond b (Some g) o ≡ Some f → length f.args ≡ arity
among_step arity name g f true o e rest h =
    let same : arity ≡ length g.args = eqb-true arity (length g.args) (and_parts (bytes_eq name g.name) (nat_eq arity (length g.args)) e).1 in
    let is : g ≡ f = cc h in
    sym (same ∙ ap (λ (c : HldsFunctor). length c.args) is)
among_step arity name g f false o e rest h = rest h

among_arity : (name : List ℕ) (arity : ℕ) (fs : List HldsFunctor) (f : HldsFunctor) → construct_among name arity fs ≡ Some f → length f.args ≡ arity
among_arity name arity [] f h = absurd (cc h)
among_arity name arity (g ∷ fs) f h =
    among_step arity name g f (bytes_eq name g.name && nat_eq arity (length g.args)) (construct_among name arity fs) refl (λ e. among_arity name arity fs f e) h

found_step : (arity : ℕ) (t : HldsTypeDef) (w : HldsTypeDef × HldsFunctor) (o : Option HldsFunctor) (others : Option (HldsTypeDef × HldsFunctor))
    → ((f : HldsFunctor) → o ≡ Some f → length f.args ≡ arity) → (others ≡ Some w → length w.1.args ≡ arity) → found_in t o others ≡ Some w → length w.1.args ≡ arity
found_step arity t w (Some f) others first rest h =
    let is : ◌≡◌ {A = HldsTypeDef × HldsFunctor} (t, f) w = cc h in
    sym (ap (λ (z : HldsTypeDef × HldsFunctor). length z.1.args) is) ∙ first f refl
found_step arity t w None others first rest h = rest h

pub found_arity : (name : List ℕ) (arity : ℕ) (ts : List HldsTypeDef) (w : HldsTypeDef × HldsFunctor) → functor_found name arity ts ≡ Some w → length w.1.args ≡ arity
found_arity name arity [] w h = absurd (cc h)
found_arity name arity (t ∷ ts) w h =
    found_step arity t w (construct_among name arity t.functors) (functor_found name arity ts) (λ f e. among_arity name arity t.functors f e) (λ e. found_arity name arity ts w e) h

-- ---- predicates

find_step : (n : ℕ) (p : Procedure) (ps : List Procedure) (m : ℕ × Procedure) (b : Bool) (o : Option (ℕ × Procedure))
    → (o ≡ Some m → (k : ℕ) × (m.0 ≡ suc n + k) × (slice_get ps k ≡ Some m.1)) → cond b (Some (n, p)) o ≡ Some m
    → (k : ℕ) × (m.0 ≡ n + k) × (slice_get (p ∷ ps) k ≡ Some m.1)
find_step n p ps m true o rest h =
    let is : ◌≡◌ {A = ℕ × Procedure} (n, p) m = cc h in
    (0, sym (ap (λ (z : ℕ × Procedure). z.0) is) ∙ (let e : n ≡ n + 0 = omega arith in e), ap (λ (z : ℕ × Procedure). Some z.1) is)
find_step n p ps m false o rest h =
    let found = rest h in
    (suc found.0, found.1 ∙ (let e : suc n + found.0 ≡ n + suc found.0 = omega arith in e), found.2)

-- a name's number is the place of its procedure
pub find_at : (q : PredName) (n : ℕ) (ps : List Procedure) (m : ℕ × Procedure) → find_procedure q n ps ≡ Some m → (k : ℕ) × (m.0 ≡ n + k) × (slice_get ps k ≡ Some m.1)
find_at q n [] m h = absurd (cc h)
find_at q n (p ∷ ps) m h = find_step n p ps m (is_called q p) (find_procedure q (suc n) ps) (λ e. find_at q (suc n) ps m e) h

pub called_at : (s : Hlds) (q : PredName) (m : ℕ × Procedure) → procedure_called s q ≡ Some m → slice_get s.procedures m.0 ≡ Some m.1
called_at s q m h =
    let at = find_at q 0 s.procedures m h in
    let same : m.0 ≡ at.0 = at.1 ∙ (let e : 0 + at.0 ≡ at.0 = omega arith in e) in
    subst (λ (k : ℕ). slice_get s.procedures k ≡ Some m.1) (sym same) at.2

numbered_is : (o : Option (ℕ × Procedure)) (p : Procedure) → without_number o ≡ Some p → (n : ℕ) × (o ≡ Some (n, p))
numbered_is None p h = absurd (cc h)
numbered_is (Some m) p h =
    let is : m.1 ≡ p = cc h in
    (m.0, subst (λ (r : Procedure). Some m ≡ Some (m.0, r)) is refl)

-- the procedure that a name calls, with its number
pub predicate_number : (s : Hlds) (q : PredName) (p : Procedure) → predicate_called s q ≡ Some p → (n : ℕ) × (procedure_called s q ≡ Some (n, p))
predicate_number s q p h = numbered_is (procedure_called s q) p h
