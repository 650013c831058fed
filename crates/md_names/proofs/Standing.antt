-- Functors by their names, as the definitions of terms and of switches and those of look-ups have them.
use Rattle.std.proofs.Common.{◌≡◌, refl, ap, ◌∙◌, sym, arith, ℕ, zero, suc, ◌+◌, ◌≤◌, Bool, true, false, cond, ◌&&◌, List, [], ◌∷◌, length, Option, Some, None, nat_eq, slice_get}
use Rattle.std.specs.Prelude.{is_some}
use Rattle.std.specs.Str.{bytes_eq}
use Rattle.md_hlds.specs.declared.goal.PredName.{PredName}
use Rattle.md_hlds.specs.Hlds.{HldsFunctor, HldsTypeDef, Hlds, Procedure, declares_functor, has_functor, is_functor, unqualified_functor, find_procedure, is_called, nth_procedure, numbered, procedure_called}
use Rattle.md_names.specs.declared.named.Named.TheVariants.{Functor, Predicate, Nothing}
use Rattle.md_names.specs.Named.{construct_among, found_in, functor_found, functor_placed, named_predicate, named_call, functor_or, if_qualified, named_term, is_functor_name}
use Rattle.md_names.proofs.Placed.{without_place, without_place_is}

among_cond : (b : Bool) (f : HldsFunctor) (r : Option HldsFunctor) (x : Bool) → x ≡ is_some r → cond b true x ≡ is_some (cond b (Some f) r)
among_cond true f r x e = refl
among_cond false f r x e = e

pub declares_functor-among : (name : List ℕ) (arity : ℕ) (fs : List HldsFunctor) → declares_functor name arity fs ≡ is_some (construct_among name arity fs)
declares_functor-among name arity [] = refl
declares_functor-among name arity (f ∷ fs) =
    among_cond (bytes_eq name f.name && nat_eq arity (length f.args)) f (construct_among name arity fs) (declares_functor name arity fs)
    (declares_functor-among name arity fs)

found_cond : (t : HldsTypeDef) (r : Option HldsFunctor) (others : Option (HldsTypeDef × HldsFunctor)) (x y : Bool) → x ≡ is_some r → y ≡ is_some others
    → cond x true y ≡ is_some (found_in t r others)
found_cond t None others x y e f = rw (e, f) refl
found_cond t (Some g) others x y e f = rw e refl

-- there is a functor where the look-up finds one
pub functor_there : (name : List ℕ) (arity : ℕ) (ts : List HldsTypeDef) → has_functor name arity ts ≡ is_some (functor_found name arity ts)
functor_there name arity [] = refl
functor_there name arity (t ∷ ts) =
    found_cond t (construct_among name arity t.functors) (functor_found name arity ts) _ _ (declares_functor-among name arity t.functors) (functor_there name arity ts)

-- ---- names in terms

predicate_name : (q : Option (ℕ × Procedure)) → is_functor_name (named_predicate q) ≡ false
predicate_name None = refl
predicate_name (Some q) = refl

functor_name : (f : Option ((ℕ × HldsTypeDef) × HldsFunctor)) (q : Option (ℕ × Procedure)) → is_some (without_place f) ≡ is_functor_name (functor_or f (named_predicate q))
functor_name None q = sym (predicate_name q)
functor_name (Some f) q = refl

qualified_name : (s : Hlds) (m : Option (List ℕ)) (name : List ℕ) (arity : ℕ) (q : Option (ℕ × Procedure))
    → unqualified_functor s m name arity ≡ is_functor_name (if_qualified m (named_predicate q) (functor_or (functor_placed name arity 0 s.types) (named_predicate q)))
qualified_name s None name arity q =
    functor_there name arity s.types
    ∙ (ap (λ (f : Option (HldsTypeDef × HldsFunctor)). is_some f) (without_place_is name arity 0 s.types) ∙ functor_name (functor_placed name arity 0 s.types) q)
qualified_name s (Some m) name arity q = sym (predicate_name q)

-- a term is a functor where its name stands for one
pub functor_named : (s : Hlds) (q : PredName) (arity : ℕ) → is_functor s q arity ≡ is_functor_name (named_term s q arity)
functor_named s q arity = qualified_name s q.qualifier q.name arity (procedure_called s q)

-- ---- types by their numbers

abbrev pub family_found : Option (HldsTypeDef × HldsFunctor) → Option HldsTypeDef
family_found None = None
family_found (Some f) = Some f.0

abbrev number_in : Option ((ℕ × HldsTypeDef) × HldsFunctor) → Option ℕ
number_in None = None
number_in (Some f) = Some f.0.0

number_above : (name : List ℕ) (arity n : ℕ) (ts : List HldsTypeDef) (k : ℕ) → number_in (functor_placed name arity n ts) ≡ Some k → n ≤ k
number_above name arity n [] k e = absurd (cc)
number_above name arity n (t ∷ ts) k e = here (construct_among name arity t.functors) (λ f. number_above name arity (suc n) ts k f) e
  where
    here : (f : Option HldsFunctor) → (number_in (functor_placed name arity (suc n) ts) ≡ Some k → suc n ≤ k)
        → number_in (found_in (n, t) f (functor_placed name arity (suc n) ts)) ≡ Some k → n ≤ k
    here None later e = let after : suc n ≤ k = later e in omega (arith, after)
    here (Some f) later e = let same : n ≡ k = cc in omega (arith, same)

placed_there : (name : List ℕ) (arity n : ℕ) (ts : List HldsTypeDef) (m k : ℕ) → k ≡ n + m → number_in (functor_placed name arity n ts) ≡ Some k
    → slice_get ts m ≡ family_found (functor_found name arity ts)
placed_there name arity n [] m k at e = absurd (cc)
placed_there name arity n (t ∷ ts) zero k at e = here (construct_among name arity t.functors) e
  where
    here : (f : Option HldsFunctor) → number_in (found_in (n, t) f (functor_placed name arity (suc n) ts)) ≡ Some k
        → Some t ≡ family_found (found_in t f (functor_found name arity ts))
    here None e = let after : suc n ≤ k = number_above name arity (suc n) ts k e in absurd (omega (arith, at, after))
    here (Some f) e = refl
placed_there name arity n (t ∷ ts) (suc m) k at e = here (construct_among name arity t.functors) (λ f. placed_there name arity (suc n) ts m k (omega (arith, at)) f) e
  where
    here : (f : Option HldsFunctor) → (number_in (functor_placed name arity (suc n) ts) ≡ Some k → slice_get ts m ≡ family_found (functor_found name arity ts))
        → number_in (found_in (n, t) f (functor_placed name arity (suc n) ts)) ≡ Some k → slice_get ts m ≡ family_found (found_in t f (functor_found name arity ts))
    here None later e = later e
    here (Some f) later e = let same : n ≡ k = cc in absurd (omega (arith, at, same))

functor_number : (f : Option ((ℕ × HldsTypeDef) × HldsFunctor)) (q : Option (ℕ × Procedure)) (k : ℕ) → functor_or f (named_predicate q) ≡ Functor k → number_in f ≡ Some k
functor_number None None k e = absurd (cc)
functor_number None (Some q) k e = absurd (cc)
functor_number (Some f) q k e = let same : f.0.0 ≡ k = cc in ap Some same

no_functor : (q : Option (ℕ × Procedure)) (k : ℕ) → named_predicate q ≡ Functor k → ⊥
no_functor None k e = absurd (cc)
no_functor (Some q) k e = absurd (cc)

type_by : (s : Hlds) (m : Option (List ℕ)) (name : List ℕ) (arity : ℕ) (q : Option (ℕ × Procedure)) (k : ℕ)
    → if_qualified m (named_predicate q) (functor_or (functor_placed name arity 0 s.types) (named_predicate q)) ≡ Functor k
    → slice_get s.types k ≡ family_found (functor_found name arity s.types)
type_by s None name arity q k e = placed_there name arity 0 s.types k k (omega arith) (functor_number (functor_placed name arity 0 s.types) q k e)
type_by s (Some m) name arity q k e = absurd (no_functor q k e)

-- the type of a functor's number is that of the functor which the look-up finds
pub type_named : (s : Hlds) (q : PredName) (arity k : ℕ) → named_term s q arity ≡ Functor k → slice_get s.types k ≡ family_found (functor_found q.name arity s.types)
type_named s q arity k e = type_by s q.qualifier q.name arity (procedure_called s q) k e

-- ---- procedures by their numbers

abbrev pub number_of : Option (ℕ × Procedure) → Option ℕ
number_of None = None
number_of (Some q) = Some q.0

number_from : (name : PredName) (n : ℕ) (ps : List Procedure) (k : ℕ) → number_of (find_procedure name n ps) ≡ Some k → n ≤ k
number_from name n [] k e = absurd (cc)
number_from name n (p ∷ ps) k e = here (is_called name p) (λ f. number_from name (suc n) ps k f) e
  where
    here : (b : Bool) → (number_of (find_procedure name (suc n) ps) ≡ Some k → suc n ≤ k)
        → number_of (cond b (Some (n, p)) (find_procedure name (suc n) ps)) ≡ Some k → n ≤ k
    here true later e = let same : n ≡ k = cc in omega (arith, same)
    here false later e = let after : suc n ≤ k = later e in omega (arith, after)

found_there : (name : PredName) (n : ℕ) (ps : List Procedure) (m k : ℕ) → k ≡ n + m → number_of (find_procedure name n ps) ≡ Some k
    → numbered k (slice_get ps m) ≡ find_procedure name n ps
found_there name n [] m k at e = absurd (cc)
found_there name n (p ∷ ps) zero k at e = here (is_called name p) e
  where
    here : (b : Bool) → number_of (cond b (Some (n, p)) (find_procedure name (suc n) ps)) ≡ Some k → Some (k, p) ≡ cond b (Some (n, p)) (find_procedure name (suc n) ps)
    here true e = let same : k ≡ n = cc in ap (λ i. Some (i, p)) same
    here false e = let after : suc n ≤ k = number_from name (suc n) ps k e in absurd (omega (arith, at, after))
found_there name n (p ∷ ps) (suc m) k at e = here (is_called name p) (λ f. found_there name (suc n) ps m k (omega (arith, at)) f) e
  where
    here : (b : Bool) → (number_of (find_procedure name (suc n) ps) ≡ Some k → numbered k (slice_get ps m) ≡ find_procedure name (suc n) ps)
        → number_of (cond b (Some (n, p)) (find_procedure name (suc n) ps)) ≡ Some k
        → numbered k (slice_get ps m) ≡ cond b (Some (n, p)) (find_procedure name (suc n) ps)
    here true later e = let same : k ≡ n = cc in absurd (omega (arith, at, same))
    here false later e = later e

-- the procedure of the number that a name has is the one that the name stands for
pub procedure_there : (s : Hlds) (name : PredName) (k : ℕ) → number_of (procedure_called s name) ≡ Some k → nth_procedure s k ≡ procedure_called s name
procedure_there s name k e = found_there name 0 s.procedures k k (omega arith) e

predicate_number : (q : Option (ℕ × Procedure)) (k : ℕ) → named_predicate q ≡ Predicate k → number_of q ≡ Some k
predicate_number None k e = absurd (cc)
predicate_number (Some q) k e = let same : q.0 ≡ k = cc in ap Some same

pub call_named : (s : Hlds) (name : PredName) (k : ℕ) → named_call s name ≡ Predicate k → nth_procedure s k ≡ procedure_called s name
call_named s name k e = procedure_there s name k (predicate_number (procedure_called s name) k e)

-- a call that stands for nothing has no procedure
missing : (q : Option (ℕ × Procedure)) → named_predicate q ≡ Nothing → q ≡ None
missing None e = refl
missing (Some q) e = absurd (cc)

pub call_missing : (s : Hlds) (name : PredName) → named_call s name ≡ Nothing → procedure_called s name ≡ None
call_missing s name e = missing (procedure_called s name) e

pub call_no_functor : (s : Hlds) (name : PredName) (k : ℕ) → named_call s name ≡ Functor k → ⊥
call_no_functor s name k e = no_functor (procedure_called s name) k e
