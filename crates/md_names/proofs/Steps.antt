-- One more predicate, functor or type in front of those that a map or a set has.
use Rattle.std.proofs.Common.{◌≡◌, refl, ap, ◌∙◌, sym, subst, ℕ, suc, ◌<◌, List, [], ◌∷◌, length, drop, Bool, true, false, cond, ◌&&◌, Option, Some, None, nat_eq, get_or, Bor}
use Rattle.std.proofs.Math.Seq.{drop-cons}
use Rattle.std.specs.Map.{lookup}
use Rattle.std.specs.Option.{option_eq}
use Rattle.std.specs.Cmp.Lexicographic.{pointwise}
use Rattle.std.specs.Str.{bytes_eq}
use Rattle.indexmap.specs.IndexMap.{insert_entry}
use Rattle.md_hlds.specs.declared.program.Functor.{Functor}
use Rattle.md_hlds.specs.declared.program.Pred.{Pred}
use Rattle.md_hlds.specs.declared.program.TypeDef.{TypeDef}
use Rattle.md_hlds.specs.declared.goal.PredName.{PredName}
use Rattle.md_hlds.specs.declared.types.Ty.{Ty}
use Rattle.md_hlds.specs.Hlds.{HldsFunctor, HldsTypeDef, Procedure, hlds_functor_of, hlds_functors_of, type_def_of, type_defs_of, hlds_types_of, procedure_of, procedures_of, find_procedure, is_called, same_qualifier}
use Rattle.md_names.specs.declared.functors.Declared.{Declared}
use Rattle.md_names.specs.declared.key.FunctorKey.{FunctorKey}
use Rattle.md_names.specs.declared.key.PredicateKey.{PredicateKey}
use Rattle.md_names.specs.Named.{construct_among, found_in}
use Rattle.md_names.specs.Maps.{functor_told, is_functor_key, predicate_told, slice_now, is_predicate_key}
use Rattle.md_names.proofs.Lookups.{Fits, both, text_is, text_same, number_is, number_same, pointwise-bytes_eq, lookup-insert}

-- ---- functors

abbrev pub same_functor : FunctorKey → FunctorKey → Bool
same_functor a b = pointwise nat_eq a.name.now b.name.now && nat_eq a.arity b.arity

functor_alike : (name : List ℕ) (arity : ℕ) (a e : FunctorKey) → same_functor a e ≡ true → is_functor_key name arity a ≡ is_functor_key name arity e
functor_alike name arity a e same =
    let parts = both (pointwise nat_eq a.name.now e.name.now) (nat_eq a.arity e.arity) same in
    rw (text_is a.name.now e.name.now parts.0, number_is a.arity e.arity parts.1) refl

functor_apart : (name : List ℕ) (arity : ℕ) (a e : FunctorKey) → same_functor a e ≡ false → is_functor_key name arity a ≡ true → is_functor_key name arity e ≡ true → ⊥
functor_apart name arity a e differ one other =
    let p = both (pointwise nat_eq name a.name.now) (nat_eq arity a.arity) one in
    let q = both (pointwise nat_eq name e.name.now) (nat_eq arity e.arity) other in
    let names : a.name.now ≡ e.name.now = sym (text_is name a.name.now p.0) ∙ text_is name e.name.now q.0 in
    let arities : a.arity ≡ e.arity = sym (number_is arity a.arity p.1) ∙ number_is arity e.arity q.1 in
    let same : same_functor a e ≡ true
    = subst (λ (xs : List ℕ). (pointwise nat_eq a.name.now xs && nat_eq a.arity e.arity) ≡ true) names
    (subst (λ (n : ℕ). (pointwise nat_eq a.name.now a.name.now && nat_eq a.arity n) ≡ true) arities
    (rw (text_same a.name.now, number_same a.arity) refl)) in
    cc

pub functor_fits : (name : List ℕ) (arity : ℕ) (a : FunctorKey) → Fits (is_functor_key name arity) same_functor a
functor_fits name arity a = record { alike = functor_alike name arity a; apart = functor_apart name arity a }

told_cond : (b : Bool) (v : Declared) (r : Option Declared)
    → functor_told (cond b (Some v) r) ≡ cond b (functor_told (Some v)) (functor_told r)
told_cond true v r = refl
told_cond false v r = refl

length-hlds_types_of : (ts : List Ty) → length (hlds_types_of ts) ≡ length ts
length-hlds_types_of [] = refl
length-hlds_types_of (t ∷ ts) = ap suc (length-hlds_types_of ts)

found_cond : (b : Bool) (t : ℕ × HldsTypeDef) (f : HldsFunctor) (r : Option HldsFunctor) (others : Option ((ℕ × HldsTypeDef) × HldsFunctor))
    → found_in t (cond b (Some f) r) others ≡ cond b (Some (t, f)) (found_in t r others)
found_cond true t f r others = refl
found_cond false t f r others = refl

pub constructs-step : (fs : List Functor) (i n : ℕ) (f : Functor) → n ≡ suc i → i < length fs → f ≡ get_or fs i f
    → hlds_functors_of (drop i fs) ≡ hlds_functor_of f ∷ hlds_functors_of (drop n fs)
constructs-step fs i n f at lt is =
    let front : drop i fs ≡ f ∷ drop (suc i) fs = drop-cons fs i f lt ∙ ap (λ (x : Functor). x ∷ drop (suc i) fs) (sym is) in
    rw (at, front) refl

-- what a map has after a functor of a type is put in
pub functor_put : (name : List ℕ) (arity : ℕ) (es : List (FunctorKey × Declared)) (key : FunctorKey) (d : Declared)
    (fs : List Functor) (others : Option ((ℕ × HldsTypeDef) × HldsFunctor))
    → key.name.now ≡ d.functor.now.name → key.arity ≡ length d.functor.now.args.items
    → functor_told (lookup (is_functor_key name arity) es) ≡ found_in (d.place, type_def_of d.family.now) (construct_among name arity (hlds_functors_of fs)) others
    → functor_told (lookup (is_functor_key name arity) (insert_entry same_functor es key d))
    ≡ found_in (d.place, type_def_of d.family.now) (construct_among name arity (hlds_functor_of d.functor.now ∷ hlds_functors_of fs)) others
functor_put name arity es key d fs others named counted had =
    let f = d.functor.now in
    let t : ℕ × HldsTypeDef = (d.place, type_def_of d.family.now) in
    let passes : is_functor_key name arity key ≡ (bytes_eq name f.name && nat_eq arity (length (hlds_types_of f.args.items)))
    = ap (λ (xs : List ℕ). pointwise nat_eq name xs && nat_eq arity key.arity) named
    ∙ (ap (λ (b : Bool). b && nat_eq arity key.arity) (pointwise-bytes_eq name f.name)
    ∙ ap (λ (n : ℕ). bytes_eq name f.name && nat_eq arity n) (counted ∙ sym (length-hlds_types_of f.args.items))) in
    ap functor_told (lookup-insert (is_functor_key name arity) same_functor key d es (functor_fits name arity key))
    ∙ (told_cond (is_functor_key name arity key) d (lookup (is_functor_key name arity) es)
    ∙ (ap (λ (r : Option ((ℕ × HldsTypeDef) × HldsFunctor)). cond (is_functor_key name arity key) (Some (t, hlds_functor_of f)) r) had
    ∙ (ap (λ (b : Bool). cond b (Some (t, hlds_functor_of f)) (found_in t (construct_among name arity (hlds_functors_of fs)) others)) passes
    ∙ sym (found_cond (bytes_eq name f.name && nat_eq arity (length (hlds_types_of f.args.items))) t (hlds_functor_of f) (construct_among name arity (hlds_functors_of fs)) others))))

-- ---- predicates

abbrev pub same_predicate : PredicateKey → PredicateKey → Bool
same_predicate a b = option_eq (λ (x : Bor (List ℕ)) (y : Bor (List ℕ)). pointwise nat_eq x.now y.now) a.qualifier b.qualifier && pointwise nat_eq a.name.now b.name.now

abbrev same_slice : Option (Bor (List ℕ)) → Option (Bor (List ℕ)) → Bool
same_slice = option_eq (λ (x : Bor (List ℕ)) (y : Bor (List ℕ)). pointwise nat_eq x.now y.now)

slice_is : (a b : Option (Bor (List ℕ))) → same_slice a b ≡ true → slice_now a ≡ slice_now b
slice_is None None h = refl
slice_is None (Some y) h = absurd (cc)
slice_is (Some x) None h = absurd (cc)
slice_is (Some x) (Some y) h = ap Some (text_is x.now y.now h)

slice_same : (a b : Option (Bor (List ℕ))) → same_slice a b ≡ same_qualifier (slice_now a) (slice_now b)
slice_same None None = refl
slice_same None (Some y) = refl
slice_same (Some x) None = refl
slice_same (Some x) (Some y) = pointwise-bytes_eq x.now y.now

qualifier_is : (a b : Option (List ℕ)) → same_qualifier a b ≡ true → a ≡ b
qualifier_is None None h = refl
qualifier_is None (Some y) h = absurd (cc)
qualifier_is (Some x) None h = absurd (cc)
qualifier_is (Some x) (Some y) h = ap Some (text_is x y (pointwise-bytes_eq x y ∙ h))

bytes_same : (xs : List ℕ) → bytes_eq xs xs ≡ true
bytes_same xs = sym (pointwise-bytes_eq xs xs) ∙ text_same xs

qualifier_same : (a : Option (List ℕ)) → same_qualifier a a ≡ true
qualifier_same None = refl
qualifier_same (Some x) = bytes_same x

-- two keys are one by their contents
contents_same : (a b : PredicateKey) → same_predicate a b ≡ (same_qualifier (slice_now a.qualifier) (slice_now b.qualifier) && bytes_eq a.name.now b.name.now)
contents_same a b = rw (slice_same a.qualifier b.qualifier, pointwise-bytes_eq a.name.now b.name.now) refl

predicate_alike : (q : PredName) (a e : PredicateKey) → same_predicate a e ≡ true → is_predicate_key q a ≡ is_predicate_key q e
predicate_alike q a e same =
    let parts = both (same_slice a.qualifier e.qualifier) (pointwise nat_eq a.name.now e.name.now) same in
    rw (slice_is a.qualifier e.qualifier parts.0, text_is a.name.now e.name.now parts.1) refl

predicate_apart : (q : PredName) (a e : PredicateKey) → same_predicate a e ≡ false → is_predicate_key q a ≡ true → is_predicate_key q e ≡ true → ⊥
predicate_apart q a e differ one other =
    let p = both (same_qualifier q.qualifier (slice_now a.qualifier)) (bytes_eq q.name a.name.now) one in
    let r = both (same_qualifier q.qualifier (slice_now e.qualifier)) (bytes_eq q.name e.name.now) other in
    let modules : slice_now a.qualifier ≡ slice_now e.qualifier
    = sym (qualifier_is q.qualifier (slice_now a.qualifier) p.0) ∙ qualifier_is q.qualifier (slice_now e.qualifier) r.0 in
    let names : a.name.now ≡ e.name.now
    = sym (text_is q.name a.name.now (pointwise-bytes_eq q.name a.name.now ∙ p.1)) ∙ text_is q.name e.name.now (pointwise-bytes_eq q.name e.name.now ∙ r.1) in
    let same : same_predicate a e ≡ true
    = contents_same a e
    ∙ subst (λ (xs : List ℕ). (same_qualifier (slice_now a.qualifier) (slice_now e.qualifier) && bytes_eq a.name.now xs) ≡ true) names
    (subst (λ (m : Option (List ℕ)). (same_qualifier (slice_now a.qualifier) m && bytes_eq a.name.now a.name.now) ≡ true) modules
    (rw (qualifier_same (slice_now a.qualifier), bytes_same a.name.now) refl)) in
    cc

pub predicate_fits : (q : PredName) (a : PredicateKey) → Fits (is_predicate_key q) same_predicate a
predicate_fits q a = record { alike = predicate_alike q a; apart = predicate_apart q a }

predicate_told_cond : (b : Bool) (v : ℕ × Bor Pred) (r : Option (ℕ × Bor Pred)) → predicate_told (cond b (Some v) r) ≡ cond b (predicate_told (Some v)) (predicate_told r)
predicate_told_cond true v r = refl
predicate_told_cond false v r = refl

-- what a map has after a predicate is put in
pub predicate_put : (q : PredName) (es : List (PredicateKey × (ℕ × Bor Pred))) (key : PredicateKey) (ps : List Pred) (i n : ℕ) (p : Bor Pred)
    → n ≡ suc i → i < length ps → p.now ≡ get_or ps i p.now
    → slice_now key.qualifier ≡ p.now.qualifier → key.name.now ≡ p.now.name
    → predicate_told (lookup (is_predicate_key q) es) ≡ find_procedure q n (procedures_of (drop n ps))
    → predicate_told (lookup (is_predicate_key q) (insert_entry same_predicate es key (i, p))) ≡ find_procedure q i (procedures_of (drop i ps))
predicate_put q es key ps i n p at lt is module' name had =
    let front : drop i ps ≡ p.now ∷ drop (suc i) ps = drop-cons ps i p.now lt ∙ ap (λ (x : Pred). x ∷ drop (suc i) ps) (sym is) in
    let passes : is_predicate_key q key ≡ is_called q (procedure_of p.now)
    = ap (λ (m : Option (List ℕ)). same_qualifier q.qualifier m && bytes_eq q.name key.name.now) module'
    ∙ ap (λ (xs : List ℕ). same_qualifier q.qualifier p.now.qualifier && bytes_eq q.name xs) name in
    ap predicate_told (lookup-insert (is_predicate_key q) same_predicate key (i, p) es (predicate_fits q key))
    ∙ (predicate_told_cond (is_predicate_key q key) (i, p) (lookup (is_predicate_key q) es)
    ∙ (ap (λ (r : Option (ℕ × Procedure)). cond (is_predicate_key q key) (Some (i, procedure_of p.now)) r) had
    ∙ (ap (λ (b : Bool). cond b (Some (i, procedure_of p.now)) (find_procedure q n (procedures_of (drop n ps)))) passes
    ∙ rw (front, at) refl)))

-- a look-up by a key of that name
pub key_test : (q : PredName) (key : PredicateKey) (e : PredicateKey) → slice_now key.qualifier ≡ q.qualifier → key.name.now ≡ q.name
    → same_predicate key e ≡ is_predicate_key q e
key_test q key e module' name = contents_same key e ∙ rw (module', name) refl

-- ---- types

abbrev pub same_bytes : Bor (List ℕ) → Bor (List ℕ) → Bool
same_bytes a b = pointwise nat_eq a.now b.now

text_alike : (name : List ℕ) (a e : Bor (List ℕ)) → same_bytes a e ≡ true → pointwise nat_eq name a.now ≡ pointwise nat_eq name e.now
text_alike name a e same = ap (pointwise nat_eq name) (text_is a.now e.now same)

text_apart : (name : List ℕ) (a e : Bor (List ℕ)) → same_bytes a e ≡ false → pointwise nat_eq name a.now ≡ true → pointwise nat_eq name e.now ≡ true → ⊥
text_apart name a e differ one other =
    let same : same_bytes a e ≡ true
    = subst (λ (xs : List ℕ). pointwise nat_eq a.now xs ≡ true) (sym (text_is name a.now one) ∙ text_is name e.now other) (text_same a.now) in
    cc

pub text_fits : (name : List ℕ) (a : Bor (List ℕ)) → Fits (λ (k : Bor (List ℕ)). pointwise nat_eq name k.now) same_bytes a
text_fits name a = record { alike = text_alike name a; apart = text_apart name a }

pub families-step : (ts : List TypeDef) (i n : ℕ) (t : TypeDef) → n ≡ suc i → i < length ts → t ≡ get_or ts i t
    → type_defs_of (drop i ts) ≡ type_def_of t ∷ type_defs_of (drop n ts)
families-step ts i n t at lt is =
    let front : drop i ts ≡ t ∷ drop (suc i) ts = drop-cons ts i t lt ∙ ap (λ (x : TypeDef). x ∷ drop (suc i) ts) (sym is) in
    rw (at, front) refl
