-- Functors and literals by their numbers.
use Rattle.std.proofs.Common.{◌≡◌, refl, ap, ◌∙◌, sym, arith, rules, ℕ, suc, ◌+◌, ◌<◌, ◌≤◌, List, [], ◌∷◌, ◌++◌, length, drop, Bool, true, false, cond, not, ◌&&◌, ◌||◌, Option, Some, None, nat_eq, get_or, Bor, Vec, drop-cons, add-one, length-append}
use Rattle.std.specs.Prelude.{is_some, nat_lt, position, unwrap_or}
use Rattle.std.specs.declared.alloc.Global.{Global}
use Rattle.std.specs.List.{list_any, position_or_len}
use Rattle.std.specs.Map.{lookup}
use Rattle.std.specs.Cmp.Lexicographic.{pointwise, same_text}
use Rattle.std.specs.Str.{bytes_eq}
use Rattle.std.proofs.lemmas.List.Recursion.{is_position_or_len}
use Rattle.indexmap.specs.IndexMap.{insert_entry}
use Rattle.indexmap.specs.IndexSet.{insert_key}
use Rattle.md_hlds.specs.declared.goal.Goal.{Goal}
use Rattle.md_hlds.specs.declared.goal.GoalKind.{GoalKind, Conj, Disj}
use Rattle.md_hlds.specs.declared.program.Functor.{Functor}
use Rattle.md_hlds.specs.declared.program.TypeDef.{TypeDef}
use Rattle.md_hlds.specs.declared.types.Ty.{Ty}
use Rattle.md_hlds.specs.HldsGoal.{expr_of, goals_of, gathered}
use Rattle.md_hlds.specs.Hlds.{HldsFunctor, hlds_functor_of, hlds_functors_of, hlds_types_of, type_defs_of}
use Rattle.md_hlds.proofs.Bridge.{expr_of-Conj, expr_of-Disj}
use Rattle.md_names.specs.declared.key.FunctorKey.{FunctorKey}
use Rattle.md_names.specs.Maps.{is_functor_key}
use Rattle.md_code.specs.Tables.{is_named, functors_among, functor_place, literal_place, with_literal, with_expr, with_goals}
use Rattle.md_code.specs.Numbers.{place_among, first_of, texts_of}

-- ---- tests of keys

both : (a b : Bool) → (a && b) ≡ true → (a ≡ true) × (b ≡ true)
both true b h = (refl, h)
both false b h = absurd (cc)

text_is : (xs ys : List ℕ) → pointwise nat_eq xs ys ≡ true → xs ≡ ys
text_is xs ys h = same_text xs ys (sym h)

number_is : (a b : ℕ) → nat_eq a b ≡ true → a ≡ b
number_is a b h = search rules

pub pointwise-bytes : (xs ys : List ℕ) → pointwise nat_eq xs ys ≡ bytes_eq xs ys
pointwise-bytes [] [] = refl
pointwise-bytes [] (y ∷ ys) = refl
pointwise-bytes (x ∷ xs) [] = refl
pointwise-bytes (x ∷ xs) (y ∷ ys) = ap (λ b. nat_eq x y && b) (pointwise-bytes xs ys)

-- a key that passes for a name and an arity is tested for as they are
test-is : (name : List ℕ) (arity : ℕ) (key : FunctorKey) (es : List (FunctorKey × ℕ)) → is_functor_key name arity key ≡ true
    → lookup (is_functor_key name arity) es ≡ lookup (is_functor_key key.name.now key.arity) es
test-is name arity key es e =
    let p = both (pointwise nat_eq name key.name.now) (nat_eq arity key.arity) e in
    let names : name ≡ key.name.now = text_is name key.name.now p.0 in
    let arities : arity ≡ key.arity = number_is arity key.arity p.1 in
    λ i. lookup (is_functor_key (names i) (arities i)) es

-- a map has what is put into it where the key passes, and elsewhere what it had
lookup-put : (name : List ℕ) (arity : ℕ) (key : FunctorKey) (v : ℕ) (es : List (FunctorKey × ℕ)) → lookup (is_functor_key key.name.now key.arity) es ≡ None
    → lookup (is_functor_key name arity) (insert_entry (λ a. is_functor_key a.name.now a.arity) es key v) ≡ first_of (lookup (is_functor_key name arity) es) (cond (is_functor_key name arity key) (Some v) None)
lookup-put name arity key v [] none = refl
lookup-put name arity key v (e ∷ es) none = here (is_functor_key key.name.now key.arity e.0) refl (λ rest. lookup-put name arity key v es rest)
  where
    more : (b : Bool) → lookup (is_functor_key name arity) (insert_entry (λ a. is_functor_key a.name.now a.arity) es key v) ≡ first_of (lookup (is_functor_key name arity) es) (cond (is_functor_key name arity key) (Some v) None)
        → cond b (Some e.1) (lookup (is_functor_key name arity) (insert_entry (λ a. is_functor_key a.name.now a.arity) es key v)) ≡ first_of (cond b (Some e.1) (lookup (is_functor_key name arity) es)) (cond (is_functor_key name arity key) (Some v) None)
    more true rest = refl
    more false rest = rest

    here : (s : Bool) → is_functor_key key.name.now key.arity e.0 ≡ s
        → (lookup (is_functor_key key.name.now key.arity) es ≡ None
        → lookup (is_functor_key name arity) (insert_entry (λ a. is_functor_key a.name.now a.arity) es key v) ≡ first_of (lookup (is_functor_key name arity) es) (cond (is_functor_key name arity key) (Some v) None))
        → lookup (is_functor_key name arity) (cond s ((e.0, v) ∷ es) (e ∷ insert_entry (λ a. is_functor_key a.name.now a.arity) es key v)) ≡ first_of (lookup (is_functor_key name arity) (e ∷ es)) (cond (is_functor_key name arity key) (Some v) None)
    here true is later = let found : cond true (Some e.1) (lookup (is_functor_key key.name.now key.arity) es) ≡ None = ap (λ b. cond b (Some e.1) (lookup (is_functor_key key.name.now key.arity) es)) (sym is) ∙ none in absurd (cc)
    here false is later =
        more (is_functor_key name arity e.0) (later (ap (λ b. cond b (Some e.1) (lookup (is_functor_key key.name.now key.arity) es)) (sym is) ∙ none))

length-types : (ts : List Ty) → length (hlds_types_of ts) ≡ length ts
length-types [] = refl
length-types (t ∷ ts) = ap suc (length-types ts)

-- a functor's key passes where the functor has the name and the arity
key-named : (name : List ℕ) (arity : ℕ) (key : FunctorKey) (f : Functor) → key.name.now ≡ f.name → key.arity ≡ length f.args.items
    → is_functor_key name arity key ≡ is_named name arity (hlds_functor_of f)
key-named name arity key f named counted =
    ap (λ (xs : List ℕ). pointwise nat_eq name xs && nat_eq arity key.arity) named
    ∙ (ap (λ (b : Bool). b && nat_eq arity key.arity) (pointwise-bytes name f.name)
    ∙ ap (λ (n : ℕ). bytes_eq name f.name && nat_eq arity n) (counted ∙ sym (length-types f.args.items)))

pub functor-new : (name : List ℕ) (arity : ℕ) (key : FunctorKey) (f : Functor) (v : ℕ) (es : List (FunctorKey × ℕ)) → key.name.now ≡ f.name → key.arity ≡ length f.args.items
    → is_some (lookup (is_functor_key key.name.now key.arity) es) ≡ false
    → lookup (is_functor_key name arity) (insert_entry (λ a. is_functor_key a.name.now a.arity) es key v) ≡ first_of (lookup (is_functor_key name arity) es) (cond (is_named name arity (hlds_functor_of f)) (Some v) None)
functor-new name arity key f v es named counted absent =
    lookup-put name arity key v es (none (lookup (is_functor_key key.name.now key.arity) es) absent)
    ∙ ap (λ b. first_of (lookup (is_functor_key name arity) es) (cond b (Some v) None)) (key-named name arity key f named counted)
  where
    none : (r : Option ℕ) → is_some r ≡ false → r ≡ None
    none None h = refl
    none (Some n) h = absurd (cc)

pub functor-there : (name : List ℕ) (arity : ℕ) (key : FunctorKey) (f : Functor) (v : ℕ) (es : List (FunctorKey × ℕ)) → key.name.now ≡ f.name → key.arity ≡ length f.args.items
    → is_some (lookup (is_functor_key key.name.now key.arity) es) ≡ true
    → lookup (is_functor_key name arity) es ≡ first_of (lookup (is_functor_key name arity) es) (cond (is_named name arity (hlds_functor_of f)) (Some v) None)
functor-there name arity key f v es named counted present =
    here (is_functor_key name arity key) refl
    ∙ ap (λ b. first_of (lookup (is_functor_key name arity) es) (cond b (Some v) None)) (key-named name arity key f named counted)
  where
    kept : (r : Option ℕ) (other : Option ℕ) → is_some r ≡ true → r ≡ first_of r other
    kept None other h = absurd (cc)
    kept (Some n) other h = refl

    plain : (r : Option ℕ) → r ≡ first_of r None
    plain None = refl
    plain (Some n) = refl

    here : (b : Bool) → is_functor_key name arity key ≡ b → lookup (is_functor_key name arity) es ≡ first_of (lookup (is_functor_key name arity) es) (cond b (Some v) None)
    here true is = kept (lookup (is_functor_key name arity) es) (Some v) (ap (λ r. is_some r) (test-is name arity key es is) ∙ present)
    here false is = plain (lookup (is_functor_key name arity) es)

first-assoc : (a b c : Option ℕ) → first_of (first_of a b) c ≡ first_of a (first_of b c)
first-assoc None b c = refl
first-assoc (Some n) b c = refl

place-append : (name : List ℕ) (arity n : ℕ) (fs gs : List HldsFunctor) → place_among name arity n (fs ++ gs) ≡ first_of (place_among name arity n fs) (place_among name arity (n + length fs) gs)
place-append name arity n [] gs = let same : n ≡ n + 0 = omega arith in ap (λ k. place_among name arity k gs) same
place-append name arity n (f ∷ fs) gs =
    let same : suc n + length fs ≡ n + suc (length fs) = omega arith in
    here (is_named name arity f) (place-append name arity (suc n) fs gs ∙ ap (λ k. first_of (place_among name arity (suc n) fs) (place_among name arity k gs)) same)
  where
    here : (b : Bool) → place_among name arity (suc n) (fs ++ gs) ≡ first_of (place_among name arity (suc n) fs) (place_among name arity (n + suc (length fs)) gs)
        → cond b (Some n) (place_among name arity (suc n) (fs ++ gs)) ≡ first_of (cond b (Some n) (place_among name arity (suc n) fs)) (place_among name arity (n + suc (length fs)) gs)
    here true e = refl
    here false e = e

families-step : (ts : List TypeDef) (i : ℕ) (t : TypeDef) → i < length ts → t ≡ get_or ts i t
    → functors_among (type_defs_of (drop i ts)) ≡ hlds_functors_of t.functors.items ++ functors_among (type_defs_of (drop (i + 1) ts))
families-step ts i t lt is = rw add-one (ap (λ us. functors_among (type_defs_of us)) (drop-cons ts i t lt ∙ ap (λ (x : TypeDef). x ∷ drop (suc i) ts) (sym is)))

length-functors : (fs : List Functor) → length (hlds_functors_of fs) ≡ length fs
length-functors [] = refl
length-functors (f ∷ fs) = ap suc (length-functors fs)

-- the functors of one type more
pub family-numbers : (name : List ℕ) (arity : ℕ) (old new : Option ℕ) (ts : List TypeDef) (i : ℕ) (t : TypeDef) (fs : List Functor) (n m : ℕ) → i < length ts → t ≡ get_or ts i t → fs ≡ t.functors.items → m ≡ n + length fs
    → new ≡ first_of old (place_among name arity n (hlds_functors_of fs))
    → first_of new (place_among name arity m (functors_among (type_defs_of (drop (i + 1) ts)))) ≡ first_of old (place_among name arity n (functors_among (type_defs_of (drop i ts))))
family-numbers name arity old new ts i t fs n m lt is e at adds =
    let rest = functors_among (type_defs_of (drop (i + 1) ts)) in
    let place : m ≡ n + length (hlds_functors_of fs) = at ∙ ap (λ k. n + k) (sym (length-functors fs)) in
    ap (λ r. first_of r (place_among name arity m rest)) adds
    ∙ (first-assoc old (place_among name arity n (hlds_functors_of fs)) (place_among name arity m rest)
    ∙ ap (first_of old) (ap (λ k. first_of (place_among name arity n (hlds_functors_of fs)) (place_among name arity k rest)) place
    ∙ (sym (place-append name arity n (hlds_functors_of fs) rest)
    ∙ ap (place_among name arity n) (ap (λ us. hlds_functors_of us ++ rest) e ∙ sym (families-step ts i t lt is)))))

pub family-count : (ts : List TypeDef) (i : ℕ) (t : TypeDef) (fs : List Functor) (n m : ℕ) → i < length ts → t ≡ get_or ts i t → fs ≡ t.functors.items → m ≡ n + length fs
    → m + length (functors_among (type_defs_of (drop (i + 1) ts))) ≡ n + length (functors_among (type_defs_of (drop i ts)))
family-count ts i t fs n m lt is e at =
    let whole = ap length (families-step ts i t lt is) ∙ length-append (hlds_functors_of t.functors.items) (functors_among (type_defs_of (drop (i + 1) ts))) in
    let these : length (hlds_functors_of t.functors.items) ≡ length fs = length-functors t.functors.items ∙ ap length (sym e) in
    omega (arith, whole, these, at)

-- a functor's number by its place
place-number : (name : List ℕ) (arity n : ℕ) (fs : List HldsFunctor) → functor_place name arity n fs ≡ unwrap_or (place_among name arity n fs) (n + length fs)
place-number name arity n [] = let same : n ≡ n + 0 = omega arith in same
place-number name arity n (f ∷ fs) =
    let same : suc n + length fs ≡ n + suc (length fs) = omega arith in
    here (is_named name arity f) (place-number name arity (suc n) fs ∙ ap (unwrap_or (place_among name arity (suc n) fs)) same)
  where
    here : (b : Bool) → functor_place name arity (suc n) fs ≡ unwrap_or (place_among name arity (suc n) fs) (n + suc (length fs))
        → cond b n (functor_place name arity (suc n) fs) ≡ unwrap_or (cond b (Some n) (place_among name arity (suc n) fs)) (n + suc (length fs))
    here true e = refl
    here false e = e

pub functor-number : (name : List ℕ) (arity count : ℕ) (fs : List HldsFunctor) (r : Option ℕ) → count ≡ length fs → r ≡ place_among name arity 0 fs → unwrap_or r count ≡ functor_place name arity 0 fs
functor-number name arity count fs r at is =
    let same : length fs ≡ 0 + length fs = omega arith in
    ap (λ q. unwrap_or q count) is ∙ (ap (unwrap_or (place_among name arity 0 fs)) (at ∙ same) ∙ sym (place-number name arity 0 fs))

-- ---- literals

place-on : (bytes : List ℕ) (n : ℕ) (ls : List (List ℕ)) → literal_place bytes (suc n) ls ≡ suc (literal_place bytes n ls)
place-on bytes n [] = refl
place-on bytes n (l ∷ ls) = here (bytes_eq bytes l) (place-on bytes (suc n) ls)
  where
    here : (b : Bool) → literal_place bytes (suc (suc n)) ls ≡ suc (literal_place bytes (suc n) ls) → cond b (suc n) (literal_place bytes (suc (suc n)) ls) ≡ suc (cond b n (literal_place bytes (suc n) ls))
    here true e = refl
    here false e = e

pub is_text : List ℕ → Bor (List ℕ) → Bool
is_text bytes t = pointwise nat_eq bytes t.now

place-step : (bytes : List ℕ) (t : Bor (List ℕ)) (ts : List (Bor (List ℕ))) → literal_place bytes 0 (texts_of (t ∷ ts)) ≡ cond (pointwise nat_eq bytes t.now) 0 (1 + literal_place bytes 0 (texts_of ts))
place-step bytes t ts =
    let more : literal_place bytes 1 (texts_of ts) ≡ 1 + literal_place bytes 0 (texts_of ts) = place-on bytes 0 (texts_of ts) ∙ omega arith in
    ap (λ b. cond b 0 (literal_place bytes 1 (texts_of ts))) (sym (pointwise-bytes bytes t.now)) ∙ ap (λ k. cond (pointwise nat_eq bytes t.now) 0 k) more

pub literal-place : (bytes : List ℕ) (ts : List (Bor (List ℕ))) → literal_place bytes 0 (texts_of ts) ≡ position_or_len (λ (t : Bor (List ℕ)). pointwise nat_eq bytes t.now) ts
literal-place bytes ts = is_position_or_len (λ us. literal_place bytes 0 (texts_of us)) (λ (t : Bor (List ℕ)). pointwise nat_eq bytes t.now) refl (λ t us. place-step bytes t us) ts

length-texts : (ts : List (Bor (List ℕ))) → length (texts_of ts) ≡ length ts
length-texts [] = refl
length-texts (t ∷ ts) = ap suc (length-texts ts)

within : (bytes : List ℕ) (n : ℕ) (ls : List (List ℕ)) → literal_place bytes n ls ≤ n + length ls
within bytes n [] = omega arith
within bytes n (l ∷ ls) = here (bytes_eq bytes l) (within bytes (suc n) ls)
  where
    here : (b : Bool) → literal_place bytes (suc n) ls ≤ suc n + length ls → cond b n (literal_place bytes (suc n) ls) ≤ n + suc (length ls)
    here true e = omega arith
    here false e = omega (arith, e)

pub literal-number : (bytes : List ℕ) (ts : List (Bor (List ℕ))) (count : ℕ) (r : Option ℕ) → count ≡ length ts → r ≡ position (λ (t : Bor (List ℕ)). pointwise nat_eq bytes t.now) ts
    → unwrap_or r count ≡ literal_place bytes 0 (texts_of ts)
literal-number bytes ts count r at is =
    let p = position_or_len (λ (t : Bor (List ℕ)). pointwise nat_eq bytes t.now) ts in
    let least : p ≤ length ts = omega (arith, within bytes 0 (texts_of ts), length-texts ts, literal-place bytes ts) in
    ap (λ q. unwrap_or q count) is ∙ (here p (nat_lt p (length ts)) refl least ∙ sym (literal-place bytes ts))
  where
    here : (p : ℕ) (b : Bool) → nat_lt p (length ts) ≡ b → p ≤ length ts → unwrap_or (cond b (Some p) None) count ≡ p
    here p true e le = refl
    here p false e le = grind (arith, e, le, at)

any-place : (bytes : List ℕ) (n : ℕ) (ts : List (Bor (List ℕ))) → list_any (λ (t : Bor (List ℕ)). pointwise nat_eq bytes t.now) ts ≡ not (nat_eq (literal_place bytes n (texts_of ts)) (n + length (texts_of ts)))
any-place bytes n [] = grind arith
any-place bytes n (t ∷ ts) = here (pointwise nat_eq bytes t.now) (bytes_eq bytes t.now) (pointwise-bytes bytes t.now) (any-place bytes (suc n) ts)
  where
    here : (b d : Bool) → b ≡ d → list_any (λ (u : Bor (List ℕ)). pointwise nat_eq bytes u.now) ts ≡ not (nat_eq (literal_place bytes (suc n) (texts_of ts)) (suc n + length (texts_of ts)))
        → (b || list_any (λ (u : Bor (List ℕ)). pointwise nat_eq bytes u.now) ts) ≡ not (nat_eq (cond d n (literal_place bytes (suc n) (texts_of ts))) (n + suc (length (texts_of ts))))
    here true true e f = let apart : nat_eq n (n + suc (length (texts_of ts))) ≡ false = grind arith in ap not (sym apart)
    here false false e f = let same : suc n + length (texts_of ts) ≡ n + suc (length (texts_of ts)) = omega arith in f ∙ ap (λ k. not (nat_eq (literal_place bytes (suc n) (texts_of ts)) k)) same
    here true false e f = absurd (cc)
    here false true e f = absurd (cc)

texts-append : (ts : List (Bor (List ℕ))) (t : Bor (List ℕ)) → texts_of (ts ++ t ∷ []) ≡ texts_of ts ++ t.now ∷ []
texts-append [] t = refl
texts-append (u ∷ ts) t = ap (λ ls. u.now ∷ ls) (texts-append ts t)

pub literal-put : (t : Bor (List ℕ)) (ts news : List (Bor (List ℕ))) → news ≡ insert_key (λ (a b : Bor (List ℕ)). pointwise nat_eq a.now b.now) ts t → texts_of news ≡ with_literal (texts_of ts) t.now
literal-put t ts news is =
    let same : 0 + length (texts_of ts) ≡ length (texts_of ts) = omega arith in
    ap texts_of is
    ∙ here (list_any (λ (u : Bor (List ℕ)). pointwise nat_eq t.now u.now) ts) (nat_eq (literal_place t.now 0 (texts_of ts)) (length (texts_of ts)))
    (any-place t.now 0 ts ∙ ap (λ k. not (nat_eq (literal_place t.now 0 (texts_of ts)) k)) same)
  where
    here : (b d : Bool) → b ≡ not d → texts_of (cond b ts (ts ++ t ∷ [])) ≡ cond d (texts_of ts ++ t.now ∷ []) (texts_of ts)
    here true true e = absurd (cc)
    here true false e = refl
    here false true e = texts-append ts t
    here false false e = absurd (cc)

pub with-Conj : (ls : List (List ℕ)) (k : GoalKind) (v : Vec Goal Global) (gs : List Goal) → k ≡ Conj v → gs ≡ v.items → with_expr ls (expr_of k) ≡ with_goals ls (gathered (goals_of gs))
with-Conj ls k v gs is e = ap (λ j. with_expr ls (expr_of j)) is ∙ (ap (with_expr ls) (expr_of-Conj v) ∙ ap (λ hs. with_goals ls (gathered (goals_of hs))) (sym e))

pub with-Disj : (ls : List (List ℕ)) (k : GoalKind) (v : Vec Goal Global) (gs : List Goal) → k ≡ Disj v → gs ≡ v.items → with_expr ls (expr_of k) ≡ with_goals ls (gathered (goals_of gs))
with-Disj ls k v gs is e = ap (λ j. with_expr ls (expr_of j)) is ∙ (ap (with_expr ls) (expr_of-Disj v) ∙ ap (λ hs. with_goals ls (gathered (goals_of hs))) (sym e))
