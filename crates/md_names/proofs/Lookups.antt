-- Look-ups after an insertion, by tests that keys of one content pass alike.
use Rattle.std.proofs.Common.{◌≡◌, refl, ap, ◌∙◌, sym, subst, ℕ, List, [], ◌∷◌, ◌++◌, Bool, true, false, cond, ◌&&◌, ◌||◌, Option, Some, nat_eq, rules}
use Rattle.std.specs.List.{list_any}
use Rattle.std.specs.Map.{lookup}
use Rattle.std.specs.Cmp.Lexicographic.{pointwise, same_text, other_text}
use Rattle.std.specs.Str.{bytes_eq}
use Rattle.std.proofs.lemmas.List.Folds.{list_any-append}
use Rattle.indexmap.specs.IndexMap.{insert_entry}
use Rattle.indexmap.specs.IndexSet.{insert_key}

-- what a test and an equality of keys have to do with each other
pub record Fits {K : Type 0} (test : K → Bool) (same : K → K → Bool) (key : K) : Type 0 where
  pub alike : (e : K) → same key e ≡ true → test key ≡ test e
  pub apart : (e : K) → same key e ≡ false → test key ≡ true → test e ≡ true → ⊥

met : {V : Type 0} (c d : Bool) (v w : V) (rest : Option V) → c ≡ d → cond d (Some v) rest ≡ cond c (Some v) (cond d (Some w) rest)
met true d v w rest is = subst (λ (b : Bool). cond b (Some v) rest ≡ Some v) is refl
met false d v w rest is = subst (λ (b : Bool). cond b (Some v) rest ≡ cond b (Some w) rest) is refl

passed : {V : Type 0} (c d : Bool) (v w : V) (rest : Option V) → (c ≡ true → d ≡ true → ⊥)
    → cond d (Some w) (cond c (Some v) rest) ≡ cond c (Some v) (cond d (Some w) rest)
passed true true v w rest both = absurd (both refl refl)
passed true false v w rest both = refl
passed false d v w rest both = refl

-- after an insertion a map has the value at what the key passes for, and elsewhere what it had
pub lookup-insert : {K V : Type 0} (test : K → Bool) (same : K → K → Bool) (key : K) (v : V) (es : List (K × V)) → Fits test same key
    → lookup test (insert_entry same es key v) ≡ cond (test key) (Some v) (lookup test es)
lookup-insert test same key v [] fits = refl
lookup-insert {K} {V} test same key v (e ∷ es) fits = here (same key e.0) refl (lookup-insert test same key v es fits)
  where
    here : (s : Bool) → same key e.0 ≡ s → lookup test (insert_entry same es key v) ≡ cond (test key) (Some v) (lookup test es)
        → lookup test (cond s ((e.0, v) ∷ es) (e ∷ insert_entry same es key v)) ≡ cond (test key) (Some v) (lookup test (e ∷ es))
    here true is rest = met (test key) (test e.0) v e.1 (lookup test es) (fits.alike e.0 is)
    here false is rest =
        ap (λ (r : Option V). cond (test e.0) (Some e.1) r) rest
        ∙ passed (test key) (test e.0) v e.1 (lookup test es) (fits.apart e.0 is)

-- look-ups by tests that are equal at each key
pub lookup-same : {K V : Type 0} (test other : K → Bool) (es : List (K × V)) → ((k : K) → test k ≡ other k) → lookup test es ≡ lookup other es
lookup-same test other [] same = refl
lookup-same {K} {V} test other (e ∷ es) same =
    ap (λ (b : Bool). cond b (Some e.1) (lookup test es)) (same e.0) ∙ ap (λ (r : Option V). cond (other e.0) (Some e.1) r) (lookup-same test other es same)

-- ---- sets

or_true : (b : Bool) → (b || true) ≡ true
or_true true = refl
or_true false = refl

already : {K : Type 0} (test : K → Bool) (same : K → K → Bool) (key : K) (ks : List K) → Fits test same key → list_any (same key) ks ≡ true
    → list_any test ks ≡ (test key || list_any test ks)
already test same key [] fits has = absurd (cc)
already {K} test same key (k ∷ ks) fits has = here (same key k) refl (test key) refl (already test same key ks fits)
  where
    here : (s : Bool) → same key k ≡ s → (b : Bool) → test key ≡ b
        → (list_any (same key) ks ≡ true → list_any test ks ≡ (test key || list_any test ks))
        → (test k || list_any test ks) ≡ (b || (test k || list_any test ks))
    here s is false at rest = refl
    here true is true at rest = ap (λ (b : Bool). b || list_any test ks) (sym (fits.alike k is) ∙ at)
    here false is true at rest =
        let later : list_any (same key) ks ≡ true = ap (λ (b : Bool). b || list_any (same key) ks) (sym is) ∙ has in
        let more : list_any test ks ≡ true = rest later ∙ ap (λ (b : Bool). b || list_any test ks) at in
        ap (λ (b : Bool). test k || b) more ∙ or_true (test k)

or_comm : (a b : Bool) → (a || (b || false)) ≡ (b || a)
or_comm true true = refl
or_comm true false = refl
or_comm false true = refl
or_comm false false = refl

-- after an insertion a set has what the key passes for, and what it had
pub any-insert : {K : Type 0} (test : K → Bool) (same : K → K → Bool) (key : K) (ks : List K) → Fits test same key
    → list_any test (insert_key same ks key) ≡ (test key || list_any test ks)
any-insert {K} test same key ks fits = here (list_any (same key) ks) refl
  where
    here : (s : Bool) → list_any (same key) ks ≡ s → list_any test (cond s ks (ks ++ key ∷ [])) ≡ (test key || list_any test ks)
    here true has = already test same key ks fits has
    here false has = list_any-append test ks (key ∷ []) ∙ or_comm (list_any test ks) (test key)

-- ---- texts and numbers

pub both : (a b : Bool) → (a && b) ≡ true → (a ≡ true) × (b ≡ true)
both true b h = (refl, h)
both false b h = absurd (cc)

pub text_is : (xs ys : List ℕ) → pointwise nat_eq xs ys ≡ true → xs ≡ ys
text_is xs ys h = same_text xs ys (sym h)

pub text_same : (xs : List ℕ) → pointwise nat_eq xs xs ≡ true
text_same xs = here (pointwise nat_eq xs xs) refl
  where
    here : (b : Bool) → pointwise nat_eq xs xs ≡ b → b ≡ true
    here true is = refl
    here false is = absurd (other_text xs xs (sym is) refl)

pub pointwise-bytes_eq : (xs ys : List ℕ) → pointwise nat_eq xs ys ≡ bytes_eq xs ys
pointwise-bytes_eq [] [] = refl
pointwise-bytes_eq [] (y ∷ ys) = refl
pointwise-bytes_eq (x ∷ xs) [] = refl
pointwise-bytes_eq (x ∷ xs) (y ∷ ys) = ap (λ b. nat_eq x y && b) (pointwise-bytes_eq xs ys)

pub number_is : (a b : ℕ) → nat_eq a b ≡ true → a ≡ b
number_is a b h = search rules

pub number_same : (a : ℕ) → nat_eq a a ≡ true
number_same a = search rules
