-- Keys that differ by their order are keys that differ.
use Rattle.std.proofs.Common.{◌≡◌, ◌≢◌, ◌↔◌, ℕ, ◌<◌, List, [], ◌∷◌, length, map, get_or, Bor, refl, sym, ◌∙◌, ap, subst, arith, inl, inr}
use Rattle.std.proofs.lemmas.List.{get_or-map, length-map}
use Rattle.std.proofs.lemmas.Bool.{cases_order}
use Rattle.std.proofs.lemmas.Map.Text.{is_eq-slice_cmp}
use Rattle.std.proofs.lemmas.Slice.Eq.{bytes_eq-Decides}
use Rattle.std.specs.Cmp.{Equal-is, nat_cmp_is}
use Rattle.std.specs.Cmp.Lexicographic.{slice_cmp}
use Rattle.std.specs.List.{AllPairs}
use Rattle.std.specs.Ordering.{nat_cmp, ordering_then, is_eq}
use Rattle.std.specs.declared.cmp.Ordering.{Ordering}
use Rattle.std.specs.declared.cmp.Ordering.TheVariants.{Less, Equal, Greater}
use Rattle.md_static.specs.declared.entry.Proc.{Proc}
use Rattle.md_static.specs.Sound.{proc_key, key_seen}

pub pairs_of : {X Y : Type 0} (f : X → Y) (R : Y → Y → Type 0) (xs : List X) → AllPairs R (map f xs) → AllPairs (λ a b. R (f a) (f b)) xs
pairs_of {X} {Y} f R xs all i j d less within =
    let whole : R (get_or (map f xs) i (f d)) (get_or (map f xs) j (f d)) = all i j (f d) less (omega (arith, length-map xs f)) in
    let first : R (f (get_or xs i d)) (get_or (map f xs) j (f d)) = subst (λ (y : Y). R y (get_or (map f xs) j (f d))) (get_or-map f xs i d (f d) (omega arith)) whole in
    subst (λ (y : Y). R (f (get_or xs i d)) y) (get_or-map f xs j d (f d) within) first

pub pairs_over : {X Y : Type 0} (f : X → Y) (R : Y → Y → Type 0) (xs : List X) → AllPairs (λ a b. R (f a) (f b)) xs → AllPairs R (map f xs)
pairs_over {X} {Y} f R [] all i j d less within = absurd (omega arith)
pairs_over {X} {Y} f R (x ∷ xs) all i j d less within =
    let there : j < length (x ∷ xs) = omega (arith, length-map (x ∷ xs) f) in
    let whole : R (f (get_or (x ∷ xs) i x)) (f (get_or (x ∷ xs) j x)) = all i j x less there in
    let first : R (get_or (map f (x ∷ xs)) i d) (f (get_or (x ∷ xs) j x)) = subst (λ (y : Y). R y (f (get_or (x ∷ xs) j x))) (sym (get_or-map f (x ∷ xs) i x d (omega arith))) whole in
    subst (λ (y : Y). R (get_or (map f (x ∷ xs)) i d) y) (sym (get_or-map f (x ∷ xs) j x d there)) first

-- two texts compare equal exactly where they are one
pub text_equal : (m n : List ℕ) → slice_cmp nat_cmp m n ≡ Equal → m ≡ n
text_equal m n equal = (bytes_eq-Decides m n).0 (sym (is_eq-slice_cmp m n) ∙ ap is_eq equal)

pub equal_text : (m n : List ℕ) → m ≡ n → slice_cmp nat_cmp m n ≡ Equal
equal_text m n same = (Equal-is (slice_cmp nat_cmp m n)).0 (is_eq-slice_cmp m n ∙ (bytes_eq-Decides m n).1 same)

pub names_told : (keys : List (Bor (List ℕ))) (names : List (List ℕ)) → map (λ (key : Bor (List ℕ)). key.now) keys ≡ names
    → AllPairs (λ x y. slice_cmp nat_cmp x.now y.now ≢ Equal) keys ↔ AllPairs (λ m n. m ≢ n) names
names_told keys names are = (
  λ all. subst (λ (xs : List (List ℕ)). AllPairs (λ m n. m ≢ n) xs) are (pairs_over (λ (key : Bor (List ℕ)). key.now) (λ m n. m ≢ n) keys (λ i j d less within same. all i j d less within (equal_text _ _ same))),
  λ all i j d less within equal. pairs_of (λ (key : Bor (List ℕ)). key.now) (λ m n. m ≢ n) keys (subst (λ (xs : List (List ℕ)). AllPairs (λ m n. m ≢ n) xs) (sym are) all) i j d less within (text_equal _ _ equal),
)

pub number_equal : (a b : ℕ) → nat_cmp a b ≡ Equal → a ≡ b
number_equal a b equal = elim (cases_order a b) [
  | inl same ↦ same
  | inr apart ↦ elim apart [
    | inl less ↦ absurd (let told = nat_cmp_is a b Less less in cc (told, equal))
    | inr more ↦ absurd (let told = nat_cmp_is a b Greater more in cc (told, equal))
  ]
]

pub both_equal : (r o : Ordering) → ordering_then r o ≡ Equal → (r ≡ Equal) × (o ≡ Equal)
both_equal Less o equal = absurd (cc equal)
both_equal Equal o equal = (refl, equal)
both_equal Greater o equal = absurd (cc equal)

-- keys by module and name
abbrev Apart : ℕ × List ℕ → ℕ × List ℕ → Type 0
Apart a b = a.0 ≡ b.0 → a.1 ≢ b.1

equal_key : (a b : ℕ × Bor (List ℕ)) → a.0 ≡ b.0 → a.1.now ≡ b.1.now → ordering_then (nat_cmp a.0 b.0) (slice_cmp nat_cmp a.1.now b.1.now) ≡ Equal
equal_key a b modules names =
    ap (λ (r : Ordering). ordering_then r (slice_cmp nat_cmp a.1.now b.1.now)) (sym (nat_cmp_is a.0 b.0 Equal modules)) ∙ equal_text a.1.now b.1.now names

pub procs_told : (keys : List (ℕ × Bor (List ℕ))) (procs : List Proc) → map key_seen keys ≡ map proc_key procs
    → AllPairs (λ x y. ordering_then (nat_cmp x.0 y.0) (slice_cmp nat_cmp x.1.now y.1.now) ≢ Equal) keys ↔ AllPairs (λ p q. p.module ≡ q.module → p.name ≢ q.name) procs
procs_told keys procs are = (
  λ all. pairs_of proc_key Apart procs (subst (λ (xs : List (ℕ × List ℕ)). AllPairs Apart xs) are
      (pairs_over key_seen Apart keys (λ i j d less within modules names. all i j d less within (equal_key (get_or keys i d) (get_or keys j d) modules names)))),
  λ all i j d less within equal.
      let told = both_equal _ _ equal in
      pairs_of key_seen Apart keys (subst (λ (xs : List (ℕ × List ℕ)). AllPairs Apart xs) (sym are) (pairs_over proc_key Apart procs all)) i j d less within
      (number_equal _ _ told.0) (text_equal _ _ told.1),
)
