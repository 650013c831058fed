-- The entry of a clique is a link, and it enters the clique.
use Rattle.std.proofs.Common.{◌≡◌, ℕ, zero, suc, ◌+◌, ◌<◌, Bool, true, List, [], ◌∷◌, get_or, Option, Some, refl, sym, ap, ◌∙◌, inl, inr, arith}
use Rattle.std.specs.List.{slice_get}
use Rattle.std.proofs.lemmas.Bool.{cases_Bool}
use Rattle.md_clique.specs.Cliques.{clique_count}
use Rattle.md_clique.specs.Places.{places_from}
use Rattle.md_clique.specs.Entries.{AreEntries, enters}

pub record Passes {X : Type 0} (p : X → Bool) (k : ℕ) (xs : List X) (q : ℕ) : Type 0 where
  pub i : ℕ
  pub x : X
  pub is : q ≡ k + i
  pub there : slice_get xs i ≡ Some x
  pub passes : p x ≡ true

later : {X : Type 0} (p : X → Bool) (k : ℕ) (x : X) (xs : List X) (q : ℕ) → Passes p (k + 1) xs q → Passes p k (x ∷ xs) q
later p k x xs q r = record { i = suc r.i; x = r.x; is = (let e = r.is in omega arith); there = r.there; passes = r.passes }

first_or : {X : Type 0} (p : X → Bool) (k : ℕ) (x : X) (xs : List X) (q : ℕ) → p x ≡ true → (j : ℕ) → slice_get (k ∷ places_from p (k + 1) xs) j ≡ Some q
    → ((i : ℕ) → slice_get (places_from p (k + 1) xs) i ≡ Some q → Passes p (k + 1) xs q) → Passes p k (x ∷ xs) q
first_or p k x xs q holds zero at rest = let e : k ≡ q = cc in record { i = 0; x = x; is = omega (arith, sym e); there = refl; passes = holds }
first_or p k x xs q holds (suc j) at rest = later p k x xs q (rest j at)

-- what stands at a place passes
pub place_passes : {X : Type 0} (p : X → Bool) (k : ℕ) (xs : List X) (j q : ℕ) → slice_get (places_from p k xs) j ≡ Some q → Passes p k xs q
place_passes p k [] j q at = cc
place_passes p k (x ∷ xs) j q at = elim (cases_Bool (p x)) as (λ _. Passes p k (x ∷ xs) q) [
  | inl holds ↦ first_or p k x xs q holds j (rw holds at at) (λ i there. place_passes p (k + 1) xs i q there)
  | inr fails ↦ later p k x xs q (place_passes p (k + 1) xs j q (rw fails at at))
]

pub record IsEntry (cliques : List ℕ) (links : List (Option ℕ × ℕ)) (k place : ℕ) : Type 0 where
  pub link : Option ℕ × ℕ
  pub there : slice_get links place ≡ Some link
  pub enters_it : enters cliques k link ≡ true

pub entry_there : (cliques : List ℕ) (links : List (Option ℕ × ℕ)) (found : List ℕ) → AreEntries cliques links found → (k : ℕ) → k < clique_count cliques → IsEntry cliques links k (get_or found k 0)
entry_there cliques links found are k lt =
    let r = place_passes (enters cliques k) 0 links 0 (get_or found k 0) (ap (λ (ps : List ℕ). slice_get ps 0) (are.one k lt)) in
    let same : get_or found k 0 ≡ r.i = omega (arith, r.is) in
    record { link = r.x; there = ap (λ (place : ℕ). slice_get links place) same ∙ r.there; enters_it = r.passes }
