-- The details of goals.
use Rattle.std.proofs.Common.{◌≡◌, refl, ap, ◌∙◌, sym, subst, arith, ℕ, zero, suc, ◌+◌, ◌-◌, ◌<◌, ◌≤◌, List, [], ◌∷◌, ◌++◌, length, drop, get_or, append_assoc, drop-cons, add-one}
use Rattle.std.specs.Prelude.{slice_set}
use Rattle.md_hlds.specs.declared.goal.Goal.{Goal}
use Rattle.md_hlds.specs.declared.types.Ty.{Ty}
use Rattle.md_hlds.specs.declared.types.Mode.{Mode}
use Rattle.md_hlds.specs.HldsGoal.{gathered, goal_of, goals_of, goal_size, goals_among}
use Rattle.md_hlds.specs.Hlds.{Hlds, args_of}
use Rattle.md_modes.specs.Classes.{size_of, size_at}
use Rattle.md_switch.specs.declared.key.Key.{Key}
use Rattle.md_switch.specs.Keys.{key_of_code, keys_told}
use Rattle.md_flat.specs.declared.code.Case.{Case}
use Rattle.md_code.specs.Tables.{head_at}
use Rattle.md_code.specs.Facts.{Stand}
use Rattle.md_code.specs.Blocks.{key_functor}
use Rattle.md_code.specs.Details.{greatest, repeated, with_targets, key_cases, cases_of, call_inputs, call_outputs}
use Rattle.md_code.proofs.SurveyLemmas.{stand-goal, stand-own}

pub greatest-second : (m n : ℕ) → m < n → n ≡ greatest m n
greatest-second zero n h = refl
greatest-second (suc m) zero h = absurd (omega (arith, h))
greatest-second (suc m) (suc n) h = ap suc (greatest-second m n (omega (arith, h)))

pub greatest-first : (m n : ℕ) → n ≤ m → m ≡ greatest m n
greatest-first zero n h = omega (arith, h)
greatest-first (suc m) zero h = refl
greatest-first (suc m) (suc n) h = ap suc (greatest-first m n (omega (arith, h)))

pub repeated-push : (n x : ℕ) → repeated n x ++ x ∷ [] ≡ repeated (suc n) x
repeated-push zero x = refl
repeated-push (suc n) x = ap (λ xs. x ∷ xs) (repeated-push n x)

-- ---- calls

pub no-inputs : (as' : List (Ty × Mode)) (hs ys : List ℕ) → (0 < length as' → 0 < length hs → 0 < length ys → ⊥) → call_inputs (args_of as') hs ys ≡ []
no-inputs [] hs ys h = refl
no-inputs (a ∷ as') [] ys h = refl
no-inputs (a ∷ as') (x ∷ hs) [] h = refl
no-inputs (a ∷ as') (x ∷ hs) (y ∷ ys) h = absurd (h (omega arith) (omega arith) (omega arith))

pub no-outputs : (as' : List (Ty × Mode)) (hs ys : List ℕ) → (0 < length as' → 0 < length hs → 0 < length ys → ⊥) → call_outputs (args_of as') hs ys ≡ []
no-outputs [] hs ys h = refl
no-outputs (a ∷ as') [] ys h = refl
no-outputs (a ∷ as') (x ∷ hs) [] h = refl
no-outputs (a ∷ as') (x ∷ hs) (y ∷ ys) h = absurd (h (omega arith) (omega arith) (omega arith))

-- ---- switches

record First (i : ℕ) (gs : List Goal) : Type 0 where
  goal : Goal
  front : drop i gs ≡ goal ∷ drop (i + 1) gs

first-there : (i : ℕ) (gs : List Goal) → i < length gs → First i gs
first-there i [] h = absurd (omega (arith, h))
first-there zero (g ∷ gs) h = record { goal = g; front = refl }
first-there (suc i) (g ∷ gs) h =
    let rest = first-there i gs (omega (arith, h)) in
    let same : i + 1 ≡ suc i = omega arith in
    let same' : suc i + 1 ≡ suc (suc i) = omega arith in
    record { goal = rest.goal; front = rest.front ∙ ap (λ k. rest.goal ∷ k) (ap (λ n. drop n gs) same ∙ sym (ap (λ n. drop n (g ∷ gs)) same')) }

keys-step : (ks : List Key) (i : ℕ) (d : Key) → i < length ks → keys_told (drop i ks) ≡ key_of_code (get_or ks i d) ∷ keys_told (drop (i + 1) ks)
keys-step ks i d lt = rw add-one (ap keys_told (drop-cons ks i d lt))

pub targets-next : (s : Hlds) (low : ℕ) (ts news : List ℕ) (ks : List Key) (gs : List Goal) (i part next : ℕ) (d : Key) → i < length ks → i < length gs
    → Stand s part (goals_among (gathered (goals_of (drop i gs)))) → next ≡ part + size_at s part → news ≡ slice_set ts (key_functor s (key_of_code (get_or ks i d)) - low) (head_at part)
    → (with_targets s low news (keys_told (drop (i + 1) ks)) next (gathered (goals_of (drop (i + 1) gs))) ≡ with_targets s low ts (keys_told (drop i ks)) part (gathered (goals_of (drop i gs))))
    × Stand s next (goals_among (gathered (goals_of (drop (i + 1) gs))))
targets-next s low ts news ks gs i part next d lt lt' stand at sets =
    let first = first-there i gs lt' in
    let rest = drop (i + 1) gs in
    let g = goal_of first.goal in
    let stands = stand-goal s part g (goals_among (gathered (goals_of rest))) (subst (λ hs. Stand s part (goals_among (gathered (goals_of hs)))) first.front stand) in
    let size : next ≡ part + goal_size g = at ∙ ap (λ n. part + n) (ap size_of (stand-own s part g stands.0)) in (
      (λ j. with_targets s low (sets j) (keys_told (drop (i + 1) ks)) (size j) (gathered (goals_of rest)))
          ∙ (λ j. with_targets s low ts (sym (keys-step ks i d lt) j) part (gathered (goals_of (sym first.front j)))),
      subst (λ n. Stand s n (goals_among (gathered (goals_of rest)))) (sym size) stands.1,
    )

pub cases-next : (s : Hlds) (cs news : List Case) (ks : List Key) (gs : List Goal) (i part next : ℕ) (d : Key) → i < length ks → i < length gs
    → Stand s part (goals_among (gathered (goals_of (drop i gs)))) → next ≡ part + size_at s part → news ≡ cs ++ key_cases s (key_of_code (get_or ks i d)) (head_at part)
    → (news ++ cases_of s (keys_told (drop (i + 1) ks)) next (gathered (goals_of (drop (i + 1) gs))) ≡ cs ++ cases_of s (keys_told (drop i ks)) part (gathered (goals_of (drop i gs))))
    × Stand s next (goals_among (gathered (goals_of (drop (i + 1) gs))))
cases-next s cs news ks gs i part next d lt lt' stand at adds =
    let first = first-there i gs lt' in
    let rest = drop (i + 1) gs in
    let g = goal_of first.goal in
    let stands = stand-goal s part g (goals_among (gathered (goals_of rest))) (subst (λ hs. Stand s part (goals_among (gathered (goals_of hs)))) first.front stand) in
    let size : next ≡ part + goal_size g = at ∙ ap (λ n. part + n) (ap size_of (stand-own s part g stands.0)) in (
      (λ j. adds j ++ cases_of s (keys_told (drop (i + 1) ks)) (size j) (gathered (goals_of rest)))
          ∙ (append_assoc cs (key_cases s (key_of_code (get_or ks i d)) (head_at part)) (cases_of s (keys_told (drop (i + 1) ks)) (part + goal_size g) (gathered (goals_of rest)))
          ∙ (λ j. cs ++ cases_of s (sym (keys-step ks i d lt) j) part (gathered (goals_of (sym first.front j))))),
      subst (λ n. Stand s n (goals_among (gathered (goals_of rest)))) (sym size) stands.1,
    )

-- with no key or no arm left
pub targets-end : (s : Hlds) (low : ℕ) (ts : List ℕ) (ks : List Key) (gs : List Goal) (part : ℕ) → (0 < length ks → 0 < length gs → ⊥) → with_targets s low ts (keys_told ks) part (gathered (goals_of gs)) ≡ ts
targets-end s low ts [] gs part h = refl
targets-end s low ts (k ∷ ks) [] part h = refl
targets-end s low ts (k ∷ ks) (g ∷ gs) part h = absurd (h (omega arith) (omega arith))

pub cases-end : (s : Hlds) (ks : List Key) (gs : List Goal) (part : ℕ) → (0 < length ks → 0 < length gs → ⊥) → cases_of s (keys_told ks) part (gathered (goals_of gs)) ≡ []
cases-end s [] gs part h = refl
cases-end s (k ∷ ks) [] part h = refl
cases-end s (k ∷ ks) (g ∷ gs) part h = absurd (h (omega arith) (omega arith))
