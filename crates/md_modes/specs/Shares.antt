-- The variables that need a look at each arm, as the code keeps them.
use Rattle.std.specs.Prelude.{◌≡◌, ⊤, ℕ, suc, Bool, true, false, not, ◌&&◌, ◌||◌, List, [], ◌∷◌, cond}
use Rattle.md_inst.specs.Instantiation.{Instantiation, free, has, InstMap, known_at, put, is_bound, is_newly_bound, times}
use Rattle.md_inst.specs.Common.{common, is_alike}
use Rattle.md_modes.specs.declared.joined.Shared.{Shared}

abbrev pub numbers : List Shared → List ℕ
numbers [] = []
numbers (e ∷ es) = e.number ∷ numbers es

-- what all arms so far have in common at a variable, and one arm more
abbrev pub common_at : (c q : InstMap) → ℕ → Instantiation
common_at c q x = common (known_at c x) (known_at q x)

-- what they have in common once these variables were compared
abbrev pub commons : (c q : InstMap) → List Shared → InstMap
commons c q [] = c
commons c q (e ∷ es) = commons (put c e.number (common_at c q e.number)) q es

-- a variable that the first arm and one arm more bind
abbrev pub compared : (r q : InstMap) → Shared → Shared
compared r q e = record { number = e.number; unlike = e.unlike || not (is_alike (known_at r e.number) (known_at q e.number)) }

-- those that one arm more binds too
abbrev pub kept : (r c q : InstMap) → List Shared → List Shared
kept r c q [] = []
kept r c q (e ∷ es) =
    cond (is_bound (common_at c q e.number)) (compared r q e ∷ kept r (put c e.number (common_at c q e.number)) q es)
    (kept r (put c e.number (common_at c q e.number)) q es)

-- an arm that leaves a variable alone changes what the others have in common at it
abbrev pub unsettled : (before shared : Instantiation) → Bool
unsettled free (has t used) = true
unsettled (has u spent) (has t used) = spent && not used
unsettled b free = false

-- those that the first arm binds and that need a look at each other arm, counted on from n
abbrev pub begun : ℕ → (before first : InstMap) → List Shared
begun n s [] = []
begun n [] (k ∷ r) = cond (unsettled free k) (record { number = n; unlike = false } ∷ begun (suc n) [] r) (begun (suc n) [] r)
begun n (b ∷ s) (k ∷ r) = cond (unsettled b k) (record { number = n; unlike = false } ∷ begun (suc n) s r) (begun (suc n) s r)

-- each tells whether some arm binds it with another type than the first
abbrev pub AllRight : (ℕ → Bool) → List Shared → Type 0
AllRight u [] = ⊤
AllRight u (e ∷ es) = (e.unlike ≡ u e.number) × AllRight u es

-- they are all that need a look, and tell of each what u does
pub record Shares (s c : InstMap) (u : ℕ → Bool) (es : List Shared) : Type 0 where
  pub all : (x : ℕ) → unsettled (known_at s x) (known_at c x) ≡ true → times x (numbers es) ≡ 0 → ⊥
  pub right : AllRight u es

-- a variable with the property, free before, is bound in all arms so far, and not in one arm more
abbrev pub lost : (ℕ → Bool) → (s c q : InstMap) → ℕ → Bool
lost p s c q x = p x && (not (is_bound (known_at s x)) && (is_bound (known_at c x) && not (is_bound (known_at q x))))

-- a variable with the property, free before, isn't bound in the first arm, and is in one arm more
abbrev pub gained : (ℕ → Bool) → (s r q : InstMap) → ℕ → Bool
gained p s r q x = p x && (not (is_bound (known_at s x)) && (not (is_bound (known_at r x)) && is_bound (known_at q x)))

-- a variable is free before, and all arms bind it, but not with one type
abbrev pub some_clash : (s c : InstMap) → List Shared → Bool
some_clash s c [] = false
some_clash s c (e ∷ es) = (is_newly_bound (known_at s e.number) (known_at c e.number) && e.unlike) || some_clash s c es
