-- What is known of some of the variables: of those that occur in a goal.
use Rattle.std.specs.Prelude.{◌≡◌, ⊤, ℕ, suc, ◌≤◌, Bool, false, ◌||◌, List, [], ◌∷◌, length, cond, Ok, Err}
use Rattle.md_hlds.specs.HldsGoal.{GoalExpr, ConjGoal, DisjGoal, IfGoal}
use Rattle.md_inst.specs.Verdict.{Verdict}
use Rattle.md_inst.specs.Instantiation.{InstMap, known_at, put, is_newly_bound, times}
use Rattle.md_modes.specs.Branches.{After, after}
use Rattle.md_modes.specs.Notes.{is_state}

-- variables in rising order, from n on
abbrev pub Rising : ℕ → List ℕ → Type 0
Rising n [] = ⊤
Rising n (x ∷ xs) = (n ≤ x) × Rising (suc x) xs

-- what is known of these variables
abbrev pub seen : List ℕ → InstMap → InstMap
seen [] s = []
seen (x ∷ xs) s = known_at s x ∷ seen xs s

-- what is known after this was put at these variables
abbrev pub put_all : List ℕ → InstMap → InstMap → InstMap
put_all (x ∷ xs) (k ∷ ks) s = put_all xs ks (put s x k)
put_all xs ks s = s

-- the ends of arms, as far as these variables go
abbrev pub seen_ends : List ℕ → List After → List After
seen_ends xs [] = []
seen_ends xs (a ∷ ends) = after (seen xs a.known) a.reach ∷ seen_ends xs ends

-- all but these variables are left as they were
pub record Leaves (vs : List ℕ) (s r : InstMap) : Type 0 where
  pub size : length r ≡ length s
  pub same : (x : ℕ) → times x vs ≡ 0 → known_at r x ≡ known_at s x

abbrev pub AllLeave : List ℕ → InstMap → List After → Type 0
AllLeave vs s [] = ⊤
AllLeave vs s (a ∷ ends) = Leaves vs s a.known × AllLeave vs s ends

-- what is known of these variables after a branch, put into its place
abbrev pub put_verdict : List ℕ → InstMap → Verdict After → Verdict After
put_verdict xs s (Ok a) = Ok (after (put_all xs a.known s) a.reach)
put_verdict xs s (Err e) = Err e

-- the variables that are free before and bound after, among these
abbrev pub picked : List ℕ → InstMap → InstMap → List ℕ
picked (x ∷ xs) (k ∷ s) (j ∷ r) = cond (is_newly_bound k j) (x ∷ picked xs s r) (picked xs s r)
picked xs s r = []

-- a variable is an io state before or after
abbrev pub some_state : (before after : InstMap) → Bool
some_state (k ∷ s) (j ∷ r) = (is_state k || is_state j) || some_state s r
some_state s r = false

-- a goal of this kind names an io state, where this is known of its variables
abbrev pub names_seen : GoalExpr → (before after : InstMap) → Bool
names_seen (ConjGoal ps) s r = false
names_seen (DisjGoal ps) s r = false
names_seen (IfGoal p t e) s r = false
names_seen t s r = some_state s r
