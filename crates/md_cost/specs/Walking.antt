-- A walk down the tree of contexts, from the contexts of clique 0, from each context to those right above whose cliques an entering link
-- starts there. It tells for each context whether one above it on its path has the same key.
use Rattle.std.specs.Prelude.{ℕ, zero, suc, ◌≡◌, ◌≢◌, ◌<◌, ◌≤◌, ◌==◌, ◌+◌, ◌-◌, ◌*◌, ◌⊎◌, sum_by, nat_lt, Bool, true, false, not, List, [], ◌∷◌, length, Option, Some, None, slice_index, slice_index_or, slice_set, if◌then◌else◌}
use Rattle.std.specs.List.{list_any}
use Rattle.md_trace.specs.Context.{same_option}
use Rattle.md_clique.specs.Cliques.{clique_count}
use Rattle.md_cost.specs.Paths.{path_to}

-- what is right above a context: the start of the link that enters its clique; above one of clique 0 is the number past
-- the last context
abbrev pub above : List ℕ → (ℕ → ℕ) → ℕ → ℕ
above cliques starts d = if slice_index cliques d == 0 then length cliques else starts (slice_index cliques d)

-- a context and those above it; nothing past the last context
abbrev pub upward : List ℕ → (ℕ → ℕ) → ℕ → List ℕ
upward cliques starts d = if nat_lt d (length cliques) then path_to cliques starts 0 (slice_index cliques d) d else []

-- the first of n items from item v on with this parent, or none
abbrev pub IsFirst : ℕ → (ℕ → ℕ) → ℕ → ℕ → Option ℕ → Type 0
IsFirst n parent p v None = (d : ℕ) → v ≤ d → d < n → parent d ≢ p
IsFirst n parent p v (Some c) = (v ≤ c) × (c < n) × (parent c ≡ p) × ((d : ℕ) → v ≤ d → d < c → parent d ≢ p)

-- after each item the next one of its parent
pub record AreNexts (n : ℕ) (parent : ℕ → ℕ) (next : List (Option ℕ)) : Type 0 where
  pub each : length next ≡ n
  pub is : (d : ℕ) → d < n → IsFirst n parent (parent d) (suc d) (slice_index_or next d None)

-- the first item of each parent, and the next ones
pub record AreThreaded (n : ℕ) (parent : ℕ → ℕ) (first next : List (Option ℕ)) : Type 0 where
  pub each_first : length first ≡ suc n
  pub firsts : (p : ℕ) → p ≤ n → IsFirst n parent p 0 (slice_index_or first p None)
  pub nexts : AreNexts n parent next

-- the item of which this is a bound, which is one more than it, or 0 where there is none
abbrev pub at_bound : ℕ → Option ℕ
at_bound zero = None
at_bound (suc c) = Some c

-- the parent of each item
pub record AreUps (n : ℕ) (parent : ℕ → ℕ) (up : List ℕ) : Type 0 where
  pub each : length up ≡ n
  pub is : (d : ℕ) → d < n → slice_index up d ≡ parent d

-- the key of an item, unless one of these has it
abbrev pub mark_of : (ℕ → Option ℕ) → ℕ → List ℕ → Option ℕ
mark_of key d ups = if list_any (λ e. same_option (key d) (key e)) ups then None else key d

-- the key of an item that is flagged
abbrev pub marked_by : List Bool → ℕ → Option ℕ → Option ℕ
marked_by flags d key = if slice_index_or flags d false then key else None

abbrev pub marked : (ℕ → Option ℕ) → List Bool → ℕ → Option ℕ
marked key flags d = marked_by flags d (key d)

-- each context is flagged where no context above it has its key
pub record AreMarks (cliques : List ℕ) (starts : ℕ → ℕ) (key : ℕ → Option ℕ) (flags : List Bool) : Type 0 where
  pub each : length flags ≡ length cliques
  pub told : (d : ℕ) → d < length cliques → marked key flags d ≡ mark_of key d (upward cliques starts (above cliques starts d))

-- the mark of an item with this key, by the keys of what is above it
abbrev pub claimed : List Bool → Option ℕ → Option ℕ
claimed active None = None
claimed active (Some q) = if slice_index_or active q false then None else Some q

abbrev pub is_free : List Bool → Option ℕ → Bool
is_free active None = false
is_free active (Some q) = not (slice_index_or active q false)

abbrev pub with_key : List Bool → Option ℕ → List Bool
with_key active None = active
with_key active (Some q) = slice_set active q true

abbrev pub without_key : List Bool → Option ℕ → List Bool
without_key active None = active
without_key active (Some q) = slice_set active q false

-- item d was entered: the first child of its parent that was not is a later one
abbrev pub IsEntered : (ℕ → ℕ) → List (Option ℕ) → ℕ → Type 0
IsEntered parent first d = (c : ℕ) → slice_index_or first (parent d) None ≡ Some c → d < c

abbrev pub AllEntered : (ℕ → ℕ) → List (Option ℕ) → List ℕ → Type 0
AllEntered parent first [] = Unit {0}
AllEntered parent first (d ∷ ds) = IsEntered parent first d × AllEntered parent first ds

-- What holds while the walk is at an item, or above all of them: the first child of each that was not entered; what is
-- above was entered; who was entered has no such child, or the walk is at it or below; marks of those entered; and which
-- keys those have where the walk is.
pub record Stands (cliques : List ℕ) (starts : ℕ → ℕ) (key : ℕ → Option ℕ) (count : ℕ) (first : List (Option ℕ)) (active flags : List Bool) (at : ℕ) : Type 0 where
  pub each_first : length first ≡ suc (length cliques)
  pub each_active : length active ≡ count
  pub each_flag : length flags ≡ length cliques
  pub at_there : at ≤ length cliques
  pub firsts : (p c : ℕ) → p ≤ length cliques → slice_index_or first p None ≡ Some c → (c < length cliques) × (above cliques starts c ≡ p)
  pub line : AllEntered (above cliques starts) first (upward cliques starts at)
  pub done : (d : ℕ) → d < length cliques → IsEntered (above cliques starts) first d → (slice_index_or first d None ≡ None) ⊎ (list_any (λ e. e == d) (upward cliques starts at) ≡ true)
  pub told : (d : ℕ) → d < length cliques → IsEntered (above cliques starts) first d → marked key flags d ≡ mark_of key d (upward cliques starts (above cliques starts d))
  pub held : (q : ℕ) → q < count → slice_index_or active q false ≡ list_any (λ e. same_option (Some q) (key e)) (upward cliques starts at)

-- what is left: the items from the first one on that was not entered, and the way up
abbrev pub left_of : ℕ → Option ℕ → ℕ
left_of n None = 0
left_of n (Some c) = n - c

abbrev pub rank : List ℕ → ℕ → ℕ
rank cliques d = if nat_lt d (length cliques) then slice_index cliques d + 1 else 0

abbrev pub work : List ℕ → List (Option ℕ) → ℕ → ℕ
work cliques first at = sum_by (left_of (length cliques)) first * (clique_count cliques + 1) + rank cliques at
