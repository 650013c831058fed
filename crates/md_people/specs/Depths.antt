-- How far cliques stand from clique 0.
use Rattle.std.specs.Prelude.{ℕ, ◌≡◌, ◌<◌, ◌≤◌, ◌+◌, min, List, ◌++◌, length, reverse, slice_index}
use Rattle.md_cost.specs.Loading.{LoadedRows}
use Rattle.md_cost.specs.Paths.{path_of, start_of}

-- the path of a context up to clique 0
abbrev pub path_up : LoadedRows → ℕ → List ℕ
path_up l c = path_of l.cliques l.entries l.profile.links c

abbrev pub start_up : LoadedRows → ℕ → ℕ
start_up l k = start_of l.profile.links l.entries k

-- the top of a context: the last of its first hundred stations from clique 0 on
pub record HasTop (l : LoadedRows) (c t : ℕ) : Type 0 where
  pub there : t < length l.profile.nodes
  pub below : List ℕ
  pub is : path_up l c ≡ below ++ path_up l t
  pub size : length (path_up l t) ≡ min (length (path_up l c)) 100

-- of each of the first n cliques how many stations stand above those of its contexts, and the top of where it is entered from
pub record AreDepths (l : LoadedRows) (n : ℕ) (places tops : List ℕ) : Type 0 where
  pub each : length places ≡ n
  pub each_top : length tops ≡ n
  pub low : (k : ℕ) → k < n → slice_index places k ≤ k
  pub are : (c : ℕ) → c < length l.profile.nodes → slice_index l.cliques c < n → length (path_up l c) ≡ slice_index places (slice_index l.cliques c) + 1
  pub tops_are : (k : ℕ) → 0 < k → k < n → HasTop l (start_up l k) (slice_index tops k)

-- the last hundred stations of a context, which has more
pub record AreLast (l : LoadedRows) (c : ℕ) (last : List ℕ) : Type 0 where
  pub above : ℕ
  pub is : path_up l c ≡ reverse last ++ path_up l above
  pub size : length last ≡ 100
