-- The path of a context up to clique 0, over the links that enter cliques. For a profile that is read from a file it
-- plays the part of the stations: there is no trace to ask.
use Rattle.std.specs.Prelude.{ℕ, ◌≡◌, ◌<◌, Bool, true, zero, suc, List, [], ◌∷◌, length, Option, Some, None, slice_get, slice_index, unwrap_or, if◌then◌else◌, nat_le}
use Rattle.md_dynamic.specs.declared.link.LinkRow.{LinkRow}
use Rattle.md_clique.specs.Cliques.{clique_count}

-- where each link starts, if it does, and where it ends
abbrev pub ends : List LinkRow → List (Option ℕ × ℕ)
ends [] = []
ends (r ∷ rs) = (r.caller, r.callee) ∷ ends rs

-- a link leads to no older context than the one where it starts, if it starts in one
abbrev pub leads_up : Option ℕ → ℕ → Bool
leads_up None to = true
leads_up (Some from) to = nat_le from to

abbrev pub start_of_row : Option LinkRow → ℕ
start_of_row None = 0
start_of_row (Some r) = unwrap_or r.caller 0

-- where the link that enters clique k starts, by the places of the entering links
abbrev pub start_of : List LinkRow → List ℕ → ℕ → ℕ
start_of rows found k = start_of_row (slice_get rows (slice_index found k))

-- The path from context c until it comes to a clique of number q or lower, in at most n steps: the context, then the
-- start of the link that enters its clique, and so on.
abbrev pub path_to : List ℕ → (ℕ → ℕ) → ℕ → ℕ → ℕ → List ℕ
path_to cliques starts q zero c = c ∷ []
path_to cliques starts q (suc n) c = if nat_le (slice_index cliques c) q then c ∷ [] else c ∷ path_to cliques starts q n (starts (slice_index cliques c))

-- The whole path. An entering link starts in a clique of a lower number, so there are no more steps than that number.
abbrev pub path_of : List ℕ → List ℕ → List LinkRow → ℕ → List ℕ
path_of cliques found rows c = path_to cliques (start_of rows found) 0 (slice_index cliques c) c

-- the link that enters a clique other than 0 starts in a clique of a lower number
pub record DoRise (cliques found : List ℕ) (rows : List LinkRow) (k : ℕ) : Type 0 where
  pub row : LinkRow
  pub start : ℕ
  pub there : slice_get rows (slice_index found k) ≡ Some row
  pub caller : row.caller ≡ Some start
  pub below : start < length cliques
  pub lower : slice_index cliques start < k

abbrev pub EntriesRise : List ℕ → List ℕ → List LinkRow → Type 0
EntriesRise cliques found rows = (k : ℕ) → 0 < k → k < clique_count cliques → DoRise cliques found rows k
