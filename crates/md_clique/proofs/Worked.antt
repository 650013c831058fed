-- The definitions, computed on three small graphs.
--
--   order2  0 → 1 → 2 → 3, and 1 and 4 call each other
--   order1  0 → 1, and 1, 2 and 3 reach one another
--   pair    0 calls 1 and 2, which call each other: their clique is entered twice
use Rattle.std.proofs.Common.{◌≡◌, ℕ, zero, suc, ◌<◌, true, false, List, [], ◌∷◌, take, Option, Some, None, refl, arith}
use Rattle.md_trace.specs.Reaches.{Reaches, here, more}
use Rattle.md_clique.specs.Cliques.{clique_count, members_of}
use Rattle.md_clique.specs.Entries.{edges_of, entries, AreReached}
use Rattle.md_clique.specs.declared.entries.Twice.{Twice}
use Rattle.md_clique.specs.Found.{first_of, is_lower, IsLowestTwice}
use Rattle.md_clique.specs.Links.{end_of, links_of, runs_of, start_of, starts_of}

abbrev pub order2 : List (Option ℕ × ℕ)
order2 = (None, 0) ∷ (Some 0, 1) ∷ (Some 1, 2) ∷ (Some 2, 3) ∷ (Some 1, 4) ∷ (Some 4, 1) ∷ []

abbrev order2_cliques : List ℕ
order2_cliques = 0 ∷ 1 ∷ 2 ∷ 3 ∷ 1 ∷ []

order2_members : (clique_count order2_cliques ≡ 4) × (members_of order2_cliques 1 ≡ 1 ∷ 4 ∷ []) × (members_of order2_cliques 2 ≡ 2 ∷ [])
order2_members = (refl, refl, refl)

order2_entries : (entries order2_cliques order2 0 ≡ 0 ∷ []) × (entries order2_cliques order2 1 ≡ 1 ∷ []) × (entries order2_cliques order2 2 ≡ 2 ∷ []) × (entries order2_cliques order2 3 ≡ 3 ∷ [])
order2_entries = (refl, refl, refl, refl)

order2_walks : (v : ℕ) → v < 5 → Reaches (edges_of order2) 0 v
order2_walks zero h = here 0
order2_walks (suc zero) h = more 0 0 1 1 refl (here 1)
order2_walks (suc (suc zero)) h = more 0 0 1 2 refl (more 1 1 2 2 refl (here 2))
order2_walks (suc (suc (suc zero))) h = more 0 0 1 3 refl (more 1 1 2 3 refl (more 2 2 3 3 refl (here 3)))
order2_walks (suc (suc (suc (suc zero)))) h = more 0 0 1 4 refl (more 3 1 4 4 refl (here 4))
order2_walks (suc (suc (suc (suc (suc v))))) h = absurd (omega arith)

pub order2_reached : (n : ℕ) → n ≡ 5 → AreReached order2 n
order2_reached n e = record { place = 0; root = 0; is_root = refl; reached = λ v h. order2_walks v (omega arith) }

abbrev order1 : List (Option ℕ × ℕ)
order1 = (None, 0) ∷ (Some 0, 1) ∷ (Some 1, 2) ∷ (Some 2, 1) ∷ (Some 1, 3) ∷ (Some 3, 2) ∷ []

abbrev order1_cliques : List ℕ
order1_cliques = 0 ∷ 1 ∷ 1 ∷ 1 ∷ []

order1_members : (clique_count order1_cliques ≡ 2) × (members_of order1_cliques 1 ≡ 1 ∷ 2 ∷ 3 ∷ []) × (entries order1_cliques order1 1 ≡ 1 ∷ [])
order1_members = (refl, refl, refl)

abbrev pub pair : List (Option ℕ × ℕ)
pair = (None, 0) ∷ (Some 0, 1) ∷ (Some 0, 2) ∷ (Some 1, 2) ∷ (Some 2, 1) ∷ []

-- the links at places 1 and 2 enter clique 1
pair_entries : (entries (0 ∷ 1 ∷ 1 ∷ []) pair 0 ≡ 0 ∷ []) × (entries (0 ∷ 1 ∷ 1 ∷ []) pair 1 ≡ 1 ∷ 2 ∷ [])
pair_entries = (refl, refl)

pair_walks : (v : ℕ) → v < 3 → Reaches (edges_of pair) 0 v
pair_walks zero h = here 0
pair_walks (suc zero) h = more 0 0 1 1 refl (here 1)
pair_walks (suc (suc zero)) h = more 1 0 2 2 refl (here 2)
pair_walks (suc (suc (suc v))) h = absurd (omega arith)

pub pair_reached : (n : ℕ) → n ≡ 3 → AreReached pair n
pair_reached n e = record { place = 0; root = 0; is_root = refl; reached = λ v h. pair_walks v (omega arith) }

-- So the first link of each clique is kept, or a number that is no place where there is none yet, and clique 1 is the
-- lowest that is entered twice, by its first two links. Where two cliques are, a higher one isn't told.
abbrev pair_twice : Option Twice
pair_twice = Some (record { clique = 1; a = 1; b = 2 })

pair_found : (first_of (entries (0 ∷ 1 ∷ 1 ∷ []) pair 1) ≡ 1) × (first_of (entries (0 ∷ 1 ∷ 1 ∷ []) (take 1 pair) 1) ≡ 4294967295) × (is_lower 0 pair_twice ≡ true) × (is_lower 1 pair_twice ≡ false) × (is_lower 1 None ≡ true)
pair_found = (refl, refl, refl, refl, refl)

pair_lowest : IsLowestTwice 2 (entries (0 ∷ 1 ∷ 1 ∷ []) pair) pair_twice
pair_lowest = (omega arith, refl, λ q lt. (let e : q ≡ 0 = omega arith in rw e (omega arith)))

-- ---- lists

-- Node 0 leads to 1 and 2, node 1 to 2, and node 2 nowhere: refuses lists that begin where the last node's end, and a last list that is
-- left out.
pair_lists : links_of 3 (0 ∷ 2 ∷ 3 ∷ 3 ∷ []) (1 ∷ 2 ∷ 2 ∷ []) ≡ (0, 1) ∷ (0, 2) ∷ (1, 2) ∷ []
pair_lists = refl

last_list : links_of 2 (0 ∷ 0 ∷ 1 ∷ []) (0 ∷ []) ≡ (1, 0) ∷ []
last_list = refl

-- a link starts at its first number, and its run is that of its start
pair_starts : (starts_of ((4097, 1) ∷ (2, 9000) ∷ []) ≡ 4097 ∷ 2 ∷ []) × (runs_of 4096 ((4097, 1) ∷ (2, 9000) ∷ []) ≡ 1 ∷ 0 ∷ []) × (start_of ((4, 1) ∷ (2, 9) ∷ []) 1 ≡ 2) × (end_of ((4, 1) ∷ (2, 9) ∷ []) 1 ≡ 9)
pair_starts = (refl, refl, refl, refl)
