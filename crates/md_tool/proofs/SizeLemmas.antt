-- A profile file has at least 36 bytes for each link.
use Rattle.std.proofs.Common.{◌≡◌, refl, ap, inl, inr, ◌⊎◌, ℕ, zero, suc, ◌+◌, ◌*◌, ◌≤◌, ◌<◌, ◌^◌, List, [], ◌∷◌, ◌++◌, length, length-append, take, Option, arith}
use Rattle.std.specs.Prelude.{All, flat_map, slice_index_or}
use Rattle.md_base.specs.Files.{Files}
use Rattle.md_deepfile.specs.Bytes.{u32, or_none, numbers_of, name_bytes, proc_bytes, site_bytes, link_bytes, each, magic, body_bytes, file_bytes, file_bytes1}
use Rattle.md_deepfile.specs.Loads.{FileSpells}
use Rattle.md_deepfile.specs.Spells.{Spells}
use Rattle.md_dynamic.specs.declared.link.LinkRow.{LinkRow}
use Rattle.md_dynamic.specs.Profile.{ProfileRows}
use Rattle.md_cost.specs.Loading.{LoadedRows}
use Rattle.md_tool.specs.Stored.{longest_profile}
use Rattle.md_tool.specs.Summed.{AreLoaded}

four_bytes : (n : ℕ) → length (u32 n) ≡ 4
unfolding u32
four_bytes n = refl

four_more : (n : ℕ) (bytes : List ℕ) → length (u32 n ++ bytes) ≡ 4 + length bytes
four_more n bytes = let a = length-append (u32 n) bytes in let b = four_bytes n in omega (arith, a, b)

four_each : (ns : List ℕ) → length (flat_map u32 ns) ≡ 4 * length ns
four_each [] = refl
four_each (n ∷ ns) = let a = four_more n (flat_map u32 ns) in let b = four_each ns in omega (arith, a, b)

-- a link has three numbers and its counts
link_has : (k : ℕ) (l : LinkRow) → length (link_bytes k l) ≡ 12 + 4 * length (take k (numbers_of l.own))
link_has k l =
    let counts = four_each (take k (numbers_of l.own)) in
    let third = four_more l.callee (flat_map u32 (take k (numbers_of l.own))) in
    let second = four_more (or_none l.site) (u32 l.callee ++ flat_map u32 (take k (numbers_of l.own))) in
    let first = four_more (or_none l.caller) (u32 (or_none l.site) ++ (u32 l.callee ++ flat_map u32 (take k (numbers_of l.own)))) in
    omega (arith, counts, third, second, first)

links_have : (k : ℕ) → ((l : LinkRow) → 36 ≤ length (link_bytes k l)) → (ls : List LinkRow) → 36 * length ls ≤ length (flat_map (link_bytes k) ls)
links_have k one [] = omega arith
links_have k one (l ∷ ls) = let a = length-append (link_bytes k l) (flat_map (link_bytes k) ls) in let b = one l in let c = links_have k one ls in omega (arith, a, b, c)

behind : (xs ys : List ℕ) → length ys ≤ length (xs ++ ys)
behind xs ys = let a = length-append xs ys in omega (arith, a)

-- the links stand last
body_has : (k : ℕ) → ((l : LinkRow) → 36 ≤ length (link_bytes k l)) → (f : ProfileRows) → 36 * length f.links ≤ length (body_bytes k f)
body_has k one f =
    let links = links_have k one f.links in
    let a = behind (u32 (length f.links)) (flat_map (link_bytes k) f.links) in
    let b = behind (each u32 f.nodes) (each (link_bytes k) f.links) in
    let c = behind (each site_bytes f.statics.sites) (each u32 f.nodes ++ each (link_bytes k) f.links) in
    let d = behind (each proc_bytes f.statics.procs) (each site_bytes f.statics.sites ++ (each u32 f.nodes ++ each (link_bytes k) f.links)) in
    let e = behind (each name_bytes f.statics.modules) (each proc_bytes f.statics.procs ++ (each site_bytes f.statics.sites ++ (each u32 f.nodes ++ each (link_bytes k) f.links))) in
    omega (arith, links, a, b, c, d, e)

seven : (l : LinkRow) → 36 ≤ length (link_bytes 7 l)
seven l = let a = link_has 7 l in omega (arith, a)

six : (l : LinkRow) → 36 ≤ length (link_bytes 6 l)
six l = let a = link_has 6 l in omega (arith, a)

file_has : (bytes : List ℕ) (f : ProfileRows) → Spells bytes f → 36 * length f.links ≤ length bytes
file_has bytes f s = by s.are
  where
    by : (bytes ≡ file_bytes f) ⊎ ((bytes ≡ file_bytes1 f) × All (λ l. l.own.excps ≡ 0) f.links) → 36 * length f.links ≤ length bytes
    by (inl is) = let a = ap (λ (bs : List ℕ). length bs) is in let b = behind magic (50 ∷ body_bytes 7 f) in let c = body_has 7 seven f in omega (arith, a, b, c)
    by (inr h) = let a = ap (λ (bs : List ℕ). length bs) h.0 in let b = behind magic (49 ∷ body_bytes 6 f) in let c = body_has 6 six f in omega (arith, a, b, c)

-- so the longest one has fewer than 2 ^ 25
few_in_file : (held : Option Files) (name : List ℕ) (f : ProfileRows) → FileSpells held name longest_profile f → length f.links < 2 ^ 25
few_in_file held name f h = let a = file_has h.0 f h.3 in let b = h.2 in omega (arith, a, b)

pub few_links : (held : Option Files) (names : List (List ℕ)) (fs : List LoadedRows) → AreLoaded held names fs → (k : ℕ) (d : LoadedRows) → k < length fs → length (slice_index_or fs k d).profile.links < 2 ^ 25
few_links held [] [] h k d less = absurd (omega (arith, less))
few_links held [] (f ∷ fs) h k d less = absurd h
few_links held (n ∷ ns) [] h k d less = absurd h
few_links held (n ∷ ns) (f ∷ fs) h zero d less = few_in_file held n f.profile h.0.spelled
few_links held (n ∷ ns) (f ∷ fs) h (suc k) d less = few_links held ns fs h.1 k d (omega (arith, less))
