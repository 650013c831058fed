-- The call sites of one procedure stand together, since no site's owner is less than that of the site before.
use Rattle.std.specs.Prelude.{ℕ, ◌+◌, ◌-◌, ◌≤◌, ◌==◌, List, [], ◌∷◌, if◌then◌else◌, nat_lt}
use Rattle.md_static.specs.declared.entry.Site.{Site}

-- each owner is at least n, and none is less than the one before
abbrev pub OwnersRiseFrom : ℕ → List Site → Type 0
OwnersRiseFrom n [] = Unit {0}
OwnersRiseFrom n (x ∷ xs) = (n ≤ x.owner) × OwnersRiseFrom x.owner xs

-- how many sites belong to procedures before p: the number of its first site
abbrev pub first_site : ℕ → List Site → ℕ
first_site p [] = 0
first_site p (x ∷ xs) = (if nat_lt x.owner p then 1 else 0) + first_site p xs

-- the call sites of procedure p
abbrev pub sites_of : ℕ → List Site → List Site
sites_of p [] = []
sites_of p (x ∷ xs) = if x.owner == p then x ∷ sites_of p xs else sites_of p xs

-- the place of site s of procedure p among the sites of p
abbrev pub place_of : List Site → ℕ → ℕ → ℕ
place_of sites p s = s - first_site p sites
