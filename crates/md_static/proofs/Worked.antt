-- Which tables are sound, computed on those of a program that counts down, and on tables that break a rule each.
use Rattle.std.proofs.Common.{ℕ, ◌≡◌, List, [], ◌∷◌, length, replicate, refl, rules, arith}
use Rattle.std.proofs.lemmas.List.{length-replicate}
use Rattle.md_static.specs.declared.entry.Proc.{Proc}
use Rattle.md_static.specs.declared.entry.Site.{Site}
use Rattle.md_static.specs.declared.entry.SiteKind.TheVariants.{Plain}
use Rattle.md_static.specs.Sites.{first_site, sites_of, place_of}
use Rattle.md_static.specs.Sound.{AreFew, IsSound}
use Rattle.md_static.specs.Tables.{Static}

-- t
abbrev module_t : List (List ℕ)
module_t = (116 ∷ []) ∷ []

-- main/2
abbrev main : Proc
main = record { «module» = 0; name = 109 ∷ 97 ∷ 105 ∷ 110 ∷ []; arity = 2 }

-- count/1
abbrev count : Proc
count = record { «module» = 0; name = 99 ∷ 111 ∷ 117 ∷ 110 ∷ 116 ∷ []; arity = 1 }

-- a call of count by this procedure, on this line
abbrev at_line : ℕ → ℕ → Site
at_line owner line = record { owner = owner; line = line; kind = Plain 1 }

-- main calls count on line 3, and count calls itself on line 5
abbrev pub counting : Static
counting = record { modules = module_t; procs = main ∷ count ∷ []; sites = at_line 0 3 ∷ at_line 1 5 ∷ [] }

pub counting_is_sound : IsSound counting
counting_is_sound = search rules

-- no line is 0
line_of_zero : IsSound (record { modules = module_t; procs = main ∷ count ∷ []; sites = at_line 0 0 ∷ at_line 1 5 ∷ [] }) → ⊥
line_of_zero sound = absurd (let line = sound.lines_from_one 0 (at_line 0 0) (omega arith) in omega (arith, line))

-- two procedures of one module have two names
one_name : IsSound (record { modules = module_t; procs = main ∷ main ∷ []; sites = [] }) → ⊥
one_name sound = sound.procs_differ 0 1 main (omega arith) (omega arith) refl refl

-- the sites of a procedure stand together
sites_apart : IsSound (record { modules = module_t; procs = main ∷ count ∷ []; sites = at_line 1 5 ∷ at_line 0 3 ∷ [] }) → ⊥
sites_apart sound = absurd (let rise = sound.owners_rise.1.0 in omega (arith, rise))

-- the sites of count, and their places
places : (sites_of 1 counting.sites ≡ at_line 1 5 ∷ []) × (first_site 1 counting.sites ≡ 1) × (place_of counting.sites 1 1 ≡ 0)
places = (refl, refl, refl)

-- ---- how many there are

-- refuses a rule by which there has to be a call site
few_without_sites : AreFew (record { modules = module_t; procs = main ∷ []; sites = [] })
few_without_sites = record { modules = (omega arith, omega arith); procs = (omega arith, omega arith); sites = omega arith }

-- refuse rules by which a program may have no module, or no procedure
no_module : AreFew (record { modules = []; procs = main ∷ []; sites = [] }) → ⊥
no_module few = absurd (let some = few.modules.0 in omega (arith, some))

no_procedure : AreFew (record { modules = module_t; procs = []; sites = [] }) → ⊥
no_procedure few = absurd (let some = few.procs.0 in omega (arith, some))

-- refuses a rule by which a list may have 2^32 members, a number that 32 bits have no room for
one_too_many : (n : ℕ) → n ≡ 4294967295 → AreFew (record { modules = module_t; procs = replicate n main; sites = [] }) × (AreFew (record { modules = module_t; procs = main ∷ replicate n main; sites = [] }) → ⊥)
one_too_many n is =
    let size = length-replicate n main in (
      record { modules = (omega arith, omega arith); procs = (omega (arith, size, is), omega (arith, size, is)); sites = omega arith },
      λ few. absurd (let procs = few.procs.1 in omega (arith, size, is, procs)),
    )
