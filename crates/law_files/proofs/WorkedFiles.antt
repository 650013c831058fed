-- Damage, faulty lines and entries of a small profile, computed.
--
--   two_ways  main calls even on line 3 and odd on line 4, and these call each other on lines 7 and 9
use Rattle.std.proofs.Common.{◌≡◌, ℕ, List, [], ◌∷◌, ◌++◌, Some, None, true, codes, refl}
use Rattle.md_base.specs.declared.measure.Counts.{Counts}
use Rattle.md_static.specs.declared.entry.Proc.{Proc}
use Rattle.md_static.specs.declared.entry.Site.{Site}
use Rattle.md_static.specs.declared.entry.SiteKind.TheVariants.{Plain}
use Rattle.md_dynamic.specs.declared.link.LinkRow.{LinkRow}
use Rattle.md_dynamic.specs.Profile.{ProfileRows}
use Rattle.md_deepfile.specs.Bytes.{u32, file_bytes}
use Rattle.md_deepfile.specs.declared.damage.Kind.TheVariants.{Trailing}
use Rattle.law_files.specs.Spelled.{AreDamaged, IsFaulty}
use Rattle.law_files.specs.Views.{entries_in}
use Rattle.law_files.proofs.SpelledFiles.{are_damaged}
use Rattle.law_files.proofs.SpelledTexts.{is_faulty}

abbrev once : Counts
once = record { calls = 1; exits = 1; fails = 0; redos = 0; allocs = 0; words = 0; excps = 0 }

abbrev proc : List ℕ → ℕ → Proc
proc name arity = record { «module» = 0; name = name; arity = arity }

abbrev site : ℕ → ℕ → ℕ → Site
site owner line callee = record { owner = owner; line = line; kind = Plain callee }

abbrev link : ℕ → ℕ → ℕ → LinkRow
link from at to = record { caller = Some from; site = Some at; callee = to; own = once }

abbrev two_ways : ProfileRows
two_ways = record {
  statics = record {
    modules = codes "t" ∷ [];
    procs = proc (codes "main") 2 ∷ proc (codes "even") 1 ∷ proc (codes "odd") 1 ∷ [];
    sites = site 0 3 1 ∷ site 0 4 2 ∷ site 1 7 2 ∷ site 2 9 1 ∷ [];
  };
  nodes = 0 ∷ 1 ∷ 2 ∷ [];
  links = record { caller = None; site = None; callee = 0; own = once } ∷ link 0 0 1 ∷ link 1 2 2 ∷ link 2 3 1 ∷ link 0 1 2 ∷ [];
  finished = true;
}

-- The links at places 1 and 4 enter the clique of even and odd. Refuses a rule by which links inside a clique enter it too.
two_links_enter : entries_in two_ways (0 ∷ 1 ∷ 1 ∷ []) 1 ≡ 1 ∷ 4 ∷ []
two_links_enter = refl

-- The root link enters clique 0. Refuses a rule by which a link that starts nowhere enters no clique.
the_root_link_enters : entries_in two_ways (0 ∷ 1 ∷ 1 ∷ []) 0 ≡ 0 ∷ []
the_root_link_enters = refl

-- Refuses a rule by which bytes behind a profile's file don't matter: then it would spell the profile still.
a_byte_more : AreDamaged (file_bytes two_ways ++ 0 ∷ []) (record { at = 320; kind = Trailing })
unfolding u32
a_byte_more = are_damaged (file_bytes two_ways ++ 0 ∷ []) (record { at = 320; kind = Trailing }) refl

-- Refuses a rule by which the lines of a text count from 0.
another_version : IsFaulty (codes "mdprof dump 1\n") 1
another_version = is_faulty (codes "mdprof dump 1\n") 1 refl
