-- The views of two runs, row by row, worked out by hand.
--   order2  main calls x; x calls n, which calls r, and later x calls r, which calls x, which calls n, which calls r
--   mods    a chain of calls from module t to a, b and a again
use Rattle.std.proofs.Common.{ℕ, ◌≡◌, true, List, [], ◌∷◌, take, Option, Some, None, map, refl}
use Rattle.std.specs.Prelude.{codes}
use Rattle.md_base.specs.declared.measure.Measure.TheVariants.{Calls}
use Rattle.md_trace.specs.declared.event.Event.{Event}
use Rattle.md_trace.specs.declared.event.Event.TheVariants.{Call, Exit}
use Rattle.md_static.specs.declared.entry.Proc.{Proc}
use Rattle.md_static.specs.declared.entry.Site.{Site}
use Rattle.md_static.specs.declared.entry.SiteKind.TheVariants.{Plain}
use Rattle.md_cost.specs.View.{View, Row, Join, OfLink, OfContext, OfClique, OfProcedure, OfSite, OfModule}
use Rattle.law_views.specs.RunView.{run_view}

-- a call by an activation at a site
abbrev called : ℕ → ℕ → ℕ → ℕ → Event
called a p s q = Call a (Some p) (Some s) q

-- the latest event first
abbrev order2 : List Event
order2 =
    Exit 0 ∷ Exit 1 ∷ Exit 4 ∷ Exit 5 ∷ Exit 6 ∷ Exit 7 ∷ called 7 6 4 2 ∷ called 6 5 1 3 ∷ called 5 4 3 1 ∷ called 4 1 2 2
    ∷ Exit 2 ∷ Exit 3 ∷ called 3 2 4 2 ∷ called 2 1 1 3 ∷ called 1 0 0 1 ∷ Call 0 None None 0 ∷ []

abbrev mods : List Event
mods = Exit 0 ∷ Exit 1 ∷ Exit 2 ∷ Exit 3 ∷ called 3 2 2 3 ∷ called 2 1 1 2 ∷ called 1 0 0 1 ∷ Call 0 None None 0 ∷ []

abbrev proc : ℕ → List ℕ → ℕ → Proc
proc home name arity = record { «module» = home; name = name; arity = arity }

abbrev site : ℕ → ℕ → ℕ → Site
site owner line callee = record { owner = owner; line = line; kind = Plain callee }

abbrev join : Option ℕ → Option ℕ → ℕ → Join
join caller at callee = record { caller = caller; site = at; callee = callee }

-- own calls and calls in total
abbrev counts : View → Row → Option ℕ × Option ℕ
counts v r = (v.own r Calls, v.total r Calls)

-- of so many rows of a kind, from the first on
abbrev up_to : ℕ → List ℕ
up_to n = take n (0 ∷ 1 ∷ 2 ∷ 3 ∷ 4 ∷ 5 ∷ [])

abbrev rows : View → (ℕ → Row) → ℕ → List (Option ℕ × Option ℕ)
rows v kind n = map (λ (k : ℕ). counts v (kind k)) (up_to n)

-- ---- order2

abbrev order2_view : View
order2_view = run_view (record {
  modules = codes "t" ∷ [];
  procs = proc 0 (codes "main") 2 ∷ proc 0 (codes "x") 1 ∷ proc 0 (codes "r") 1 ∷ proc 0 (codes "n") 0 ∷ [];
  sites = site 0 3 1 ∷ site 1 5 3 ∷ site 1 5 2 ∷ site 2 7 1 ∷ site 3 9 2 ∷ [];
}) 0 order2 true (0 ∷ 1 ∷ 2 ∷ 3 ∷ 1 ∷ []) (0 ∷ 1 ∷ 2 ∷ 3 ∷ [])

order2_joins :
    (order2_view.nodes ≡ 0 ∷ 1 ∷ 3 ∷ 2 ∷ 2 ∷ [])
    × (order2_view.links ≡ join None None 0 ∷ join (Some 0) (Some 0) 1 ∷ join (Some 1) (Some 1) 2 ∷ join (Some 2) (Some 4) 3 ∷ join (Some 1) (Some 2) 4 ∷ join (Some 4) (Some 3) 1 ∷ [])
order2_joins = (refl, refl)

-- refuses a rule by which the root link leads out of a clique, and one by which a link within a clique has a total
order2_links : rows order2_view OfLink 6 ≡ (Some 1, Some 8) ∷ (Some 1, Some 7) ∷ (Some 2, Some 4) ∷ (Some 2, Some 2) ∷ (Some 1, None) ∷ (Some 1, None) ∷ []
order2_links = refl

-- refuses a rule by which each context of a clique has the clique's total
order2_contexts : rows order2_view OfContext 5 ≡ (Some 1, Some 8) ∷ (Some 2, Some 6) ∷ (Some 2, Some 4) ∷ (Some 2, Some 2) ∷ (Some 1, Some 1) ∷ []
order2_contexts = refl

order2_cliques : rows order2_view OfClique 4 ≡ (None, Some 8) ∷ (None, Some 7) ∷ (None, Some 4) ∷ (None, Some 2) ∷ []
order2_cliques = refl

-- refuses a rule that takes the number of a context for that of its procedure: n is the procedure 3, and the context 2
order2_procedures : rows order2_view OfProcedure 4 ≡ (Some 1, Some 8) ∷ (Some 2, Some 6) ∷ (Some 3, Some 3) ∷ (Some 2, Some 4) ∷ []
order2_procedures = refl

-- refuses a rule by which calls within a clique count in a site's total
order2_sites : rows order2_view OfSite 5 ≡ (Some 1, Some 7) ∷ (Some 2, Some 4) ∷ (Some 1, Some 0) ∷ (Some 1, Some 0) ∷ (Some 2, Some 2) ∷ []
order2_sites = refl

-- refuses a rule that adds up the totals of a module's procedures
order2_modules : rows order2_view OfModule 1 ≡ (Some 8, Some 8) ∷ []
order2_modules = refl

-- ---- mods

abbrev mods_view : View
mods_view = run_view (record {
  modules = codes "t" ∷ codes "a" ∷ codes "b" ∷ [];
  procs = proc 0 (codes "main") 2 ∷ proc 1 (codes "f") 0 ∷ proc 2 (codes "g") 0 ∷ proc 1 (codes "h") 0 ∷ [];
  sites = site 0 3 1 ∷ site 1 5 2 ∷ site 2 7 3 ∷ [];
}) 0 mods true (0 ∷ 1 ∷ 2 ∷ 3 ∷ []) (0 ∷ 1 ∷ 2 ∷ 3 ∷ [])

mods_joins :
    (mods_view.nodes ≡ 0 ∷ 1 ∷ 2 ∷ 3 ∷ [])
    × (mods_view.links ≡ join None None 0 ∷ join (Some 0) (Some 0) 1 ∷ join (Some 1) (Some 1) 2 ∷ join (Some 2) (Some 2) 3 ∷ [])
mods_joins = (refl, refl)

mods_links : rows mods_view OfLink 4 ≡ (Some 1, Some 4) ∷ (Some 1, Some 3) ∷ (Some 1, Some 2) ∷ (Some 1, Some 1) ∷ []
mods_links = refl

mods_contexts : rows mods_view OfContext 4 ≡ (Some 1, Some 4) ∷ (Some 1, Some 3) ∷ (Some 1, Some 2) ∷ (Some 1, Some 1) ∷ []
mods_contexts = refl

mods_cliques : rows mods_view OfClique 4 ≡ (None, Some 4) ∷ (None, Some 3) ∷ (None, Some 2) ∷ (None, Some 1) ∷ []
mods_cliques = refl

mods_procedures : rows mods_view OfProcedure 4 ≡ (Some 1, Some 4) ∷ (Some 1, Some 3) ∷ (Some 1, Some 2) ∷ (Some 1, Some 1) ∷ []
mods_procedures = refl

mods_sites : rows mods_view OfSite 3 ≡ (Some 1, Some 3) ∷ (Some 1, Some 2) ∷ (Some 1, Some 1) ∷ []
mods_sites = refl

-- refuses a rule by which what a.h costs counts twice for a, which is twice among its stations: that would be 4
mods_modules : rows mods_view OfModule 3 ≡ (Some 1, Some 4) ∷ (Some 2, Some 3) ∷ (Some 1, Some 2) ∷ []
mods_modules = refl
