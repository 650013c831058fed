-- The tables of a program: its modules, its procedures, and the call sites of its clauses.
use Rattle.std.specs.Prelude.{ℕ, suc, min, List, [], ◌∷◌, ◌++◌, length, map, Option, Some, None}
use Rattle.std.specs.List.{flat_map}
use Rattle.md_hlds.specs.HldsGoal.{HldsGoal, At, GoalExpr, CallGoal, HoCallGoal, HldsGoals, goals_within, goals_among}
use Rattle.md_hlds.specs.Hlds.{Procedure, Hlds, procedure_called}
use Rattle.md_static.specs.declared.entry.Proc.{Proc}
use Rattle.md_static.specs.declared.entry.Site.{Site}
use Rattle.md_static.specs.declared.entry.SiteKind.{SiteKind}
use Rattle.md_static.specs.declared.entry.SiteKind.TheVariants.{Plain, HigherOrder}
use Rattle.md_static.specs.Tables.{Static}
use Rattle.md_ports.specs.Modules.{module_of, modules_of, number_of}

-- ---- procedures

-- a number of arguments as the tables tell it: 255 stands for all greater ones, which no text has
abbrev pub arity_of : ℕ → ℕ
arity_of n = min n 255

abbrev pub proc_of : Hlds → Procedure → Proc
proc_of s p = record { «module» = number_of (modules_of s) (module_of s p); name = p.name; arity = arity_of (length p.args) }

-- ---- call sites

-- what a plain call calls: the procedure found. A call of a name that the program doesn't have, which the checks refuse,
-- has no callee.
abbrev pub kind_found : Option (ℕ × Procedure) → SiteKind
kind_found None = HigherOrder
kind_found (Some found) = Plain found.0

abbrev pub site_at : ℕ → ℕ → SiteKind → Site
site_at owner line kind = record { owner = owner; line = line; kind = kind }

-- the call site that a goal is, if it is one
abbrev pub expr_site : Hlds → (owner line : ℕ) → GoalExpr → List Site
expr_site s owner line (CallGoal site q ys) = site_at owner line (kind_found (procedure_called s q)) ∷ []
expr_site s owner line (HoCallGoal site f ys) = site_at owner line HigherOrder ∷ []
expr_site s owner line t = []

abbrev pub site_of : Hlds → (owner : ℕ) → HldsGoal → List Site
site_of s owner (At line t) = expr_site s owner line t

-- the call sites of a goal of this procedure, in text order
abbrev pub goal_sites : Hlds → (owner : ℕ) → HldsGoal → List Site
goal_sites s owner g = flat_map (site_of s owner) (goals_within g)

abbrev pub all_sites : Hlds → (owner : ℕ) → HldsGoals → List Site
all_sites s owner gs = flat_map (site_of s owner) (goals_among gs)

-- those of these procedures' clauses, the first of which has the number n
abbrev pub sites_from : Hlds → (n : ℕ) → List Procedure → List Site
sites_from s n [] = []
sites_from s n (p ∷ ps) = goal_sites s n p.body ++ sites_from s (suc n) ps

-- a call site's owner and line
abbrev pub owner_and_line : Site → ℕ × ℕ
owner_and_line x = (x.owner, x.line)

-- ---- the tables

abbrev pub statics_of : Hlds → Static
statics_of s = record {
  modules = modules_of s;
  procs = map (proc_of s) s.procedures;
  sites = sites_from s 0 s.procedures;
}
