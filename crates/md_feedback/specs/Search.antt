-- The search for candidates, goal by goal in text order.
use Rattle.std.specs.Prelude.{ℕ, suc, ◌≡◌, ◌+◌, ◌*◌, ◌<◌, ◌≤◌, ◌||◌, ◌==◌, Bool, true, false, if◌then◌else◌, List, [], ◌∷◌, ◌++◌, length, Option, Some, None, slice_get, slice_index_or}
use Rattle.std.specs.List.{list_any}
use Rattle.md_base.specs.declared.measure.Measure.TheVariants.{Calls}
use Rattle.md_hlds.specs.declared.types.Det.{Det}
use Rattle.md_hlds.specs.declared.types.Det.TheVariants as det
use Rattle.md_hlds.specs.HldsGoal.{HldsGoal, At, GoalExpr, SimpleGoal, CallGoal, HoCallGoal, ConjGoal, DisjGoal, IfGoal, NotGoal, SomeGoal, HldsGoals, nothing, also, goal_size, Numbered, numbered_goal, numbered_from}
use Rattle.md_hlds.specs.Hlds.{Hlds, hlds_of, Procedure, nth_procedure, goal_at}
use Rattle.md_names.specs.declared.named.Named.{Named}
use Rattle.md_names.specs.declared.named.Named.TheVariants as name
use Rattle.md_names.specs.Named.{name_at}
use Rattle.law_events.specs.Table.{HasSites, program_sites}
use Rattle.md_static.specs.Tables.{Static}
use Rattle.md_modes.specs.Branches.{some_of}
use Rattle.md_modes.specs.Classes.{binds_at}
use Rattle.md_modes.specs.Goals.{variables}
use Rattle.md_modes.specs.Notes.{program_notes}
use Rattle.md_cost.specs.View.{View, OfSite}
use Rattle.md_feedback.specs.declared.pairs.Pair.{Pair}
use Rattle.md_feedback.specs.declared.reading.Search.{Search}

-- tables have the call sites of a program under the numbers by which its goals name them
pub record HasSitesOf (s : Hlds) (tables : Static) : Type 0 where
  pub named : HasSites s
  pub each : length tables.sites ≡ length (program_sites s)

-- these goals stand in a program one after the other, the first under the number n
abbrev pub StandsFrom : Hlds → ℕ → List HldsGoal → Type 0
StandsFrom s n gs = (m : ℕ) (p : HldsGoal) → slice_get gs m ≡ Some p → goal_at s (n + m) ≡ Some p

-- ---- what a search reads

-- the program; for each call site its total calls, where they are many; and the procedure whose clause is searched
pub record Reading : Type 0 where
  pub program : Hlds
  pub heavy : List (Option ℕ)
  pub owner : ℕ

abbrev pub reading : Hlds → List (Option ℕ) → ℕ → Reading
reading s heavy owner = record { program = s; heavy = heavy; owner = owner }

abbrev pub reading_in : Search → Reading
reading_in search = reading (hlds_of search.moded.now) search.heavy.now search.owner

-- the total calls of a site, where they are many: its own calls are some, and they are at least `least` times as many
pub record IsHeavy (v : View) (least site total : ℕ) : Type 0 where
  pub own : ℕ
  pub is_own : v.own (OfSite site) Calls ≡ Some own
  pub is_total : v.total (OfSite site) Calls ≡ Some total
  pub some : 1 ≤ own
  pub many : least * own ≤ total

abbrev pub TellsHeavy : View → (least site : ℕ) → Option ℕ → Type 0
TellsHeavy v least site None = (total : ℕ) → IsHeavy v least site total → ⊥
TellsHeavy v least site (Some total) = IsHeavy v least site total

-- for each of so many sites
pub record AreHeavy (v : View) (least count : ℕ) (heavy : List (Option ℕ)) : Type 0 where
  pub each : length heavy ≡ count
  pub tells : (site : ℕ) → site < count → TellsHeavy v least site (slice_index_or heavy site None)

-- ---- costly calls

abbrev pub is_det : Det → Bool
is_det det.Det = true
is_det det.Semidet = false
is_det det.Multi = false
is_det det.Nondet = false
is_det det.Failure = false

abbrev pub is_det_procedure : Option (ℕ × Procedure) → Bool
is_det_procedure None = false
is_det_procedure (Some found) = is_det found.1.det

-- a name stands for a procedure that is declared `det`
abbrev pub is_det_name : Hlds → Named → Bool
is_det_name s (name.Functor k) = false
is_det_name s (name.Predicate q) = is_det_procedure (nth_procedure s q)
is_det_name s name.Nothing = false

-- the goal of this number names such a procedure
abbrev pub calls_det : Hlds → ℕ → Bool
calls_det s n = is_det_name s (name_at s n)

-- a site with its total calls
abbrev pub call_at : ℕ → Option ℕ → Option (ℕ × ℕ)
call_at site None = None
call_at site (Some total) = Some (site, total)

abbrev pub costly_expr : Reading → ℕ → GoalExpr → Option (ℕ × ℕ)
costly_expr c n (CallGoal site q ys) = if calls_det c.program n then call_at site (slice_index_or c.heavy site None) else None
costly_expr c n t = None

-- the site and the total calls of a goal of this number that is a costly call
abbrev pub costly_call : Reading → ℕ → HldsGoal → Option (ℕ × ℕ)
costly_call c n (At l t) = costly_expr c n t

-- ---- variables

abbrev pub is_among : List ℕ → ℕ → Bool
is_among xs x = list_any (λ y. y == x) xs

-- one of these variables occurs in a goal
abbrev pub mentions : List ℕ → HldsGoal → Bool
mentions bound g = some_of (is_among bound) (variables g)

abbrev pub mark_at : List Bool → ℕ → Bool
mark_at marks x = slice_index_or marks x false

-- the marked variables are these
abbrev pub AreMarked : List Bool → List ℕ → Type 0
AreMarked marks bound = (x : ℕ) → mark_at marks x ≡ is_among bound x

-- these were marked besides
abbrev pub Marks : (before after : List Bool) → List ℕ → Type 0
Marks before after xs = (x : ℕ) → mark_at after x ≡ (mark_at before x || is_among xs x)

abbrev pub binds_in : Reading → ℕ → List ℕ
binds_in c n = binds_at (program_notes c.program) n

-- ---- pairs

abbrev pub pair_of : (owner : ℕ) (a b : ℕ × ℕ) → Pair
pair_of owner a b = record { proc = owner; first = a.0; second = b.0; a = a.1; b = b.1 }

abbrev pub pair_with : (owner : ℕ) (a : ℕ × ℕ) → Option (ℕ × ℕ) → List Pair
pair_with owner a None = []
pair_with owner a (Some b) = pair_of owner a b ∷ []

-- A call with each costly call of these parts that doesn't depend on it. `bound` are the variables that it binds, or that
-- parts bind which depend on it.
abbrev pub partners : Reading → (a : ℕ × ℕ) (bound : List ℕ) → List Numbered → List Pair
partners c a bound [] = []
partners c a bound (g ∷ gs) =
    if mentions bound g.goal then partners c a (bound ++ binds_in c g.number) gs
    else pair_with c.owner a (costly_call c g.number g.goal) ++ partners c a bound gs

-- One more part behind a call: what was marked, and the pairs so far, become such as go on with the parts behind it.
abbrev pub TakesIn : Reading → (a : ℕ × ℕ) (n : ℕ) → HldsGoal → (marks after : List Bool) (pairs more : List Pair) → Type 0
TakesIn c a n p marks after pairs more =
    (bound : List ℕ) → AreMarked marks bound
    → (then' : List ℕ) × AreMarked after then' × ((gs : List Numbered) → pairs ++ partners c a bound (numbered_goal n p ∷ gs) ≡ more ++ partners c a then' gs)

abbrev pub led_by : Reading → Option (ℕ × ℕ) → (bound : List ℕ) → List Numbered → List Pair
led_by c None bound gs = []
led_by c (Some a) bound gs = partners c a bound gs

-- the pairs of a goal of this number and of the goals within it
abbrev mutual
  pub goal_pairs : Reading → ℕ → HldsGoal → List Pair
  goal_pairs c n (At l t) = expr_pairs c (n + 1) t

  pub expr_pairs : Reading → ℕ → GoalExpr → List Pair
  expr_pairs c n (SimpleGoal g) = []
  expr_pairs c n (CallGoal site q ys) = []
  expr_pairs c n (HoCallGoal site f ys) = []
  expr_pairs c n (ConjGoal ps) = each_pairs c n ps
  expr_pairs c n (DisjGoal ps) = arm_pairs c n ps
  expr_pairs c n (IfGoal p t e) = goal_pairs c n p ++ (goal_pairs c (n + goal_size p) t ++ goal_pairs c (n + goal_size p + goal_size t) e)
  expr_pairs c n (NotGoal p) = goal_pairs c n p
  expr_pairs c n (SomeGoal vs p) = goal_pairs c n p

  -- of the parts of a conjunction
  pub each_pairs : Reading → ℕ → HldsGoals → List Pair
  each_pairs c n nothing = []
  each_pairs c n (also p ps) =
      goal_pairs c n p ++ (led_by c (costly_call c n p) (binds_in c n) (numbered_from (n + goal_size p) ps) ++ each_pairs c (n + goal_size p) ps)

  pub arm_pairs : Reading → ℕ → HldsGoals → List Pair
  arm_pairs c n nothing = []
  arm_pairs c n (also p ps) = goal_pairs c n p ++ arm_pairs c (n + goal_size p) ps

-- of the clauses of these procedures, the first of which has this number, and its body that one
abbrev pub clause_pairs : Hlds → List (Option ℕ) → (owner n : ℕ) → List Procedure → List Pair
clause_pairs s heavy owner n [] = []
clause_pairs s heavy owner n (p ∷ ps) = goal_pairs (reading s heavy owner) n p.body ++ clause_pairs s heavy (suc owner) (n + goal_size p.body) ps

abbrev pub program_pairs : Hlds → List (Option ℕ) → List Pair
program_pairs s heavy = clause_pairs s heavy 0 0 s.procedures
