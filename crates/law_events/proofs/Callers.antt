-- A job that stands after a history: its innermost activation runs, each frame's caller is its activation's parent, the
-- goals name their sites, and what is left of the budget is few enough.
use Rattle.std.specs.Prelude.{⊤}
use Rattle.std.proofs.Common.{◌≡◌, ◌∙◌, ℕ, ◌+◌, ◌<◌, ◌≤◌, List, [], ◌∷◌, ◌++◌, Option, Some, slice_get, arith}
use Rattle.md_hlds.specs.HldsGoal.{HldsGoals, nothing, also, goal_size, Numbered, numbered_from}
use Rattle.md_hlds.specs.Hlds.{Hlds}
use Rattle.md_hlds.specs.Value.{Env}
use Rattle.md_hlds.specs.Trace.{Frame, excps}
use Rattle.md_trace.specs.declared.event.Event.{Event}
use Rattle.md_trace.specs.declared.event.Event.TheVariants.{Excp as ExcpOf}
use Rattle.md_trace.specs.Activation.{Activation, activations, parent_of, procedure_of}
use Rattle.md_trace.specs.PortHistory.{CallSite, SiteTable, current}
use Rattle.md_trace.specs.Laws.{procedure-below}
use Rattle.law_events.specs.Table.{goal_sites, goals_sites}
use Rattle.law_events.proofs.Goes.{count, Then, AtAnswer, Leaves}
use Rattle.law_events.proofs.Later.{Outside, Later, same_parent, same_procedure, later_then, later_as, later_excp}

-- ---- sites

-- each of these sites stands in the table under its number
abbrev pub ArePlaced : SiteTable → List (ℕ × CallSite) → Type 0
ArePlaced t [] = ⊤
ArePlaced t (x ∷ xs) = (slice_get t.sites x.0 ≡ Some x.1) × ArePlaced t xs

pub placed_first : (t : SiteTable) (xs ys : List (ℕ × CallSite)) → ArePlaced t (xs ++ ys) → ArePlaced t xs
placed_first t [] ys p = tt
placed_first t (x ∷ xs) ys p = (p.0, placed_first t xs ys p.1)

pub placed_second : (t : SiteTable) (xs ys : List (ℕ × CallSite)) → ArePlaced t (xs ++ ys) → ArePlaced t ys
placed_second t [] ys p = p
placed_second t (x ∷ xs) ys p = placed_second t xs ys p.1

-- so do those of goals of procedure q
abbrev pub AreSited : Hlds → SiteTable → ℕ → List Numbered → Type 0
AreSited s t q [] = ⊤
AreSited s t q (g ∷ gs) = ArePlaced t (goal_sites s q g.goal) × AreSited s t q gs

pub sited_before : (s : Hlds) (t : SiteTable) (q n : ℕ) (ps : HldsGoals) (goals : List Numbered)
    → ArePlaced t (goals_sites s q ps) → AreSited s t q goals → AreSited s t q (numbered_from n ps ++ goals)
sited_before s t q n nothing goals p rest = rest
sited_before s t q n (also p ps) goals placed rest =
    (placed_first t (goal_sites s q p) (goals_sites s q ps) placed, sited_before s t q (n + goal_size p) ps goals (placed_second t (goal_sites s q p) (goals_sites s q ps) placed) rest)

pub sited_alone : (s : Hlds) (t : SiteTable) (q n : ℕ) (ps : HldsGoals) → ArePlaced t (goals_sites s q ps) → AreSited s t q (numbered_from n ps)
sited_alone s t q n nothing p = tt
sited_alone s t q n (also p ps) placed =
    (placed_first t (goal_sites s q p) (goals_sites s q ps) placed, sited_alone s t q (n + goal_size p) ps (placed_second t (goal_sites s q p) (goals_sites s q ps) placed))

-- ---- callers

abbrev pub acts : List Frame → List ℕ
acts [] = []
acts (f ∷ js) = f.act ∷ acts js

-- the outermost activation of a job
abbrev pub root : ℕ → List Frame → ℕ
root a [] = a
root a (c ∷ js) = root c.act js

-- the callers of activation a: each is the parent of the one before, was called earlier, and has goals of its procedure;
-- `outer` is the parent of the last
abbrev pub AreCallers : Hlds → SiteTable → List Activation → Option ℕ → ℕ → List Frame → Type 0
AreCallers s t xs outer a [] = parent_of xs a ≡ outer
AreCallers s t xs outer a (c ∷ js) =
    (parent_of xs a ≡ Some c.act) × (c.act < a)
    × ((q : ℕ) × (procedure_of xs c.act ≡ Some q) × AreSited s t q c.goals)
    × AreCallers s t xs outer c.act js

-- they are so later too
pub callers_later : (s : Hlds) (t : SiteTable) (outer : Option ℕ) (js : List Frame) (a : ℕ) {those : List ℕ} {now : Option ℕ} {left less : ℕ} {h i : List Event}
    → Later those now left h less i → a < count h → AreCallers s t (activations h) outer a js → AreCallers s t (activations i) outer a js
callers_later s t outer [] a l below c = same_parent a l below ∙ c
callers_later s t outer (f ∷ js) a {h = h} l below c =
    let older : f.act < count h = omega (arith, below, c.1) in
    (same_parent a l below ∙ c.0, c.1, (c.2.0, same_procedure f.act l older ∙ c.2.1, c.2.2), callers_later s t outer js f.act l older c.3)

-- an activation isn't among its callers
pub outside_callers : (s : Hlds) (t : SiteTable) (xs : List Activation) (outer : Option ℕ) (b a : ℕ) (js : List Frame) → a ≤ b → AreCallers s t xs outer a js → Outside b (acts js)
outside_callers s t xs outer b a [] le c = tt
outside_callers s t xs outer b a (f ∷ js) le c = ((λ e. absurd (omega (arith, e, le, c.1))), outside_callers s t xs outer b f.act js (omega (arith, le, c.1)) c.3)

-- ---- a job

-- What follows a job: its answers, where its outermost activation runs; its end, where its innermost does; and an
-- exception, where the parent of the outermost runs.
pub record Ends (those : List ℕ) (inner outermost : ℕ) (outer : Option ℕ) (good : AtAnswer) (over out : Then) (left : ℕ) (h : List Event) : Type 0 where
  pub answers : (e : Env) (l : ℕ) (i : List Event) → Later those (Some outermost) left h l i → good e l i
  pub ends : (l : ℕ) (i : List Event) → Later those (Some inner) left h l i → over l i
  pub outs : (l : ℕ) (i : List Event) → Later those outer left h l i → out l i

pub record Job (s : Hlds) (t : SiteTable) (q a : ℕ) (goals : List Numbered) (js : List Frame) (outer : Option ℕ) (good : AtAnswer) (over out : Then) (left : ℕ) (h : List Event) : Type 0 where
  pub now : current h ≡ Some a
  pub its : procedure_of (activations h) a ≡ Some q
  pub sited : AreSited s t q goals
  pub callers : AreCallers s t (activations h) outer a js
  pub room : count h + left ≤ 4294967294
  pub ends : Ends (a ∷ acts js) a (root a js) outer good over out left h

module _ {s : Hlds} {t : SiteTable} {q a : ℕ} {goals : List Numbered} {js : List Frame} {outer : Option ℕ} {good : AtAnswer} {over out : Then} {left : ℕ} {h : List Event} (j : Job s t q a goals js outer good over out left h) where
  -- its activation was called
  pub job_below : a < count h
  job_below = procedure-below (activations h) a q j.its

  -- a job later, with other goals
  pub job_later : (others : List Numbered) (less : ℕ) (i : List Event) → AreSited s t q others → Later (a ∷ acts js) (Some a) left h less i → Job s t q a others js outer good over out less i
  job_later others less i sited l = record {
    now = l.runs;
    its = same_procedure a l job_below ∙ j.its;
    sited = sited;
    callers = callers_later s t outer js a l job_below j.callers;
    room = omega (arith, l.paid, j.room);
    ends = record {
      answers = λ e m k later. j.ends.answers e m k (later_then l (λ b below out. out) later);
      ends = λ m k later. j.ends.ends m k (later_then l (λ b below out. out) later);
      outs = λ m k later. j.ends.outs m k (later_then l (λ b below out. out) later);
    };
  }

-- exceptions leave the callers of a job, one after the other
pub leaves_excps : (s : Hlds) (t : SiteTable) (outer : Option ℕ) (out : Then) (those : List ℕ) (js : List Frame) (a left : ℕ) (h : List Event) (l : ℕ) (i : List Event)
    → AreCallers s t (activations h) outer a js → a < count h → Later those (parent_of (activations h) a) left h l i
    → ((b : ℕ) → Outside b those → Outside b (acts js)) → ((m : ℕ) (k : List Event) → Later those outer left h m k → out m k)
    → Leaves t out l i (excps js)
leaves_excps s t outer out those [] a left h l i c below later cover outs = outs l i (later_as later c)
leaves_excps s t outer out those (f ∷ js) a left h l i c below later cover outs =
    let older : f.act < count h = omega (arith, below, c.1) in (
      later.runs ∙ c.0,
      leaves_excps s t outer out those js f.act left h l (ExcpOf f.act ∷ i) c.3 older
          (later_as (later_excp f.act later (λ b old out. (cover b out).0)) (same_parent f.act later older))
          (λ b out. (cover b out).1) outs,
    )
