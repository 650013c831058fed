-- The determinism of a clause as it is read off the notes that the mode checks leave at the goals: goals are met in text
-- order, with their numbers, and nothing is asked of what is known of the variables.
use Rattle.std.specs.Prelude.{ℕ, suc, ◌+◌, Bool, true, false, not, ◌&&◌, ◌||◌, List, [], ◌∷◌, ◌++◌, length, Option, Some, None, cond, is_none, slice_get}
use Rattle.md_hlds.specs.declared.types.Det.TheVariants as det
use Rattle.md_hlds.specs.HldsGoal.{Simple, Succeeds, Fails, Unifies, Computes, Compares, WritesInt, WritesText, EndsLine, Raises, HldsGoal, At, GoalExpr, SimpleGoal, CallGoal, HoCallGoal, ConjGoal, DisjGoal, IfGoal, NotGoal, SomeGoal, HldsGoals, nothing, also}
use Rattle.md_hlds.specs.Hlds.{HldsTypeDef, Procedure, Hlds, nth_procedure}
use Rattle.md_hlds.specs.Switch.{Key}
use Rattle.md_names.specs.declared.named.Named.{Named}
use Rattle.md_names.specs.declared.named.Named.TheVariants.{Functor, Predicate, Nothing}
use Rattle.md_names.specs.Named.{name_at}
use Rattle.md_inst.specs.HldsTypes.{same_det}
use Rattle.md_modes.specs.Notes.{Role, constructs, closes, takes_apart, assigns, tests, applies, Note}
use Rattle.md_modes.specs.Classes.{role_at, state_at, outside_at}
use Rattle.md_switch.specs.Reading.{read_shape}
use Rattle.md_det.specs.declared.fault.DetFault.{DetFault}
use Rattle.md_det.specs.declared.fault.DetFault.TheVariants.{Declared, ManyInCondition, IoInBacktracking}
use Rattle.md_det.specs.declared.finding.Finding.{Finding}
use Rattle.md_det.specs.declared.finding.Switch.{Switch}
use Rattle.md_det.specs.declared.pair.Bound.TheVariants.{Zero}
use Rattle.md_det.specs.declared.pair.Pair.{Pair}
use Rattle.md_det.specs.Bounds.{is_many}
use Rattle.md_det.specs.Pairs.{pair, pair_of, det_of, allows, in_turn, alternatives, one_of_two, cut, with_missing}
use Rattle.md_det.specs.Switches.{no_functor_missing, is_alone, variable_of}
use Rattle.md_det.specs.Determinism.{sure, unsure, apart_pair, is_at, is_none_bound, call_pair, sort_pair}
use Rattle.md_det.specs.Faults.{has_world}

-- what a clause is judged by: the program, and the notes of all its goals
pub record Reading : Type 0 where
  pub program : Hlds
  pub notes : List Note

-- of a goal or of several: the pair, the first fault, and what is found at the goals, in text order
pub record Judgement : Type 0 where
  pub pair : Pair
  pub fault : Option DetFault
  pub findings : List Finding

abbrev pub judgement : Pair → Option DetFault → List Finding → Judgement
judgement p fault findings = record { pair = p; fault = fault; findings = findings }

-- the first of two faults
abbrev pub or_else : Option DetFault → Option DetFault → Option DetFault
or_else None g = g
or_else (Some f) g = Some f

abbrev pub fault_where : Bool → DetFault → Option DetFault
fault_where b f = cond b (Some f) None

-- ---- goals without parts

-- the type of the functor that a name stands for
abbrev pub type_of_name : Hlds → Named → Option HldsTypeDef
type_of_name p (Functor k) = slice_get p.types k
type_of_name p (Predicate q) = None
type_of_name p Nothing = None

-- that functor is the only one of its type
abbrev pub named_alone : Hlds → Named → Bool
named_alone p m = is_alone (type_of_name p m)

-- of a unification of the variable x with a term in which the name stands for m
abbrev pub read_role : Hlds → Option ℕ → ℕ → Named → Role → Pair
read_role p at x m constructs = sure
read_role p at x m closes = sure
read_role p at x m (assigns to) = sure
read_role p at x m tests = unsure
read_role p at x m (takes_apart bound) = apart_pair (is_none_bound bound && (is_at at x || named_alone p m))
read_role p at x m (applies u) = unsure

abbrev pub read_unification : Hlds → Option ℕ → ℕ → Named → Option Role → Pair
read_unification p at x m None = unsure
read_unification p at x m (Some r) = read_role p at x m r

-- of a call of the predicate that a name stands for
abbrev pub read_call : Hlds → Named → Pair
read_call p (Predicate q) = call_pair (nth_procedure p q)
read_call p (Functor k) = unsure
read_call p Nothing = unsure

abbrev pub read_apply : Option Role → Pair
read_apply (Some (applies t)) = sort_pair t
read_apply r = unsure

abbrev pub read_simple : Hlds → Option ℕ → Named → Option Role → Simple → Pair
read_simple p at m r Succeeds = sure
read_simple p at m r Fails = pair true Zero
read_simple p at m r (Unifies x t) = read_unification p at x m r
read_simple p at m r (Computes z a op b) = sure
read_simple p at m r (Compares a cmp b) = unsure
read_simple p at m r (WritesInt x before after) = sure
read_simple p at m r (WritesText x before after) = sure
read_simple p at m r (EndsLine before after) = sure
read_simple p at m r (Raises x) = pair false Zero

-- of a goal that is no conjunction and no branch, in which the name stands for m
abbrev pub read_atomic : Hlds → Option ℕ → Named → Option Role → GoalExpr → Pair
read_atomic p at m r (SimpleGoal g) = read_simple p at m r g
read_atomic p at m r (CallGoal site q ys) = read_call p m
read_atomic p at m r (HoCallGoal site f ys) = read_apply r
read_atomic p at m r t = unsure

-- ---- switches

-- the number of the unification that the first arm begins with, where that arm has the number n
abbrev pub first_goal : ℕ → HldsGoals → ℕ
first_goal n (also (At l (ConjGoal qs)) ps) = suc n
first_goal n ps = n

-- a unification that takes its left side apart: that variable is bound before it
abbrev pub is_apart : Option Role → Bool
is_apart (Some (takes_apart bound)) = true
is_apart r = false

-- no functor is missing: each one of the type of which the first key is, where that key's name stands for m, has its key
abbrev pub read_whole : Hlds → Named → List Key → Bool
read_whole p m ks = no_functor_missing ks (type_of_name p m)

-- the switch of this shape, if its variable is bound
abbrev pub shaped : Hlds → Named → Option (ℕ × List Key) → Option Switch
shaped p m None = None
shaped p m (Some shape) = Some (record { var = shape.0; whole = read_whole p m shape.1 })

-- the switch that a disjunction of these arms is, where the first of them has the number n
abbrev pub read_switch : Reading → ℕ → HldsGoals → Option Switch
read_switch r n ps =
    cond (is_apart (role_at r.notes (first_goal n ps))) (shaped r.program (name_at r.program (first_goal n ps)) (read_shape r.program n ps)) None

-- one arm and then others, of a switch on that variable or of no switch
abbrev pub beside : Option ℕ → Pair → Pair → Pair
beside None p q = alternatives p q
beside (Some x) p q = one_of_two p q

abbrev pub no_arm : Option ℕ → Pair
no_arm at = pair (is_none at) Zero

-- the pair of a disjunction from that of its arms
abbrev pub if_missing : Option Switch → Pair → Pair
if_missing None p = p
if_missing (Some w) p = with_missing w.whole p

-- ---- goals with parts

-- of a goal: the switch that it is, its pair, the first fault, and what is found at the goals within it
pub record Found : Type 0 where
  pub switch : Option Switch
  pub pair : Pair
  pub fault : Option DetFault
  pub below : List Finding

abbrev pub found : Option Switch → Pair → Option DetFault → List Finding → Found
found switch p fault below = record { switch = switch; pair = p; fault = fault; below = below }

-- a goal's judgement: its own finding goes before those within it
abbrev pub whole : Found → Judgement
whole f = judgement f.pair f.fault (record { switch = f.switch; pair = f.pair } ∷ f.below)

abbrev pub io_fault : Reading → ℕ → Bool → ℕ → Option DetFault
io_fault r n again l = fault_where (again && state_at r.notes n) (IoInBacktracking l)

-- a condition of this number and with this pair
abbrev pub condition_fault : Reading → ℕ → ℕ → Pair → Option DetFault
condition_fault r l n p = fault_where (is_many p.bound && outside_at r.notes n) (ManyInCondition l)

abbrev pub judge_atomic : Reading → ℕ → Option ℕ → Bool → ℕ → GoalExpr → Found
judge_atomic r n at again l t = found None (read_atomic r.program at (name_at r.program n) (role_at r.notes n) t) (io_fault r n again l) []

-- two goals in turn, and two arms
abbrev pub and_then : Judgement → Judgement → Judgement
and_then j k = judgement (in_turn j.pair k.pair) (or_else j.fault k.fault) (j.findings ++ k.findings)

abbrev pub or_arm : Option ℕ → Judgement → Judgement → Judgement
or_arm at j k = judgement (beside at j.pair k.pair) (or_else j.fault k.fault) (j.findings ++ k.findings)

abbrev pub chosen : Reading → ℕ → ℕ → (j k m : Judgement) → Found
chosen r n l j k m =
    found None (one_of_two k.pair m.pair) (or_else (condition_fault r l (suc n) j.pair) (or_else j.fault (or_else k.fault m.fault)))
    (j.findings ++ (k.findings ++ m.findings))

-- The goal of the number n. `at` is the variable of the switch whose arm it begins; `again` holds where a run may come back.
abbrev mutual
  pub judge_part : Reading → ℕ → Option ℕ → Bool → HldsGoal → Judgement
  judge_part r n at again (At l t) = whole (judge_expr r n at again l t)

  pub judge_expr : Reading → ℕ → Option ℕ → Bool → ℕ → GoalExpr → Found
  judge_expr r n at again l (SimpleGoal g) = judge_atomic r n at again l (SimpleGoal g)
  judge_expr r n at again l (CallGoal site q ys) = judge_atomic r n at again l (CallGoal site q ys)
  judge_expr r n at again l (HoCallGoal site f ys) = judge_atomic r n at again l (HoCallGoal site f ys)
  judge_expr r n at again l (ConjGoal ps) =
      let j = judge_each r (suc n) at again ps in
      found None j.pair j.fault j.findings
  judge_expr r n at again l (DisjGoal ps) =
      let w = read_switch r (suc n) ps in
      let j = judge_arms r (suc n) (variable_of w) (again || is_none w) ps in
      found w (if_missing w j.pair) j.fault j.findings
  judge_expr r n at again l (IfGoal c t e) =
      let j = judge_part r (suc n) None again c in
      let k = judge_part r (suc n + length j.findings) None again t in
      let m = judge_part r (suc n + length j.findings + length k.findings) None again e in
      chosen r n l j k m
  judge_expr r n at again l (NotGoal c) =
      let j = judge_part r (suc n) None again c in
      found None unsure (or_else (io_fault r n again l) j.fault) j.findings
  judge_expr r n at again l (SomeGoal vs c) =
      let j = judge_part r (suc n) None again c in
      found None (cut j.pair) (or_else (io_fault r n again l) j.fault) j.findings

  pub judge_each : Reading → ℕ → Option ℕ → Bool → HldsGoals → Judgement
  judge_each r n at again nothing = judgement sure None []
  judge_each r n at again (also p ps) =
      let j = judge_part r n at again p in
      and_then j (judge_each r (n + length j.findings) None (again || is_many j.pair.bound) ps)

  pub judge_arms : Reading → ℕ → Option ℕ → Bool → HldsGoals → Judgement
  judge_arms r n at again nothing = judgement (no_arm at) None []
  judge_arms r n at again (also p ps) =
      let j = judge_part r n at again p in
      or_arm at j (judge_arms r (n + length j.findings) at again ps)

-- ---- predicates

abbrev pub reading_of : Hlds → List Note → Reading
reading_of p ns = record { program = p; notes = ns }

-- an io state in a predicate that isn't det
abbrev pub state_fault : Procedure → Option DetFault
state_fault q = fault_where (has_world q.args && not (same_det q.det det.Det)) (IoInBacktracking q.line)

-- a body with this pair that does more than its declaration says
abbrev pub declared_fault : Procedure → Pair → Option DetFault
declared_fault q body = fault_where (not (allows (pair_of q.det) body)) (Declared q.line q.det (det_of body.may_fail body.bound))

-- a predicate whose body is judged so
abbrev pub declared : Procedure → Judgement → Judgement
declared q j = judgement j.pair (or_else (state_fault q) (or_else j.fault (declared_fault q j.pair))) j.findings

-- the predicate whose body has the number n
abbrev pub judge_procedure : Hlds → List Note → ℕ → Procedure → Judgement
judge_procedure p ns n q = declared q (judge_part (reading_of p ns) n None false q.body)

-- findings, and then what is found at other goals
abbrev pub onto : List Finding → Judgement → Judgement
onto fs j = judgement j.pair j.fault (fs ++ j.findings)

-- one predicate and then others; no pair is asked of them
abbrev pub and_others : Judgement → Judgement → Judgement
and_others j k = judgement sure (or_else j.fault k.fault) (j.findings ++ k.findings)

abbrev pub judge_procedures : Hlds → List Note → ℕ → List Procedure → Judgement
judge_procedures p ns n [] = judgement sure None []
judge_procedures p ns n (q ∷ qs) =
    let j = judge_procedure p ns n q in
    and_others j (judge_procedures p ns (n + length j.findings) qs)
