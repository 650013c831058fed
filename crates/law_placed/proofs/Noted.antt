-- What the checks note at the number of a goal is of the goal, whether or not a run comes to it: the role is one of its term,
-- and the switch one of its arms.
use Rattle.std.proofs.Common.{◌≡◌, refl, sym, ap, ◌∙◌, subst, ℕ, zero, suc, ◌<◌, List, [], ◌∷◌, ◌++◌, Option, Some, None, slice_get}
use Rattle.std.specs.List.{AllZip}
use Rattle.md_hlds.specs.HldsGoal.{HldsGoal, At, GoalExpr, SimpleGoal, CallGoal, HoCallGoal, ConjGoal, DisjGoal, IfGoal, NotGoal, SomeGoal, HldsGoals, nothing, also, goals_within, goals_below, goals_among}
use Rattle.md_hlds.specs.Hlds.{Procedure, Hlds, clause_goals, goal_at}
use Rattle.md_hlds.specs.Switch.{Key, switch_shape}
use Rattle.md_inst.specs.Instantiation.{Instantiation, free, has, InstMap, known_at, times}
use Rattle.md_modes.specs.Goals.{Scope, within, goal, parts_variables}
use Rattle.md_modes.specs.Modes.{entry, scope_of}
use Rattle.md_modes.specs.Notes.{Note, role_of, known_after, notes, inner_notes, each_notes, arm_notes, clause_notes, notes_from, program_notes}
use Rattle.md_modes.specs.Classes.{role_of_note, role_at}
use Rattle.md_det.specs.declared.finding.Finding.{Finding}
use Rattle.md_det.specs.declared.finding.Switch.{Switch}
use Rattle.md_det.specs.Switches.{is_whole, switch_on_known, switch_with, switch_of, variable_of}
use Rattle.md_det.specs.Findings.{expr_switch, findings, inner_findings, each_findings, arm_findings, findings_from, program_findings, switch_of_finding, switch_at}
use Rattle.law_safety.proofs.SwitchLemmas.{shape_occurs}

-- ---- two lists, side by side

zipped : {A B : Type 0} (R : A → B → Type 0) (xs : List A) (us : List B) (ys : List A) (vs : List B) → AllZip R xs us → AllZip R ys vs → AllZip R (xs ++ ys) (us ++ vs)
zipped R [] [] ys vs h k = k
zipped R [] (u ∷ us) ys vs h k = elim h [ ]
zipped R (x ∷ xs) [] ys vs h k = elim h [ ]
zipped R (x ∷ xs) (u ∷ us) ys vs h k = (h.0, zipped R xs us ys vs h.1 k)

beside : {A B : Type 0} (R : A → B → Type 0) (xs : List A) (us : List B) (n : ℕ) (x : A) → AllZip R xs us → slice_get xs n ≡ Some x → (u : B) × (slice_get us n ≡ Some u) × R x u
beside R [] us n x h is = absurd (cc is)
beside R (y ∷ xs) [] n x h is = elim h [ ]
beside R (y ∷ xs) (u ∷ us) zero x h is = let e : y ≡ x = cc is in (u, refl, subst (λ z. R z u) e h.0)
beside R (y ∷ xs) (u ∷ us) (suc n) x h is = beside R xs us n x h.1 is

-- ---- roles

-- the note has a role of the goal's term
abbrev IsNoted : Hlds → HldsGoal → Note → Type 0
IsNoted s (At l t) note = (known : InstMap) × (note.role ≡ role_of s t known)

mutual
  goal_noted : (c : Scope) (g : HldsGoal) (known : InstMap) → AllZip (IsNoted c.program) (goals_within g) (notes c g known)
  goal_noted c (At l t) known = ((known, refl), below_noted c t known)

  below_noted : (c : Scope) (t : GoalExpr) (known : InstMap) → AllZip (IsNoted c.program) (goals_below t) (inner_notes c t known)
  below_noted c (SimpleGoal g) known = tt
  below_noted c (CallGoal site q ys) known = tt
  below_noted c (HoCallGoal site f ys) known = tt
  below_noted c (ConjGoal ps) known = parts_noted c ps known
  below_noted c (DisjGoal ps) known = arms_noted c ps known
  below_noted c (IfGoal p t e) known =
      let later = known_after known (goal (within c) p known) in
      zipped (IsNoted c.program) (goals_within p) (notes (within c) p known) (goals_within t ++ goals_within e) (notes c t later ++ notes c e known) (goal_noted (within c) p known)
      (zipped (IsNoted c.program) (goals_within t) (notes c t later) (goals_within e) (notes c e known) (goal_noted c t later) (goal_noted c e known))
  below_noted c (NotGoal p) known = goal_noted (within c) p known
  below_noted c (SomeGoal vs p) known = goal_noted (within c) p known

  parts_noted : (c : Scope) (ps : HldsGoals) (known : InstMap) → AllZip (IsNoted c.program) (goals_among ps) (each_notes c ps known)
  parts_noted c nothing known = tt
  parts_noted c (also p ps) known =
      let later = known_after known (goal c p known) in
      zipped (IsNoted c.program) (goals_within p) (notes c p known) (goals_among ps) (each_notes c ps later) (goal_noted c p known) (parts_noted c ps later)

  arms_noted : (c : Scope) (ps : HldsGoals) (known : InstMap) → AllZip (IsNoted c.program) (goals_among ps) (arm_notes c ps known)
  arms_noted c nothing known = tt
  arms_noted c (also p ps) known = zipped (IsNoted c.program) (goals_within p) (notes c p known) (goals_among ps) (arm_notes c ps known) (goal_noted c p known) (arms_noted c ps known)

clauses_noted : (s : Hlds) (ps : List Procedure) → AllZip (IsNoted s) (clause_goals ps) (notes_from s ps)
clauses_noted s [] = tt
clauses_noted s (p ∷ ps) = zipped (IsNoted s) (goals_within p.body) (clause_notes s p) (clause_goals ps) (notes_from s ps) (goal_noted (scope_of s p) p.body (entry p)) (clauses_noted s ps)

program_noted : (s : Hlds) → AllZip (IsNoted s) (clause_goals s.procedures) (program_notes s)
unfolding program_notes
program_noted s = clauses_noted s s.procedures

pub role_noted : (s : Hlds) (n l : ℕ) (t : GoalExpr) → goal_at s n ≡ Some (At l t) → (known : InstMap) × (role_at (program_notes s) n ≡ role_of s t known)
role_noted s n l t is = let u = beside (IsNoted s) (clause_goals s.procedures) (program_notes s) n (At l t) (program_noted s) is in (u.2.0, ap (λ o. role_of_note o) u.1 ∙ u.2.1)

-- ---- switches

-- the finding has a switch of the goal's arms
abbrev IsFound : Hlds → HldsGoal → Finding → Type 0
IsFound s (At l t) finding = (known : InstMap) × (finding.switch ≡ expr_switch s t known)

mutual
  goal_found : (c : Scope) (at : Option ℕ) (g : HldsGoal) (known : InstMap) → AllZip (IsFound c.program) (goals_within g) (findings c at g known)
  goal_found c at (At l t) known = ((known, refl), below_found c at t known)

  below_found : (c : Scope) (at : Option ℕ) (t : GoalExpr) (known : InstMap) → AllZip (IsFound c.program) (goals_below t) (inner_findings c at t known)
  below_found c at (SimpleGoal g) known = tt
  below_found c at (CallGoal site q ys) known = tt
  below_found c at (HoCallGoal site f ys) known = tt
  below_found c at (ConjGoal ps) known = parts_found c at ps known
  below_found c at (DisjGoal ps) known = arms_found c (variable_of (switch_of c.program ps known)) ps known
  below_found c at (IfGoal p t e) known =
      let later = known_after known (goal (within c) p known) in
      zipped (IsFound c.program) (goals_within p) (findings (within c) None p known) (goals_within t ++ goals_within e) (findings c None t later ++ findings c None e known) (goal_found (within c) None p known)
      (zipped (IsFound c.program) (goals_within t) (findings c None t later) (goals_within e) (findings c None e known) (goal_found c None t later) (goal_found c None e known))
  below_found c at (NotGoal p) known = goal_found (within c) None p known
  below_found c at (SomeGoal vs p) known = goal_found (within c) None p known

  parts_found : (c : Scope) (at : Option ℕ) (ps : HldsGoals) (known : InstMap) → AllZip (IsFound c.program) (goals_among ps) (each_findings c at ps known)
  parts_found c at nothing known = tt
  parts_found c at (also p ps) known =
      let later = known_after known (goal c p known) in
      zipped (IsFound c.program) (goals_within p) (findings c at p known) (goals_among ps) (each_findings c None ps later) (goal_found c at p known) (parts_found c None ps later)

  arms_found : (c : Scope) (at : Option ℕ) (ps : HldsGoals) (known : InstMap) → AllZip (IsFound c.program) (goals_among ps) (arm_findings c at ps known)
  arms_found c at nothing known = tt
  arms_found c at (also p ps) known = zipped (IsFound c.program) (goals_within p) (findings c at p known) (goals_among ps) (arm_findings c at ps known) (goal_found c at p known) (arms_found c at ps known)

clauses_found : (s : Hlds) (ps : List Procedure) → AllZip (IsFound s) (clause_goals ps) (findings_from s ps)
clauses_found s [] = tt
clauses_found s (p ∷ ps) =
    zipped (IsFound s) (goals_within p.body) (findings (scope_of s p) None p.body (entry p)) (clause_goals ps) (findings_from s ps) (goal_found (scope_of s p) None p.body (entry p)) (clauses_found s ps)

program_found : (s : Hlds) → AllZip (IsFound s) (clause_goals s.procedures) (program_findings s)
unfolding program_findings
program_found s = clauses_found s s.procedures

switch_found : (s : Hlds) (n l : ℕ) (t : GoalExpr) → goal_at s n ≡ Some (At l t) → (known : InstMap) × (switch_at (program_findings s) n ≡ expr_switch s t known)
switch_found s n l t is = let u = beside (IsFound s) (clause_goals s.procedures) (program_findings s) n (At l t) (program_found s) is in (u.2.0, ap (λ o. switch_of_finding o) u.1 ∙ u.2.1)

on_known : (s : Hlds) (x : ℕ) (keys : List Key) (k : Instantiation) (w : Switch) → switch_on_known s x keys k ≡ Some w → x ≡ w.var
on_known s x keys free w is = absurd (cc is)
on_known s x keys (has t used) w is = let e : record { var = x; whole = is_whole s keys } ≡ w = cc is in ap (λ (v : Switch). v.var) e

with_shape : (s : Hlds) (ps : HldsGoals) (o : Option (ℕ × List Key)) (known : InstMap) (w : Switch) → switch_shape s ps ≡ o → switch_with s o known ≡ Some w → 0 < times w.var (parts_variables ps)
with_shape s ps None known w shape is = absurd (cc is)
with_shape s ps (Some k) known w shape is =
    subst (λ x. 0 < times x (parts_variables ps)) (on_known s k.0 k.1 (known_at known k.0) w is) (shape_occurs s ps k.0 k.1 shape)

-- the variable of the switch that a disjunction is occurs in its arms
pub switch_variable : (s : Hlds) (n l : ℕ) (ps : HldsGoals) (w : Switch) → goal_at s n ≡ Some (At l (DisjGoal ps)) → switch_at (program_findings s) n ≡ Some w → 0 < times w.var (parts_variables ps)
switch_variable s n l ps w at is = let u = switch_found s n l (DisjGoal ps) at in with_shape s ps (switch_shape s ps) u.0 w refl (sym u.1 ∙ is)
